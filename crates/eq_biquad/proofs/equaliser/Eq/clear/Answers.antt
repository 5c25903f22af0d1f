use Rattle.std.proofs.Common.{◌≡◌, refl, ap, sym, subst, ◌∙◌, ℤ, pos, List, length, take, drop, replicate, arith, take_at}
use Rattle.std.specs.List.{refill}
use Rattle.sof_base.specs.BlobParts.{IsBlob}
use Rattle.eq_blob.specs.WordBytes.{bytes_of_words}
use Rattle.eq_biquad.specs.PieceWords.{words_from, AreNumbers}
use Rattle.eq_biquad.specs.Passing.{in_turn, channel_numbers}
use Rattle.eq_biquad.proofs.NumberLaws.{fresh-zero, are-zero}
use Rattle.eq_biquad.proofs.PartLaws.{from-same}
use Rattle.eq_biquad.proofs.equaliser.Eq.clear.Goals as goal

pub invariant_of-self : goal.invariant_of-self
invariant_of-self c =
    let e = c.self.inside in let v = c.self.invariant in let old = e.piece.words in let ws = c.clear_numbers.new.words in
    let same : length ws ≡ length old = omega (arith, c.clear_numbers.auto.words, ap length c.words_mut.ensures.value) in
    let all : refill (length old) old ws ≡ ws = take_at ws (drop (length ws) old) (length old) same in
    let before : take 528 (refill (length old) old ws) ≡ take 528 old = ap (take 528) all ∙ c.clear_numbers.ensures.before ∙ ap (take 528) c.words_mut.ensures.value in
    record {
      size = (v.size.0, ap length all ∙ same ∙ v.size.1);
      len = v.len;
      blob = λ some. subst (λ (l : List ℤ). IsBlob (take e.len (bytes_of_words l))) (sym (from-same 528 16 256 (refill (length old) old ws) old (omega arith) before)) (v.blob some);
      numbers = subst AreNumbers (sym (ap (drop 528) all ∙ c.clear_numbers.ensures.numbers)) (are-zero 512);
    }

pub returns-clause-numbers : goal.returns-clause-numbers
returns-clause-numbers c =
    let e = c.self.inside in let old = e.piece.words in let ws = c.clear_numbers.new.words in
    let same : length ws ≡ length old = omega (arith, c.clear_numbers.auto.words, ap length c.words_mut.ensures.value) in
    let all : refill (length old) old ws ≡ ws = take_at ws (drop (length ws) old) (length old) same in
    let before : take 528 (refill (length old) old ws) ≡ take 528 old = ap (take 528) all ∙ c.clear_numbers.ensures.before ∙ ap (take 528) c.words_mut.ensures.value in
    let after : drop 528 (refill (length old) old ws) ≡ replicate 512 (pos 0) = ap (drop 528) all ∙ c.clear_numbers.ensures.numbers in
    let front = from-same 528 16 256 (refill (length old) old ws) old (omega arith) before in
    rw (← c.self.view_is) (λ channels. (λ i. in_turn 0 (channel_numbers (take e.len (bytes_of_words (front i))) (after i)) channels) ∙ fresh-zero (take e.len (bytes_of_words (words_from 16 256 old))) 512 0 channels)

pub returns-clause-same : goal.returns-clause-same
returns-clause-same c =
    let e = c.self.inside in let old = e.piece.words in let ws = c.clear_numbers.new.words in
    let same : length ws ≡ length old = omega (arith, c.clear_numbers.auto.words, ap length c.words_mut.ensures.value) in
    let all : refill (length old) old ws ≡ ws = take_at ws (drop (length ws) old) (length old) same in
    let before : take 528 (refill (length old) old ws) ≡ take 528 old = ap (take 528) all ∙ c.clear_numbers.ensures.before ∙ ap (take 528) c.words_mut.ensures.value in
    rw (← c.self.view_is) (record {
      blob = ap (λ (l : List ℤ). take e.len (bytes_of_words l)) (from-same 528 16 256 (refill (length old) old ws) old (omega arith) before);
      staged = ap bytes_of_words (from-same 528 272 256 (refill (length old) old ws) old (omega arith) before);
      home = refl;
      place = refl;
      size = refl;
    })
