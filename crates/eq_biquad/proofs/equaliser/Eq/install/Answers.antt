use Rattle.std.proofs.Common.{◌≡◌, ap, sym, subst, ◌∙◌, ℤ, List, length, take, drop, arith, take_at}
use Rattle.std.specs.List.{refill}
use Rattle.sof_base.specs.BlobParts.{IsBlob}
use Rattle.eq_blob.specs.WordBytes.{bytes_of_words}
use Rattle.eq_biquad.specs.PieceWords.{words_from, AreNumbers}
use Rattle.eq_biquad.specs.Passing.{in_turn, channel_numbers}
use Rattle.sof_base.proofs.BlobLaws.{sound}
use Rattle.eq_biquad.proofs.NumberLaws.{fresh-zero, are-zero}
use Rattle.eq_biquad.proofs.equaliser.Eq.install.Goals as goal

pub install_words-requires-clause-blob : goal.install_words-requires-clause-blob
install_words-requires-clause-blob c = (sound c.args.blob.now c.requires).long.1

pub overflow_cast-self : goal.overflow_cast-self
overflow_cast-self c = let low = (sound c.args.blob.now c.requires).long.1 in record { fits = omega (arith, low) }

pub invariant_of-self : goal.invariant_of-self
invariant_of-self c =
    let e = c.self.inside in let v = c.self.invariant in let old = e.piece.words in let ws = c.install_words.new.words in
    let same : length ws ≡ length old = omega (arith, c.install_words.auto.words, ap length c.words_mut.ensures.value) in
    let all : refill (length old) old ws ≡ ws = take_at ws (drop (length ws) old) (length old) same in
    record {
      size = (v.size.0, ap length all ∙ same ∙ v.size.1);
      len = (sound c.args.blob.now c.requires).long.1;
      blob = λ some. subst IsBlob (sym (ap (λ (l : List ℤ). take (length c.args.blob.now) (bytes_of_words (words_from 16 256 l))) all ∙ c.install_words.ensures.blob)) c.requires;
      numbers = subst AreNumbers (sym (ap (drop 528) all ∙ c.install_words.ensures.numbers)) (are-zero 512);
    }

pub returns-clause-numbers : goal.returns-clause-numbers
returns-clause-numbers c = λ channels.
    let e = c.self.inside in let old = e.piece.words in let ws = c.install_words.new.words in
    let same : length ws ≡ length old = omega (arith, c.install_words.auto.words, ap length c.words_mut.ensures.value) in
    let all : refill (length old) old ws ≡ ws = take_at ws (drop (length ws) old) (length old) same in
    (λ i. in_turn 0 (channel_numbers ((ap (λ (l : List ℤ). take (length c.args.blob.now) (bytes_of_words (words_from 16 256 l))) all ∙ c.install_words.ensures.blob) i) ((ap (drop 528) all ∙ c.install_words.ensures.numbers) i)) channels)
    ∙ fresh-zero c.args.blob.now 512 0 channels
