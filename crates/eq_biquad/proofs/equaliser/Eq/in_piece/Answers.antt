use Rattle.std.proofs.Common.{◌≡◌, ap, sym, subst, ◌∙◌, length, drop, arith, take_at}
use Rattle.std.specs.List.{refill}
use Rattle.eq_biquad.specs.PieceWords.{AreNumbers}
use Rattle.eq_biquad.proofs.NumberLaws.{are-zero}
use Rattle.eq_biquad.proofs.equaliser.Eq.in_piece.Goals as goal

pub invariant_of-result : goal.invariant_of-result
invariant_of-result c =
    let old = c.args.piece.words in let ws = c.clear_numbers.new.words in
    let same : length ws ≡ length old = omega (arith, c.clear_numbers.auto.words, ap length c.words_mut.ensures.value) in
    let all : refill (length old) old ws ≡ ws = take_at ws (drop (length ws) old) (length old) same in
    record {
      size = (c.requires, omega (arith, ap length all, same, c.size-size.ensures.words, c.requires));
      len = omega arith;
      blob = λ some. absurd (omega arith);
      numbers = subst AreNumbers (sym (ap (drop 528) all ∙ c.clear_numbers.ensures.numbers)) (are-zero 512);
    }
