use Rattle.std.proofs.Common.{◌≡◌, ltb-true, arith, rules, w64, of_z}
use Rattle.eq_biquad.proofs.MarkLaws.{clear-of}
use Rattle.eq_biquad.proofs.pair_arithmetic.is_clear.Goals as goal

pub returns : goal.returns
returns c = λ e.
    let is : c.cast_unsigned.result ≡ of_z w64 c.args.mark = search rules in let low = ltb-true c.cast_unsigned.result 4611686018427387904 e in
    clear-of c.args.mark c.ranges.mark (omega (arith, is, low))
