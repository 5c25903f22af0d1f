use Rattle.std.proofs.Common.{w64}
use Rattle.eq_biquad.proofs.PairLaws.{pair-again}
use Rattle.eq_biquad.proofs.pair_arithmetic.wide_parts.Goals as goal

pub returns : goal.returns
returns c = pair-again w64 c.args.pair c.requires
