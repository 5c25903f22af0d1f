use Rattle.std.proofs.Common.{w32}
use Rattle.eq_biquad.proofs.PairLaws.{pair-again}
use Rattle.eq_biquad.proofs.pair_arithmetic.parts.Goals as goal

pub returns : goal.returns
returns c = pair-again w32 c.args.pair c.requires
