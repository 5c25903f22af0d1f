use Rattle.eq_biquad.proofs.NearLaws.{is_first}
use Rattle.eq_biquad.proofs.pair_numbers.ahead_of.Goals as goal

pub returns : goal.returns
returns c = is_first c.args.first c.requires
