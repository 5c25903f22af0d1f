use Rattle.eq_biquad.proofs.MarkLaws.{taken-left, taken-right, both-taken-again, both-taken-fit, both-marks-fit}
use Rattle.eq_biquad.proofs.pair_arithmetic.take_both.Goals as goal

pub overflow_cast-result : goal.overflow_cast-result
overflow_cast-result c = both-taken-fit c.args.a c.args.b c.requires.first c.requires.second

pub returns-clause-left : goal.returns-clause-left
returns-clause-left c = taken-left c.args.a c.args.b c.requires.first c.requires.second c.requires.sums.0

pub returns-clause-right : goal.returns-clause-right
returns-clause-right c = taken-right c.args.a c.args.b c.requires.first c.requires.second c.requires.sums.1

pub returns-clause-fit : goal.returns-clause-fit
returns-clause-fit c = both-taken-again c.args.a c.args.b c.requires.first c.requires.second

pub returns-clause-marks : goal.returns-clause-marks
returns-clause-marks c = both-marks-fit c.args.a c.args.b c.requires.first c.requires.second
