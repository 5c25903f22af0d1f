use Rattle.eq_biquad.proofs.MarkLaws.{joined-left, joined-right, both-joined-fit}
use Rattle.eq_biquad.proofs.pair_arithmetic.join_both.Goals as goal

pub returns-clause-left : goal.returns-clause-left
returns-clause-left c = joined-left c.args.a c.args.b c.requires.first c.requires.second

pub returns-clause-right : goal.returns-clause-right
returns-clause-right c = joined-right c.args.a c.args.b c.requires.first c.requires.second

pub returns-clause-fit : goal.returns-clause-fit
returns-clause-fit c = both-joined-fit c.args.a c.args.b c.requires.first c.requires.second
