use Rattle.sof_session.proofs.UpSteps.{row-a, row-b, shows-a, shows-b}
use Rattle.sof_session.proofs.laws.mix_rows.Goals as goal

pub returns-clause-refused : goal.returns-clause-refused
returns-clause-refused c = row-a

pub returns-clause-stays : goal.returns-clause-stays
returns-clause-stays c = row-b

pub returns-clause-refused_shows : goal.returns-clause-refused_shows
returns-clause-refused_shows c = shows-a

pub returns-clause-stays_shows : goal.returns-clause-stays_shows
returns-clause-stays_shows c = shows-b
