use Rattle.host_dynamic.proofs.PartViews.{part-shows}
use Rattle.host_widgets.proofs.PartsBetween.{part-echo, part-way, part-touch}
use Rattle.host_dynamic.proofs.laws.part_law.Goals as goal

pub returns-clause-shows : goal.returns-clause-shows
returns-clause-shows c = λ plan kept up same. part-shows plan kept up same

pub returns-clause-echoes : goal.returns-clause-echoes
returns-clause-echoes c = λ plan sound up brought b there. part-echo plan sound up brought b there

pub returns-clause-ways : goal.returns-clause-ways
returns-clause-ways c = λ plan sound up host enough x. part-way plan sound up host enough x

pub returns-clause-touches : goal.returns-clause-touches
returns-clause-touches c = λ plan sound up a b first second. part-touch plan sound up a b first second
