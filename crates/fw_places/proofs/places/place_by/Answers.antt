use Rattle.fw_places.proofs.Charts.{noted-first}
use Rattle.fw_places.proofs.places.place_by.Goals as goal

pub returns-then-ids-first-clause-place : goal.returns-then-ids-first-clause-place
returns-then-ids-first-clause-place c = noted-first c.args.ids.now c.args.firsts.now c.requires.noted c.args.id c.from-first.result c.from-first.ensures c.if-first-ids.true c.if-ids-first.true
