use Rattle.std.proofs.Common.{◌-◌}
use Rattle.tplg_model.specs.Reading.{items_at}
use Rattle.tplg_read.proofs.LoopLaws.{SoFar}
use Rattle.tplg_read.proofs.items.items_at.Given as goal

abbrev pub invariant-loop : goal.invariant-loop
invariant-loop g l = SoFar g.I.Item.step (l.count - l.counter) l.at l.bytes l.items l.used (items_at g.I.Item.step l.count l.at l.bytes)
