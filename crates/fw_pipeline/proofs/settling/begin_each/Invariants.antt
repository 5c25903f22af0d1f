use Rattle.std.proofs.Common.{take}
use Rattle.fw_pipeline.specs.Settling.{begins_by}
use Rattle.fw_pipeline.proofs.Begins.{FirstBegun}
use Rattle.fw_pipeline.proofs.settling.begin_each.Given as goal

abbrev pub invariant-loop-id : goal.invariant-loop-id
invariant-loop-id l = FirstBegun l.p.channels l.p.rate (begins_by l.places.ids l.before l.after) (take l.id-index l.places.ids) l.initial.registry l.registry
