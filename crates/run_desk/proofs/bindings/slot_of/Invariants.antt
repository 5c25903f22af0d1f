use Rattle.std.proofs.Common.{◌≡◌, drop}
use Rattle.run_desk.specs.BindingParts.{slot_of}
use Rattle.run_desk.proofs.BindingLaws.{slot_in}
use Rattle.run_desk.proofs.bindings.slot_of.Given as goal

-- none of the components before is sought
abbrev pub invariant-loop-comp : goal.invariant-loop-comp
invariant-loop-comp l = slot_in l.plan l.input l.name (drop l.comp-index l.plan.graph.comps) ≡ slot_of l.plan l.input l.name
