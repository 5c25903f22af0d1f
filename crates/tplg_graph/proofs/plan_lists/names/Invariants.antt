use Rattle.std.proofs.Common.{◌≡◌, take}
use Rattle.tplg_graph.specs.PlanLists.{names_on}
use Rattle.tplg_graph.proofs.plan_lists.names.Given as goal

abbrev pub invariant-loop-part : goal.invariant-loop-part
invariant-loop-part l = l.out.items ≡ names_on (take l.part-index l.parts)
