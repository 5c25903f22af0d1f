use Rattle.std.proofs.Common.{take}
use Rattle.std.specs.Prelude.{⊤}
use Rattle.std.specs.List.{AllByRecursion}
use Rattle.host_dynamic.specs.Spreading.{NotesMore, BringsEnds}
use Rattle.host_dynamic.proofs.needing.note_ends.Given as goal

abbrev pub invariant-loop-edge : goal.invariant-loop-edge
invariant-loop-edge l = record {
  more : NotesMore l.plan.graph (λ p. ⊤) l.fn.needed.items l.needed.items;
  brought : AllByRecursion (BringsEnds l.plan.graph l.fn.needed.items l.needed.items) (take l.edge-index l.plan.graph.edges);
}
