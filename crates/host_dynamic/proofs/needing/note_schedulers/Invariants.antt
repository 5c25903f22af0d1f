use Rattle.std.proofs.Common.{take}
use Rattle.std.specs.Prelude.{⊤}
use Rattle.std.specs.List.{AllByRecursion}
use Rattle.host_dynamic.specs.Spreading.{NotesMore, BringsScheduler}
use Rattle.host_dynamic.proofs.needing.note_schedulers.Given as goal

abbrev pub invariant-loop-pipe : goal.invariant-loop-pipe
invariant-loop-pipe l = record {
  more : NotesMore l.plan.graph (λ p. ⊤) l.fn.needed.items l.needed.items;
  brought : AllByRecursion (BringsScheduler l.plan.graph l.fn.needed.items l.needed.items) (take l.pipe-index l.plan.graph.pipes);
}
