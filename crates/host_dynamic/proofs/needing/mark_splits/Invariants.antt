use Rattle.std.proofs.Common.{◌≡◌, ℕ, Bool, length, take}
use Rattle.std.specs.List.{AllByRecursion}
use Rattle.host_widgets.specs.Need.{HasBrought}
use Rattle.host_dynamic.specs.Spreading.{AllAllowed, AreKept, HasNoted, IsSplitMarked}
use Rattle.host_dynamic.proofs.needing.mark_splits.Given as goal

abbrev pub invariant-loop-comp : goal.invariant-loop-comp
invariant-loop-comp l = record {
  size : length l.marks ≡ 288;
  kept : AreKept l.fn.marks l.marks;
  marked : AllByRecursion (IsSplitMarked l.needed l.marks) (take l.comp-index l.graph.comps);
  sound : (back : Bool) (p : ℕ → Bool) → HasBrought l.graph p → HasNoted p l.needed → AllAllowed l.graph back p l.fn.marks → AllAllowed l.graph back p l.marks;
}
