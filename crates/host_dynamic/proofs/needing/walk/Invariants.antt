use Rattle.std.proofs.Common.{◌≡◌, ℕ, Bool, length}
use Rattle.host_dynamic.specs.Spreading.{AllAllowed, AreKept}
use Rattle.host_dynamic.proofs.Marked.{still_unmarked}
use Rattle.host_dynamic.proofs.needing.walk.Given as goal

abbrev pub invariant-loop-join : goal.invariant-loop-join
invariant-loop-join l = record {
  size : length l.marks ≡ 288;
  kept : AreKept l.fn.marks l.marks;
  sound : (p : ℕ → Bool) → AllAllowed l.graph l.back p l.fn.marks → AllAllowed l.graph l.back p l.marks;
}

abbrev pub decreases-loop-join : goal.decreases-loop-join
decreases-loop-join l = still_unmarked l.marks
