use Rattle.std.proofs.Common.{◌≡◌, ℕ, Bool, length}
use Rattle.host_dynamic.specs.Spreading.{AllAllowed, AreKept}
use Rattle.host_dynamic.proofs.needing.pass.Given as goal

abbrev pub invariant-loop-join : goal.invariant-loop-join
invariant-loop-join l = record {
  size : length l.marks ≡ 288;
  kept : AreKept l.fn.marks l.marks;
  sound : (p : ℕ → Bool) → AllAllowed l.graph l.back p l.fn.marks → AllAllowed l.graph l.back p l.marks;
}
