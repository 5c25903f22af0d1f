use Rattle.std.proofs.Common.{◌≡◌, take, drop}
use Rattle.sof_script.specs.ScriptRead.{bounds_of}
use Rattle.run_desk.specs.Bindings.{wrong_behind, wrong_binding}
use Rattle.run_desk.proofs.bindings.wrong_binding.Given as goal

-- none of those before is wrong
abbrev pub invariant-loop-binding : goal.invariant-loop-binding
invariant-loop-binding l = record {
  place : l.earlier ≡ l.binding-index;
  so_far : wrong_behind l.fn.plan (bounds_of (take l.binding-index l.bindings)) (bounds_of (drop l.binding-index l.bindings)) ≡ wrong_binding l.fn.plan (bounds_of l.bindings);
}
