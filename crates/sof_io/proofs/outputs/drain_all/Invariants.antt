use Rattle.std.proofs.Common.{◌≡◌, ◌++◌, take, drop}
use Rattle.sof_base.specs.DrainedOutputs.{drained}
use Rattle.sof_io.proofs.outputs.drain_all.Given as goal

-- those before the index are drained, and the others are as they were
abbrev pub invariant-loop-output : goal.invariant-loop-output
invariant-loop-output l = l.outputs ≡ drained (take l.output-index l.initial.outputs) ++ drop l.output-index l.initial.outputs
