use Rattle.std.proofs.Common.{◌≡◌}
use Rattle.sof_stress.specs.StressPorts.{stress_inputs}
use Rattle.sof_stress.proofs.ports.inputs_of.Given as goal

abbrev pub invariant-loop-i : goal.invariant-loop-i
invariant-loop-i l = l.inputs ≡ stress_inputs l.i
