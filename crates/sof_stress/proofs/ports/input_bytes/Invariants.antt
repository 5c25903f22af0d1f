use Rattle.std.proofs.Common.{◌≡◌, map}
use Rattle.std.specs.List.{range_with_len}
use Rattle.sof_stress.specs.GraphParts.{input_byte}
use Rattle.sof_stress.proofs.ports.input_bytes.Given as goal

abbrev pub invariant-loop-j : goal.invariant-loop-j
invariant-loop-j l = l.bytes.items ≡ map (input_byte l.i) (range_with_len 0 l.j)
