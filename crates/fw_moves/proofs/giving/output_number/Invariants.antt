use Rattle.std.proofs.Common.{◌≡◌, ◌+◌, ◌≤◌, drop}
use Rattle.fw_moves.specs.Processed.{output_number}
use Rattle.fw_moves.proofs.giving.output_number.Given as goal

-- the number is that of those so far, and of the outputs after them
abbrev pub invariant-loop-join : goal.invariant-loop-join
invariant-loop-join l = record {
  within : l.number ≤ l.join-index;
  rest : output_number l.joins l.id l.outlet ≡ l.number + output_number (drop l.join-index l.joins) l.id l.outlet;
}
