use Rattle.std.proofs.Common.{◌≡◌, ◌≤◌, ◌-◌, vec_capacity}
use Rattle.fw_moves.specs.Processed.{chosen_by, output_number}
use Rattle.fw_moves.specs.Moving.{IsMoved}
use Rattle.fw_moves.proofs.moving.steps.Given as goal

-- so far it has moved some of the frames
abbrev pub invariant-loop-moved : goal.invariant-loop-moved
invariant-loop-moved l = record {
  within : l.moved ≤ l.n;
  so_far : IsMoved (chosen_by l.fn.component.unit l.fn.component.id l.joins) (output_number l.joins l.fn.component.id) l.looked l.fed l.moved l.fn.buffers.items l.fn.component l.buffers.items l.component;
  capacity : vec_capacity l.buffers ≡ vec_capacity l.fn.buffers;
}

abbrev pub decreases-loop-moved : goal.decreases-loop-moved
decreases-loop-moved l = l.n - l.moved
