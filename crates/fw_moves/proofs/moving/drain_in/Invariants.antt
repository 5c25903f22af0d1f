use Rattle.std.proofs.Common.{◌≡◌, map, take, vec_capacity}
use Rattle.fw_moves.specs.Processed.{drained_at}
use Rattle.fw_moves.proofs.moving.drain_in.Given as goal

-- those so far have lost them
abbrev pub invariant-loop-at : goal.invariant-loop-at
invariant-loop-at l = record {
  so_far : l.components.items ≡ map (drained_at (take l.at-index l._looked) l.n) l.initial.components.items;
  capacity : vec_capacity l.components ≡ vec_capacity l.initial.components;
}
