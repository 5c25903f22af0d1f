use Rattle.std.proofs.Common.{◌≡◌, filter, take, length, nat_le}
use Rattle.fw_components.specs.Tables.{held_frames}
use Rattle.fw_moves.specs.Moving.{AreAt}
use Rattle.fw_schedule.proofs.ticking.holding.Given as goal

abbrev pub invariant-loop-i : goal.invariant-loop-i
invariant-loop-i l = record {
  ids : l.holding.items ≡ filter (λ b. nat_le 1 (length (held_frames l.registry b))) (take l.i l.inlets);
  places : AreAt l.registry.buffers l.holding.items l.from.items;
}
