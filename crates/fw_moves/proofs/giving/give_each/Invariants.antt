use Rattle.std.proofs.Common.{◌≡◌, ◌==◌, map, take, length, vec_capacity}
use Rattle.std.specs.Prelude.{find}
use Rattle.sof_base.specs.FrameLists.{frames_of}
use Rattle.fw_units.specs.Frames.{words_by}
use Rattle.fw_moves.specs.Processed.{output_number, output_frames, fed_at}
use Rattle.fw_moves.proofs.giving.give_each.Given as goal

-- those so far have what they are to have
abbrev pub invariant-loop-i : goal.invariant-loop-i
invariant-loop-i l = record {
  so_far : l.buffers.items ≡ map (fed_at (take l.i l.fed) (λ b. output_frames l.component.unit l.component.channels (output_number l.joins l.component.id b) (frames_of l.component.channels l.n l.made)) (λ b. words_by (find (λ x. x.id == b) l.buffers.items))) l.fn.buffers.items;
  capacity : vec_capacity l.buffers ≡ vec_capacity l.fn.buffers;
  size : length l.kept ≡ length l.fn.kept;
}
