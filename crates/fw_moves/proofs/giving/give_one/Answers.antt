use Rattle.std.proofs.Common.{sym, ap, ◌∙◌, ◌%◌, ◌==◌, List, map, length, ℤ}
use Rattle.std.proofs.Math.Nat.{mul-mod_left}
use Rattle.std.specs.Prelude.{find}
use Rattle.sof_base.specs.Samples.{Frame}
use Rattle.sof_base.specs.FrameLists.{frames_of}
use Rattle.fw_units.specs.Frames.{words_by, pushed_at}
use Rattle.fw_moves.specs.Processed.{output_number}
use Rattle.fw_moves.proofs.OutletLaws.{output-frames, output-long}
use Rattle.fw_moves.proofs.giving.give_one.Goals as goal

pub part_of-part-requires-clause-whole : goal.part_of-part-requires-clause-whole
part_of-part-requires-clause-whole c = ap (λ k. k % c.args.component.now.channels) c.requires.made ∙ mul-mod_left c.args.n c.args.component.now.channels

pub part_of-part-requires-clause-kept : goal.part_of-part-requires-clause-kept
part_of-part-requires-clause-kept c = c.requires.kept ∙ sym c.requires.made

pub put-requires-clause-part : goal.put-requires-clause-part
put-requires-clause-part c =
    let x = c.args.component.now in
    ap (λ (xs : List ℤ). length xs) c.part_of-part.ensures ∙ output-long x.channels (output_number c.args.joins.now x.id c.args.outlet) x.unit c.args.made.now ∙ c.requires.made

pub returns-clause-items : goal.returns-clause-items
returns-clause-items c =
    let x = c.args.component.now in let cs = c.args.buffers.now.items in let b = c.args.outlet in let n = c.args.n in
    c.put.ensures.items
    ∙ ap (λ (fs : List Frame). map (pushed_at b fs (words_by (find (λ z. z.id == b) c.put.new.buffers.items))) cs)
    (ap (frames_of x.channels n) c.part_of-part.ensures ∙ output-frames x.channels n (output_number c.args.joins.now x.id b) x.unit c.args.made.now c.requires.channels.0 c.requires.made)
