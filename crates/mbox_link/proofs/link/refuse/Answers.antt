use Rattle.std.proofs.Common.{refl, SFits, w32, rules}
use Rattle.std.proofs.Math.Facts.{to_z-of_z}
use Rattle.sof_base.specs.Slots.{slots_cells, slot_cells}
use Rattle.mbox_link.proofs.link.refuse.Goals as goal

pub returns-clause-bytes : goal.returns-clause-bytes
unfolding slots_cells slot_cells
returns-clause-bytes c =
    let number : SFits w32 c.args.error = search rules in
    rw (c.copy_from_slice.ensures.after, c.bare_reply.ensures, to_z-of_z number) refl
