use Rattle.std.proofs.Common.{refl, SFits, w32, rules}
use Rattle.std.proofs.lemmas.Int.{to_z-of_z}
use Rattle.sof_base.specs.Slots.{slots_cells, slot_cells}
use Rattle.ipc3_model.proofs.reply.bare_reply.Goals as goal

pub returns : goal.returns
unfolding slots_cells slot_cells
returns c =
    let fits : SFits w32 c.args.error = search rules in
    rw (c.to_le_bytes.ensures, c.to_le_bytes-2.ensures, c.cast_unsigned.ensures, to_z-of_z w32 c.args.error fits) refl
