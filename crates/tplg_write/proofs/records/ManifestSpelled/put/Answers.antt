use Rattle.std.proofs.Common.{[], ◌∷◌, length, arith, ap}
use Rattle.sof_base.specs.Slots.{Size, Word, Words}
use Rattle.tplg_write.proofs.RoomLaws.{raw_among}
use Rattle.tplg_write.proofs.records.ManifestSpelled.put.Goals as goal

pub overflow_cast-items : goal.overflow_cast-items
overflow_cast-items c =
    let m = c.args.self.now in
    omega (arith, c.requires.room, raw_among (Size 112 ∷ Words m.words ∷ Word (length m.private) ∷ []) m.private [], ap length c.items.ensures)
