use Rattle.std.proofs.Common.{sym, ap, ◌∙◌}
use Rattle.sof_io.specs.Puts.{room_at}
use Rattle.sof_io.proofs.Places.{answer_at}
use Rattle.sof_io.proofs.OutputPlaces.{room_at-found, room_at-missing}
use Rattle.sof_io.proofs.outputs.Outputs.room.Goals as goal

pub returns-in-Some : goal.returns-in-Some
returns-in-Some c =
    let found = answer_at _ _ _ _ _ c.as_slice.ensures.value c.place_of.ensures c.in-Some.is in
    c.room.ensures ∙ sym (room_at-found c.args.slot c.in-Some.k c.self.inside.outputs.items c.index.result.now found c.index.ensures) ∙ ap (room_at c.args.slot) c.self.view_is

pub returns-in-None : goal.returns-in-None
returns-in-None c =
    let none = answer_at _ _ _ _ _ c.as_slice.ensures.value c.place_of.ensures c.in-None.is in
    sym (room_at-missing c.args.slot c.self.inside.outputs.items none) ∙ ap (room_at c.args.slot) c.self.view_is
