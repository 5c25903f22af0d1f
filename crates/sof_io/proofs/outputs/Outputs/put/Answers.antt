use Rattle.std.proofs.Common.{◌≤◌, List, sym, ap, subst, ◌∙◌, length, arith}
use Rattle.std.specs.List.Sorted.{IsStrictlyIncreasing}
use Rattle.sof_base.specs.Ports.{OutputView, HasRoom}
use Rattle.sof_io.specs.Bound.{output_slots}
use Rattle.sof_io.specs.Puts.{with_piece, room_at}
use Rattle.sof_io.proofs.Places.{answer_at}
use Rattle.sof_io.proofs.OutputPlaces.{with_piece-found, with_piece-missing, room_at-found, within-found}
use Rattle.sof_io.proofs.OutputLaws.{slots-with_piece}
use Rattle.sof_io.proofs.RoomLaws.{HasRoom-put}
use Rattle.sof_io.proofs.outputs.Outputs.put.Goals as goal

pub returns-in-Some : goal.returns-in-Some
returns-in-Some c =
    let found = answer_at _ _ _ _ _ c.as_slice.ensures.value c.place_of.ensures c.in-Some.is in
    with_piece-found c.args.slot c.in-Some.k c.args.piece.now c.self.inside.outputs.items c.index_mut.result.now c.put.new.self found c.index_mut.ensures.value c.put.ensures ∙ ap (with_piece c.args.slot c.args.piece.now) c.self.view_is

pub returns-in_default : goal.returns-in_default
returns-in_default c =
    let none = answer_at _ _ _ _ _ c.as_slice.ensures.value c.place_of.ensures c.in_default.is in
    sym (ap (with_piece c.args.slot c.args.piece.now) (sym c.self.view_is) ∙ with_piece-missing c.args.slot c.args.piece.now c.self.inside.outputs.items none ∙ c.self.view_is)

pub put-requires : goal.put-requires
put-requires c =
    let found = answer_at _ _ _ _ _ c.as_slice.ensures.value c.place_of.ensures c.in-Some.is in
    let room = room_at-found c.args.slot c.in-Some.k c.self.inside.outputs.items c.index_mut.result.now found c.index_mut.ensures.value in
    let fits : length c.args.piece.now ≤ room_at c.args.slot c.self.inside.outputs.items = subst (λ (outputs : List OutputView). length c.args.piece.now ≤ room_at c.args.slot outputs) (sym c.self.view_is) c.requires in
    let within = within-found c.args.slot c.in-Some.k c.self.inside.outputs.items c.index_mut.result.now found c.index_mut.ensures.value c.self.invariant.1 in
    omega (arith, fits, room, within)

pub invariant_of-self : goal.invariant_of-self
invariant_of-self c =
    let found = answer_at _ _ _ _ _ c.as_slice.ensures.value c.place_of.ensures c.in-Some.is in
    let e = with_piece-found c.args.slot c.in-Some.k c.args.piece.now c.self.inside.outputs.items c.index_mut.result.now c.put.new.self found c.index_mut.ensures.value c.put.ensures in
    let fits : length c.args.piece.now ≤ room_at c.args.slot c.self.inside.outputs.items = subst (λ (outputs : List OutputView). length c.args.piece.now ≤ room_at c.args.slot outputs) (sym c.self.view_is) c.requires in (
      subst IsStrictlyIncreasing (sym (ap output_slots e ∙ slots-with_piece c.args.slot c.args.piece.now c.self.inside.outputs.items)) c.self.invariant.0,
      subst (HasRoom 0) (sym e) (HasRoom-put c.args.slot c.args.piece.now c.self.inside.outputs.items c.self.invariant.1 fits),
    )
