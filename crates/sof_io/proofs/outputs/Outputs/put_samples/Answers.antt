use Rattle.std.proofs.Common.{◌≡◌, ◌+◌, ◌*◌, ◌≤◌, ◌++◌, List, ℕ, sym, ap, subst, ◌∙◌, length, arith, length-append}
use Rattle.std.specs.List.Sorted.{IsStrictlyIncreasing}
use Rattle.sof_base.specs.Ports.{OutputView, HasRoom}
use Rattle.sof_base.specs.Samples.{width, frame_out}
use Rattle.sof_base.proofs.SampleLaws.{length-frame_out}
use Rattle.sof_io.specs.Bound.{output_slots}
use Rattle.sof_io.specs.Puts.{with_piece, room_at}
use Rattle.sof_io.proofs.Places.{answer_at}
use Rattle.sof_io.proofs.OutputPlaces.{with_piece-found, with_piece-missing, room_at-found, within-found}
use Rattle.sof_io.proofs.OutputLaws.{slots-with_piece}
use Rattle.sof_io.proofs.RoomLaws.{HasRoom-put}
use Rattle.sof_io.proofs.outputs.Outputs.put_samples.Goals as goal

pub returns-in-Some : goal.returns-in-Some
returns-in-Some c =
    let found = answer_at _ _ _ _ _ c.as_slice.ensures.value c.place_of.ensures c.in-Some.is in
    let piece : List ℕ = frame_out c.args.format (c.args.front.now ++ c.args.back.now) in
    with_piece-found c.args.slot c.in-Some.k piece c.self.inside.outputs.items c.index_mut.result.now c.put_samples.new.self found c.index_mut.ensures.value c.put_samples.ensures ∙ ap (with_piece c.args.slot piece) c.self.view_is

pub returns-in_default : goal.returns-in_default
returns-in_default c =
    let none = answer_at _ _ _ _ _ c.as_slice.ensures.value c.place_of.ensures c.in_default.is in
    let piece : List ℕ = frame_out c.args.format (c.args.front.now ++ c.args.back.now) in
    sym (ap (with_piece c.args.slot piece) (sym c.self.view_is) ∙ with_piece-missing c.args.slot piece c.self.inside.outputs.items none ∙ c.self.view_is)

pub put_samples-requires : goal.put_samples-requires
put_samples-requires c =
    let found = answer_at _ _ _ _ _ c.as_slice.ensures.value c.place_of.ensures c.in-Some.is in
    let room = room_at-found c.args.slot c.in-Some.k c.self.inside.outputs.items c.index_mut.result.now found c.index_mut.ensures.value in
    let size : ℕ = (length c.args.front.now + length c.args.back.now) * width c.args.format in
    let fits : size ≤ room_at c.args.slot c.self.inside.outputs.items = subst (λ (outputs : List OutputView). size ≤ room_at c.args.slot outputs) (sym c.self.view_is) c.requires in
    let within = within-found c.args.slot c.in-Some.k c.self.inside.outputs.items c.index_mut.result.now found c.index_mut.ensures.value c.self.invariant.1 in
    omega (arith, fits, room, within)

pub invariant_of-self : goal.invariant_of-self
invariant_of-self c =
    let found = answer_at _ _ _ _ _ c.as_slice.ensures.value c.place_of.ensures c.in-Some.is in
    let piece : List ℕ = frame_out c.args.format (c.args.front.now ++ c.args.back.now) in
    let e = with_piece-found c.args.slot c.in-Some.k piece c.self.inside.outputs.items c.index_mut.result.now c.put_samples.new.self found c.index_mut.ensures.value c.put_samples.ensures in
    let size : length piece ≡ (length c.args.front.now + length c.args.back.now) * width c.args.format =
    length-frame_out c.args.format (c.args.front.now ++ c.args.back.now) ∙ ap (λ (n : ℕ). n * width c.args.format) (length-append c.args.front.now c.args.back.now) in
    let fits : length piece ≤ room_at c.args.slot c.self.inside.outputs.items = subst (λ (outputs : List OutputView). length piece ≤ room_at c.args.slot outputs) (sym c.self.view_is) (omega (arith, size, c.requires)) in (
      subst IsStrictlyIncreasing (sym (ap output_slots e ∙ slots-with_piece c.args.slot piece c.self.inside.outputs.items)) c.self.invariant.0,
      subst (HasRoom 0) (sym e) (HasRoom-put c.args.slot piece c.self.inside.outputs.items c.self.invariant.1 fits),
    )
