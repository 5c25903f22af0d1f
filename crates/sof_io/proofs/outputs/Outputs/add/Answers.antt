use Rattle.std.proofs.Common.{◌≡◌, ℕ, List, false, Option, unwrap_or, sym, ap, subst, ◌∙◌, length, arith}
use Rattle.std.specs.List.{position, insert}
use Rattle.std.specs.List.Sorted.{IsStrictlyIncreasing}
use Rattle.sof_base.specs.Ports.{OutputView, HasRoom}
use Rattle.sof_io.specs.Bound.{output_slots, has_slot}
use Rattle.sof_io.specs.Bound.{with_slot}
use Rattle.sof_io.proofs.Ascending.{ascending_more}
use Rattle.sof_io.proofs.Places.{place, seen_at, place_or_length}
use Rattle.sof_io.proofs.OutputPlaces.{is_above, with_slot-place}
use Rattle.sof_io.proofs.OutputLaws.{slots-with_slot}
use Rattle.sof_io.proofs.RoomLaws.{HasRoom-with_slot}
use Rattle.sof_io.proofs.outputs.Outputs.add.Goals as goal

-- where the slot was put
put_at : (c : goal.In_ok-insert) → c.insert.new.self.items ≡ with_slot c.args.slot c.self.inside.outputs.items
put_at c =
    let items : List OutputView = c.self.inside.outputs.items in
    let found : c.place_above.result ≡ position (is_above c.args.slot) c.self.inside.outputs.items = seen_at _ _ _ _ c.as_slice.ensures.value c.place_above.ensures in
    let len : c.len.result ≡ length c.self.inside.outputs.items = c.len.ensures ∙ sym c.as_slice.ensures.len ∙ ap length c.as_slice.ensures.value in
    let at : c.unwrap_or-place.result ≡ place (is_above c.args.slot) c.self.inside.outputs.items = c.unwrap_or-place.ensures ∙ ap (λ (r : Option ℕ). unwrap_or r c.len.result) found ∙ ap (unwrap_or (position (is_above c.args.slot) c.self.inside.outputs.items)) len ∙ place_or_length (is_above c.args.slot) c.self.inside.outputs.items in
    c.in_ok-insert.ensures.items
    ∙ ap (λ (n : ℕ). insert c.self.inside.outputs.items n c.in_ok-output.output) at
    ∙ ap (insert c.self.inside.outputs.items (place (is_above c.args.slot) c.self.inside.outputs.items)) c.in_ok-output.ensures
    ∙ with_slot-place c.args.slot c.self.inside.outputs.items

pub returns-clause-ok : goal.returns-clause-ok
returns-clause-ok c = put_at c ∙ ap (with_slot c.args.slot) c.self.view_is

pub invariant_of-self-2 : goal.invariant_of-self-2
invariant_of-self-2 c =
    let new : has_slot c.args.slot (output_slots c.self.inside.outputs.items) ≡ false = ap (λ (outputs : List OutputView). has_slot c.args.slot (output_slots outputs)) c.self.view_is ∙ c.requires in (
      subst IsStrictlyIncreasing (sym (ap output_slots (put_at c) ∙ slots-with_slot c.args.slot c.self.inside.outputs.items)) (ascending_more c.args.slot (output_slots c.self.inside.outputs.items) c.self.invariant.0 new),
      subst (HasRoom 0) (sym (put_at c)) (HasRoom-with_slot 0 c.args.slot c.self.inside.outputs.items (omega arith) c.self.invariant.1),
    )
