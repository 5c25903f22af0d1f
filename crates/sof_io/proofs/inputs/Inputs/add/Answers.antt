use Rattle.std.proofs.Common.{◌≡◌, ℕ, List, false, Option, unwrap_or, sym, ap, subst, ◌∙◌, length}
use Rattle.std.specs.Prelude.{All}
use Rattle.std.specs.List.{position, insert}
use Rattle.std.specs.List.Sorted.{IsStrictlyIncreasing}
use Rattle.sof_base.specs.Ports.{InputView}
use Rattle.sof_io.specs.Bound.{has_slot}
use Rattle.sof_io.specs.Takes.{input_slots, HasPosition}
use Rattle.sof_io.specs.Fills.{with_input}
use Rattle.sof_io.proofs.Ascending.{ascending_more, ascending_distinct}
use Rattle.sof_io.proofs.Places.{place, seen_at, place_or_length}
use Rattle.sof_io.proofs.InputPlaces.{is_above, with_input-place}
use Rattle.sof_io.proofs.InputLaws.{slots-with_input}
use Rattle.sof_io.proofs.Positions.{positions-with_input}
use Rattle.sof_io.proofs.inputs.Inputs.add.Goals as goal
use Rattle.sof_io.proofs.inputs.Inputs.add.Goals.{After-note}

-- where the slot was put
put_at : (c : After-note) → c.insert.new.self.items ≡ with_input c.args.slot c.self.inside.inputs.items
put_at c =
    let items : List InputView = c.self.inside.inputs.items in
    let found : c.place_above.result ≡ position (is_above c.args.slot) c.self.inside.inputs.items = seen_at _ _ _ _ c.as_slice.ensures.value c.place_above.ensures in
    let len : c.len.result ≡ length c.self.inside.inputs.items = c.len.ensures ∙ sym c.as_slice.ensures.len ∙ ap length c.as_slice.ensures.value in
    let at : c.unwrap_or-place.result ≡ place (is_above c.args.slot) c.self.inside.inputs.items = c.unwrap_or-place.ensures ∙ ap (λ (r : Option ℕ). unwrap_or r c.len.result) found ∙ ap (unwrap_or (position (is_above c.args.slot) c.self.inside.inputs.items)) len ∙ place_or_length (is_above c.args.slot) c.self.inside.inputs.items in
    c.in_ok-insert.ensures.items
    ∙ ap (λ (n : ℕ). insert c.self.inside.inputs.items n c.in_ok-input.input) at
    ∙ ap (insert c.self.inside.inputs.items (place (is_above c.args.slot) c.self.inside.inputs.items)) c.in_ok-input.ensures
    ∙ with_input-place c.args.slot c.self.inside.inputs.items

pub returns-clause-ok : goal.returns-clause-ok
returns-clause-ok c = put_at c ∙ ap (with_input c.args.slot) c.self.view_is

pub invariant_of-self-2 : goal.invariant_of-self-2
invariant_of-self-2 c =
    let new : has_slot c.args.slot (input_slots c.self.inside.inputs.items) ≡ false = ap (λ (inputs : List InputView). has_slot c.args.slot (input_slots inputs)) c.self.view_is ∙ c.requires in (
      subst IsStrictlyIncreasing (sym (ap input_slots (put_at c) ∙ slots-with_input c.args.slot c.self.inside.inputs.items)) (ascending_more c.args.slot (input_slots c.self.inside.inputs.items) c.self.invariant.0 new),
      subst (All HasPosition) (sym (put_at c)) (positions-with_input c.args.slot c.self.inside.inputs.items c.self.invariant.1),
    )

pub returns-clause-distinct : goal.returns-clause-distinct
returns-clause-distinct c = ascending_distinct (input_slots c.insert.new.self.items) (invariant_of-self-2 c).0

pub returns-in_err-input-clause-distinct : goal.returns-in_err-input-clause-distinct
returns-in_err-input-clause-distinct c = ascending_distinct (input_slots c.args.self.now) (subst (λ (inputs : List InputView). IsStrictlyIncreasing (input_slots inputs)) c.self.view_is c.self.invariant.0)

pub returns-in_err-insert-clause-distinct : goal.returns-in_err-insert-clause-distinct
returns-in_err-insert-clause-distinct c = ascending_distinct (input_slots c.insert.new.self.items) (subst (λ (inputs : List InputView). IsStrictlyIncreasing (input_slots inputs)) (sym c.in_err-insert.ensures.items) c.self.invariant.0)
