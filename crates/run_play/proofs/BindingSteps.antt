-- One binding more: it is right, and its slot is not there yet.
use Rattle.std.proofs.Common.{◌≡◌, ℕ, ◌+◌, ◌<◌, Bool, true, false, List, [], ◌∷◌, ◌++◌, length, take, drop, get_or, None, sym, subst}
use Rattle.sof_base.specs.Ports.{InputView, OutputView}
use Rattle.sof_io.specs.Bound.{output_slots, has_slot, with_slot}
use Rattle.sof_io.specs.Takes.{input_slots}
use Rattle.sof_io.specs.Fills.{with_input}
use Rattle.tplg_plan.specs.declared.plans.Plan.{Plan}
use Rattle.sof_script.specs.declared.script.Binding.{Binding}
use Rattle.sof_script.specs.Commands.{Bound}
use Rattle.sof_script.specs.ScriptRead.{bound_of, bounds_of}
use Rattle.run_desk.specs.Bindings.{wrong_behind}
use Rattle.run_desk.specs.BindingParts.{has_endpoint, is_endpoint_bound, slot_of}
use Rattle.run_desk.proofs.BindingLaws.{front, back}
use Rattle.run_play.proofs.Slots.{IsFresh, right_first, fresh_other, fresh_input, fresh_output}

module _ (plan : Plan) (bs : List Binding) (i : ℕ) (b : Binding) (within : i < length bs) (at : b ≡ get_or bs i b) where
  abbrev pub before : List Bound
  before = bounds_of (take i bs)

  abbrev pub through : List Bound
  through = bounds_of (take (i + 1) bs)

  abbrev pub after : List Bound
  after = bounds_of (drop (i + 1) bs)

  module _ (right : wrong_behind plan before (bounds_of (drop i bs)) ≡ None) where
    parts : (has_endpoint plan b.input b.endpoint ≡ true) × (is_endpoint_bound before b.endpoint ≡ false) × (wrong_behind plan (before ++ bound_of b ∷ []) after ≡ None)
    parts = right_first plan before (bound_of b) after (subst (λ xs. wrong_behind plan before xs ≡ None) (back plan bs i b within at) right)

    -- its slot is not there yet
    pub new_slot : (input : Bool) → b.input ≡ input → (slots : List ℕ) → IsFresh plan input before slots → has_slot (slot_of plan b.input b.endpoint) slots ≡ false
    new_slot input is slots fresh =
        subst (λ x. has_slot (slot_of plan x b.endpoint) slots ≡ false) (sym is) (fresh b.endpoint (subst (λ x. has_endpoint plan x b.endpoint ≡ true) is parts.0) parts.1)

    -- the others are right
    pub right_on : wrong_behind plan through after ≡ None
    right_on = subst (λ xs. wrong_behind plan xs after ≡ None) (sym (front plan bs i b within at)) parts.2

    -- its slot is there
    pub input_there : b.input ≡ true → (inputs inputs' : List InputView) → inputs' ≡ with_input (slot_of plan b.input b.endpoint) inputs → IsFresh plan true before (input_slots inputs) → IsFresh plan true through (input_slots inputs')
    input_there is inputs inputs' same fresh =
        subst (λ xs. IsFresh plan true through (input_slots xs)) (sym same)
        (subst (λ x. IsFresh plan true through (input_slots (with_input (slot_of plan x b.endpoint) inputs))) (sym is)
        (subst (λ xs. IsFresh plan true xs (input_slots (with_input (slot_of plan true b.endpoint) inputs))) (sym (front plan bs i b within at))
        (fresh_input plan before (bound_of b) inputs (subst (λ x. has_endpoint plan x b.endpoint ≡ true) is parts.0) fresh)))

    pub output_there : b.input ≡ false → (outputs outputs' : List OutputView) → outputs' ≡ with_slot (slot_of plan b.input b.endpoint) outputs → IsFresh plan false before (output_slots outputs) → IsFresh plan false through (output_slots outputs')
    output_there is outputs outputs' same fresh =
        subst (λ xs. IsFresh plan false through (output_slots xs)) (sym same)
        (subst (λ x. IsFresh plan false through (output_slots (with_slot (slot_of plan x b.endpoint) outputs))) (sym is)
        (subst (λ xs. IsFresh plan false xs (output_slots (with_slot (slot_of plan false b.endpoint) outputs))) (sym (front plan bs i b within at))
        (fresh_output plan before (bound_of b) outputs (subst (λ x. has_endpoint plan x b.endpoint ≡ true) is parts.0) fresh)))

    -- those of the other direction are as before
    pub others_there : (input : Bool) (slots : List ℕ) → IsFresh plan input before slots → IsFresh plan input through slots
    others_there input slots fresh = subst (λ xs. IsFresh plan input xs slots) (sym (front plan bs i b within at)) (fresh_other plan before (bound_of b) input slots fresh)
