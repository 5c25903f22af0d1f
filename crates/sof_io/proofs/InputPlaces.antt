-- What the search for a slot says of the inputs.
use Rattle.std.proofs.Common.{◌≡◌, ℕ, zero, suc, ◌<◌, Bool, false, ◌||◌, cond, eqb, ltb, List, [], ◌∷◌, length, get_or, set, replicate, Option, Some, None, is_some, refl, sym, ap, ◌∙◌, inl, inr, arith}
use Rattle.std.proofs.lemmas.Bool.{cases_Bool, eq-eqb}
use Rattle.std.specs.List.{list_any, position, insert, AllByRecursion, IsDistinct}
use Rattle.std.specs.List.Sorted.{IsStrictlyIncreasing}
use Rattle.sof_base.specs.Ports.{InputView}
use Rattle.sof_io.specs.Bound.{has_slot}
use Rattle.sof_io.specs.Takes.{input_slots}
use Rattle.sof_io.specs.Takes.{after_input, next_bytes, left_at, bytes_given, taken}
use Rattle.sof_io.specs.Fills.{new_input}
use Rattle.sof_io.specs.Fills.{with_input, filled_at, ended_at, wanting}
use Rattle.sof_io.specs.Takes.{fuller_input, ended_input, is_wanting}
use Rattle.sof_io.specs.Takes.{has_ended}
use Rattle.sof_io.proofs.Ascending.{ascending_distinct}
use Rattle.sof_io.proofs.Places.{place, found_place, some_place, first_of, changed, first_of-found, changed-found, first_of-missing, changed-missing}
use Rattle.sof_io.proofs.NextBytes.{next_bytes-none}

-- the input of a slot
abbrev pub is_input : ℕ → InputView → Bool
is_input slot input = eqb input.slot slot

-- an input whose slot is above a slot
abbrev pub is_above : ℕ → InputView → Bool
is_above slot input = ltb slot input.slot

-- a slot is there exactly where an input has it
pub has_input : (slot : ℕ) (inputs : List InputView) → list_any (is_input slot) inputs ≡ has_slot slot (input_slots inputs)
has_input slot [] = refl
has_input slot (input ∷ inputs) = ap (λ (b : Bool). eqb input.slot slot || b) (has_input slot inputs)

pub not_there : (slot : ℕ) (inputs : List InputView) → position (is_input slot) inputs ≡ None → has_slot slot (input_slots inputs) ≡ false
not_there slot inputs none = sym (some_place (is_input slot) inputs ∙ has_input slot inputs) ∙ ap is_some none

-- ---- an input that stands at a place is the first of its slot

far : (own slot at : ℕ) (inputs : List InputView) (d : InputView) → AllByRecursion (λ other. eqb own other ≡ false) (input_slots inputs) → at < length inputs → (get_or inputs at d).slot ≡ slot → eqb own slot ≡ false
far own slot at [] d all low is = absurd (omega (arith, low))
far own slot zero (input ∷ inputs) d all low is = ap (eqb own) (sym is) ∙ all.0
far own slot (suc at) (input ∷ inputs) d all low is = far own slot at inputs d all.1 (omega (arith, low)) is

first-at : (slot at : ℕ) (inputs : List InputView) (d : InputView) → IsDistinct eqb (input_slots inputs) → at < length inputs → (get_or inputs at d).slot ≡ slot → place (is_input slot) inputs ≡ at
unfolding IsDistinct
first-at slot at [] d distinct low is = absurd (omega (arith, low))
first-at slot zero (input ∷ inputs) d distinct low is = ap (λ h. cond h 0 (suc (place (is_input slot) inputs))) (eq-eqb input.slot slot is)
first-at slot (suc at) (input ∷ inputs) d distinct low is =
    ap (λ h. cond h 0 (suc (place (is_input slot) inputs))) (far input.slot slot at inputs d distinct.0 (omega (arith, low)) is)
    ∙ ap suc (first-at slot at inputs d distinct.1 (omega (arith, low)) is)

pub stands-at : (slot at : ℕ) (inputs : List InputView) (d : InputView) → IsStrictlyIncreasing (input_slots inputs) → at < length inputs → (get_or inputs at d).slot ≡ slot → Some at ≡ position (is_input slot) inputs
stands-at slot at inputs d ascends low is = sym (found_place (is_input slot) inputs at (first-at slot at inputs d (ascending_distinct (input_slots inputs) ascends) low is) low)

-- ---- bytes taken of a slot, put after it, or no more to come

taken-is : (slot n : ℕ) (inputs : List InputView) → changed (is_input slot) (after_input n) inputs ≡ taken slot n inputs
taken-is slot n [] = refl
taken-is slot n (input ∷ inputs) = ap (λ (rest : List InputView). cond (eqb input.slot slot) (after_input n input ∷ inputs) (input ∷ rest)) (taken-is slot n inputs)

pub filled_at-is : (slot : ℕ) (piece : List ℕ) (inputs : List InputView) → changed (is_input slot) (fuller_input piece) inputs ≡ filled_at slot piece inputs
filled_at-is slot piece [] = refl
filled_at-is slot piece (input ∷ inputs) = ap (λ (rest : List InputView). cond (eqb input.slot slot) (fuller_input piece input ∷ inputs) (input ∷ rest)) (filled_at-is slot piece inputs)

pub ended_at-is : (slot : ℕ) (inputs : List InputView) → changed (is_input slot) ended_input inputs ≡ ended_at slot inputs
ended_at-is slot [] = refl
ended_at-is slot (input ∷ inputs) = ap (λ (rest : List InputView). cond (eqb input.slot slot) (ended_input input ∷ inputs) (input ∷ rest)) (ended_at-is slot inputs)

-- the input at the place that was found is changed
pub taken-found : (slot n k : ℕ) (inputs : List InputView) (before after : InputView) → position (is_input slot) inputs ≡ Some k → before ≡ get_or inputs k before → after ≡ after_input n before → set inputs k after ≡ taken slot n inputs
taken-found slot n k inputs before after found is moved = changed-found (is_input slot) (after_input n) k inputs before after found is moved ∙ taken-is slot n inputs

pub filled_at-found : (slot k : ℕ) (piece : List ℕ) (inputs : List InputView) (before after : InputView) → position (is_input slot) inputs ≡ Some k → before ≡ get_or inputs k before → after ≡ fuller_input piece before → set inputs k after ≡ filled_at slot piece inputs
filled_at-found slot k piece inputs before after found is fuller = changed-found (is_input slot) (fuller_input piece) k inputs before after found is fuller ∙ filled_at-is slot piece inputs

pub ended_at-found : (slot k : ℕ) (inputs : List InputView) (before after : InputView) → position (is_input slot) inputs ≡ Some k → before ≡ get_or inputs k before → after ≡ ended_input before → set inputs k after ≡ ended_at slot inputs
ended_at-found slot k inputs before after found is ended = changed-found (is_input slot) ended_input k inputs before after found is ended ∙ ended_at-is slot inputs

-- where none was found, nothing changes
pub taken-missing : (slot n : ℕ) (inputs : List InputView) → position (is_input slot) inputs ≡ None → taken slot n inputs ≡ inputs
taken-missing slot n inputs none = sym (taken-is slot n inputs) ∙ changed-missing (is_input slot) (after_input n) inputs none

pub filled_at-missing : (slot : ℕ) (piece : List ℕ) (inputs : List InputView) → position (is_input slot) inputs ≡ None → filled_at slot piece inputs ≡ inputs
filled_at-missing slot piece inputs none = sym (filled_at-is slot piece inputs) ∙ changed-missing (is_input slot) (fuller_input piece) inputs none

pub ended_at-missing : (slot : ℕ) (inputs : List InputView) → position (is_input slot) inputs ≡ None → ended_at slot inputs ≡ inputs
ended_at-missing slot inputs none = sym (ended_at-is slot inputs) ∙ changed-missing (is_input slot) ended_input inputs none

-- ---- what is left of a slot, and whether more comes

left_at-is : (slot : ℕ) (inputs : List InputView) → first_of (is_input slot) (λ (input : InputView). input.left) [] inputs ≡ left_at slot inputs
left_at-is slot [] = refl
left_at-is slot (input ∷ inputs) = ap (λ (rest : List ℕ). cond (eqb input.slot slot) input.left rest) (left_at-is slot inputs)

has_ended-is : (slot : ℕ) (inputs : List InputView) → first_of (is_input slot) (λ (input : InputView). input.ended) false inputs ≡ has_ended slot inputs
has_ended-is slot [] = refl
has_ended-is slot (input ∷ inputs) = ap (λ (rest : Bool). cond (eqb input.slot slot) input.ended rest) (has_ended-is slot inputs)

pub left_at-found : (slot k : ℕ) (inputs : List InputView) (here : InputView) → position (is_input slot) inputs ≡ Some k → here ≡ get_or inputs k here → left_at slot inputs ≡ here.left
left_at-found slot k inputs here found is = sym (left_at-is slot inputs) ∙ first_of-found (is_input slot) (λ (input : InputView). input.left) [] k inputs here found is

pub left_at-missing : (slot : ℕ) (inputs : List InputView) → position (is_input slot) inputs ≡ None → left_at slot inputs ≡ []
left_at-missing slot inputs none = sym (left_at-is slot inputs) ∙ first_of-missing (is_input slot) (λ (input : InputView). input.left) [] inputs none

pub has_ended-found : (slot k : ℕ) (inputs : List InputView) (here : InputView) → position (is_input slot) inputs ≡ Some k → here ≡ get_or inputs k here → has_ended slot inputs ≡ here.ended
has_ended-found slot k inputs here found is = sym (has_ended-is slot inputs) ∙ first_of-found (is_input slot) (λ (input : InputView). input.ended) false k inputs here found is

pub has_ended-missing : (slot : ℕ) (inputs : List InputView) → position (is_input slot) inputs ≡ None → has_ended slot inputs ≡ false
has_ended-missing slot inputs none = sym (has_ended-is slot inputs) ∙ first_of-missing (is_input slot) (λ (input : InputView). input.ended) false inputs none

-- its next bytes
pub given-found : (slot n k : ℕ) (inputs : List InputView) (before : InputView) (bytes : List ℕ) → position (is_input slot) inputs ≡ Some k → before ≡ get_or inputs k before → bytes ≡ next_bytes n before.left → bytes ≡ bytes_given slot n inputs
given-found slot n k inputs before bytes found is e = e ∙ ap (next_bytes n) (sym (left_at-found slot k inputs before found is))

pub given-missing : (slot n : ℕ) (inputs : List InputView) → position (is_input slot) inputs ≡ None → bytes_given slot n inputs ≡ replicate n 0
given-missing slot n inputs none = ap (next_bytes n) (left_at-missing slot inputs none) ∙ next_bytes-none n

-- ---- the first that wants more

wanting-is : (level : ℕ) (inputs : List InputView) → first_of (is_wanting level) (λ (input : InputView). Some input.slot) None inputs ≡ wanting level inputs
wanting-is level [] = refl
wanting-is level (input ∷ inputs) = ap (λ (rest : Option ℕ). cond (is_wanting level input) (Some input.slot) rest) (wanting-is level inputs)

pub wanting-found : (level k : ℕ) (inputs : List InputView) (here : InputView) → position (is_wanting level) inputs ≡ Some k → here ≡ get_or inputs k here → wanting level inputs ≡ Some here.slot
wanting-found level k inputs here found is = sym (wanting-is level inputs) ∙ first_of-found (is_wanting level) (λ (input : InputView). Some input.slot) None k inputs here found is

pub wanting-missing : (level : ℕ) (inputs : List InputView) → position (is_wanting level) inputs ≡ None → wanting level inputs ≡ None
wanting-missing level inputs none = sym (wanting-is level inputs) ∙ first_of-missing (is_wanting level) (λ (input : InputView). Some input.slot) None inputs none

-- ---- one more slot

-- a slot goes before the first that is above it
pub with_input-place : (slot : ℕ) (inputs : List InputView) → insert inputs (place (is_above slot) inputs) (new_input slot) ≡ with_input slot inputs
with_input-place slot [] = refl
with_input-place slot (input ∷ inputs) =
    elim (cases_Bool (ltb slot input.slot)) [
      | inl above ↦ rw above refl
      | inr below ↦ rw below (ap (λ (rest : List InputView). input ∷ rest) (with_input-place slot inputs))
    ]
