-- Right bindings of one direction have different slots.
use Rattle.std.proofs.Common.{◌≡◌, ℕ, Bool, true, false, ◌||◌, not, eqb, nat_eq, if◌then◌else◌, List, [], ◌∷◌, ◌++◌, Option, Some, None, find, refl, sym, ◌∙◌, subst, inl, inr}
use Rattle.std.proofs.lemmas.Bool.{cases_Bool, and_parts, or_parts, ne_eqb}
use Rattle.std.proofs.lemmas.List.Folds.{list_any-append}
use Rattle.std.proofs.lemmas.Slice.Eq.{bytes_eq-Decides}
use Rattle.std.specs.List.{list_any, slice_get, IsDistinct}
use Rattle.std.specs.List.Sorted.{IsStrictlyIncreasing}
use Rattle.std.specs.Option.{option_map_or}
use Rattle.std.specs.Str.{bytes_eq}
use Rattle.sof_base.specs.Ports.{InputView, OutputView}
use Rattle.sof_io.specs.Bound.{output_slots, has_slot, with_slot}
use Rattle.sof_io.specs.Takes.{input_slots}
use Rattle.sof_io.specs.Fills.{with_input}
use Rattle.sof_io.proofs.Ascending.{ascending_more, ascending_none, ascending_distinct}
use Rattle.sof_io.proofs.InputLaws.{slots-with_input, has_slot-with_input}
use Rattle.sof_io.proofs.OutputLaws.{has_slot-with_slot}
use Rattle.stream_law.specs.declared.graph.Comp.{Comp}
use Rattle.tplg_plan.specs.declared.plans.Plan.{Plan}
use Rattle.sof_script.specs.Commands.{Bound}
use Rattle.run_desk.specs.Bindings.{is_endpoint_kind, is_sought, is_right, wrong_behind, bound_inputs}
use Rattle.run_desk.specs.BindingParts.{has_widget_name, has_endpoint, is_endpoint_bound, slot_of}

-- what passes a test is found
found_one : (f : Comp → Bool) (cs : List Comp) → list_any f cs ≡ true → (c : Comp) × (find f cs ≡ Some c) × (f c ≡ true)
found_one f [] is = absurd (cc is)
found_one f (c ∷ cs) is =
    elim (cases_Bool (f c)) [
      | inl passed ↦ (c, rw passed refl, passed)
      | inr failed ↦
          let there : list_any f cs ≡ true = rw failed at is in
          let rest = found_one f cs there in
          (rest.0, rw failed rest.1, rest.2)
    ]

-- the widget of an endpoint's slot has its name
pub named_slot : (plan : Plan) (input : Bool) (name : List ℕ) → has_endpoint plan input name ≡ true → has_widget_name plan name (slot_of plan input name) ≡ true
named_slot plan input name there =
    let one = found_one (is_sought plan input name) plan.graph.comps there in
    let parts = and_parts (is_endpoint_kind input one.0.kind) (has_widget_name plan name one.0.id) one.2 in
    subst (λ (o : Option Comp). has_widget_name plan name (option_map_or (λ c. c.id) o 0) ≡ true) (sym one.1) parts.1

same_bytes : (n m : List ℕ) → bytes_eq n m ≡ true → n ≡ m
same_bytes n m is = (bytes_eq-Decides n m).0 is

one_name : (n m : List ℕ) (o : Option (List ℕ)) → option_map_or (λ other. bytes_eq n other) o false ≡ true → option_map_or (λ other. bytes_eq m other) o false ≡ true → n ≡ m
one_name n m None one two = absurd (cc one)
one_name n m (Some other) one two = same_bytes n other one ∙ sym (same_bytes m other two)

-- different names, different slots
pub apart : (plan : Plan) (input : Bool) (n m : List ℕ) → has_endpoint plan input n ≡ true → has_endpoint plan input m ≡ true → bytes_eq n m ≡ false → eqb (slot_of plan input m) (slot_of plan input n) ≡ false
apart plan input n m first second differ =
    ne_eqb (slot_of plan input m) (slot_of plan input n) (λ same.
    let one = named_slot plan input n first in
    let two = subst (λ id. has_widget_name plan m id ≡ true) same (named_slot plan input m second) in
    let equal = one_name n m (slice_get plan.names (slot_of plan input n)) one two in
    cc (sym differ ∙ (bytes_eq-Decides n m).1 equal))

-- ---- slots so far

-- a name that no earlier binding has gives a slot that is not among these
abbrev pub IsFresh : Plan → Bool → List Bound → List ℕ → Type 0
IsFresh plan input bound slots = (name : List ℕ) → has_endpoint plan input name ≡ true → is_endpoint_bound bound name ≡ false → has_slot (slot_of plan input name) slots ≡ false

pub fresh_none : (plan : Plan) (input : Bool) → IsFresh plan input [] []
fresh_none plan input name there new = refl

module _ (plan : Plan) (bound : List Bound) (b : Bound) where
  -- a name that is new after one more was new, and is another
  new_parts : (name : List ℕ) → is_endpoint_bound (bound ++ b ∷ []) name ≡ false → (is_endpoint_bound bound name ≡ false) × (bytes_eq name b.endpoint ≡ false)
  new_parts name new =
      let parts = or_parts (is_endpoint_bound bound name) (is_endpoint_bound (b ∷ []) name) (sym (list_any-append (λ (x : Bound). bytes_eq name x.endpoint) bound (b ∷ [])) ∙ new) in
      let last = or_parts (bytes_eq name b.endpoint) false parts.1 in
      (parts.0, last.0)

  -- a binding of the other direction adds no slot
  pub fresh_other : (input : Bool) (slots : List ℕ) → IsFresh plan input bound slots → IsFresh plan input (bound ++ b ∷ []) slots
  fresh_other input slots fresh name there new = fresh name there (new_parts name new).0

  or_neither : (x y : Bool) → x ≡ false → y ≡ false → (x || y) ≡ false
  or_neither true y is other = is
  or_neither false y is other = other

  -- one of this direction adds its own
  pub fresh_input : (inputs : List InputView) → has_endpoint plan true b.endpoint ≡ true → IsFresh plan true bound (input_slots inputs) → IsFresh plan true (bound ++ b ∷ []) (input_slots (with_input (slot_of plan true b.endpoint) inputs))
  fresh_input inputs right fresh name there new =
      let slot = slot_of plan true name in
      let parts = new_parts name new in
      has_slot-with_input slot (slot_of plan true b.endpoint) inputs
      ∙ or_neither (eqb (slot_of plan true b.endpoint) slot) (has_slot slot (input_slots inputs)) (apart plan true name b.endpoint there right parts.1) (fresh name there parts.0)

  pub fresh_output : (outputs : List OutputView) → has_endpoint plan false b.endpoint ≡ true → IsFresh plan false bound (output_slots outputs) → IsFresh plan false (bound ++ b ∷ []) (output_slots (with_slot (slot_of plan false b.endpoint) outputs))
  fresh_output outputs right fresh name there new =
      let slot = slot_of plan false name in
      let parts = new_parts name new in
      has_slot-with_slot slot (slot_of plan false b.endpoint) outputs
      ∙ or_neither (eqb (slot_of plan false b.endpoint) slot) (has_slot slot (output_slots outputs)) (apart plan false name b.endpoint there right parts.1) (fresh name there parts.0)

-- the first binding is right, and so are those after it
pub right_first : (plan : Plan) (bound : List Bound) (b : Bound) (bs : List Bound) → wrong_behind plan bound (b ∷ bs) ≡ None → (has_endpoint plan b.input b.endpoint ≡ true) × (is_endpoint_bound bound b.endpoint ≡ false) × (wrong_behind plan (bound ++ b ∷ []) bs ≡ None)
right_first plan bound b bs none =
    elim (cases_Bool (is_right plan bound b)) [
      | inl right ↦
          let parts = and_parts (has_endpoint plan b.input b.endpoint) (not (is_endpoint_bound bound b.endpoint)) right in
          let rest : wrong_behind plan (bound ++ b ∷ []) bs ≡ None = rw right at none in
          (parts.0, not_true (is_endpoint_bound bound b.endpoint) parts.1, rest)
      | inr wrong ↦ absurd (none_some b.line (rw wrong at none))
    ]
  where
    not_true : (x : Bool) → not x ≡ true → x ≡ false
    not_true true is = cc is
    not_true false is = refl

    none_some : (n : ℕ) → Some n ≡ None → ⊥
    none_some n e = cc e

-- ---- the inputs that are bound

abbrev Ascends : Plan → List Bound → Type 0
Ascends plan bs = (bound : List Bound) (inputs : List InputView) → wrong_behind plan bound bs ≡ None → IsFresh plan true bound (input_slots inputs) → IsStrictlyIncreasing (input_slots inputs) → IsStrictlyIncreasing (input_slots (bound_inputs plan inputs bs))

-- one binding, and those after it
one_bound : (plan : Plan) (bound : List Bound) (b : Bound) (bs : List Bound) (inputs : List InputView) → Ascends plan bs → wrong_behind plan bound (b ∷ bs) ≡ None → IsFresh plan true bound (input_slots inputs) → IsStrictlyIncreasing (input_slots inputs) → (input : Bool) → b.input ≡ input → IsStrictlyIncreasing (input_slots (bound_inputs plan (if input then with_input (slot_of plan input b.endpoint) inputs else inputs) bs))
one_bound plan bound b bs inputs others none fresh sorted false is =
    let right = right_first plan bound b bs none in
    others (bound ++ b ∷ []) inputs right.2 (fresh_other plan bound b true (input_slots inputs) fresh) sorted
one_bound plan bound b bs inputs others none fresh sorted true is =
    let right = right_first plan bound b bs none in
    let there = subst (λ i. has_endpoint plan i b.endpoint ≡ true) is right.0 in
    let slot = slot_of plan true b.endpoint in
    others (bound ++ b ∷ []) (with_input slot inputs) right.2 (fresh_input plan bound b inputs there fresh)
    (subst IsStrictlyIncreasing (sym (slots-with_input slot inputs)) (ascending_more slot (input_slots inputs) sorted (fresh b.endpoint there right.1)))

bound_on : (plan : Plan) (bs : List Bound) → Ascends plan bs
bound_on plan [] bound inputs none fresh sorted = sorted
bound_on plan (b ∷ bs) bound inputs none fresh sorted = one_bound plan bound b bs inputs (bound_on plan bs) none fresh sorted b.input refl

-- their slots are different ones
pub bound_distinct : (plan : Plan) (bs : List Bound) → wrong_behind plan [] bs ≡ None → IsDistinct nat_eq (input_slots (bound_inputs plan [] bs))
bound_distinct plan bs none = ascending_distinct (input_slots (bound_inputs plan [] bs)) (bound_on plan bs [] [] none (fresh_none plan true) ascending_none)
