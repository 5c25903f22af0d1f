-- What bindings bind, one after another, and their files.
use Rattle.std.proofs.Common.{◌≡◌, ℕ, ◌+◌, ◌<◌, Bool, true, false, ltb, nat_eq, if◌then◌else◌, List, [], ◌∷◌, ◌++◌, length, take, drop, get_or, refl, sym, ◌∙◌, ap, subst, inl, inr}
use Rattle.std.proofs.lemmas.Bool.{cases_Bool, eq-eqb}
use Rattle.std.specs.List.{AllByRecursion}
use Rattle.sof_base.specs.Ports.{InputView, OutputView}
use Rattle.sof_io.specs.Bound.{output_slots, with_slot}
use Rattle.sof_io.specs.Takes.{input_slots}
use Rattle.sof_io.specs.Fills.{with_input}
use Rattle.sof_desk.specs.Desk.{DeskMeaning, Create, Open, Acted}
use Rattle.tplg_plan.specs.declared.plans.Plan.{Plan}
use Rattle.sof_script.specs.declared.script.Binding.{Binding}
use Rattle.sof_script.specs.Commands.{Bound}
use Rattle.sof_script.specs.ScriptRead.{bound_of, bounds_of}
use Rattle.sof_script.specs.Tasks.{Turn}
use Rattle.run_desk.specs.Todo.{Todo, Do, Played, DeskPhase}
use Rattle.run_desk.specs.Bindings.{bound_slot, binding_act, bound_inputs, bound_outputs}
use Rattle.run_play.specs.Play.{bindings_todo}
use Rattle.run_play.specs.Opening.{AreOpened, AreCreated, HaveFiles, SameFiles}
use Rattle.run_desk.proofs.BindingLaws.{front, back}
use Rattle.run_desk.proofs.Steps.{do_on, do_off}
use Rattle.run_play.proofs.Refills.{opened_same}

-- one more slot is marked
module _ (now was : ℕ → Bool) (slot : ℕ) (after : (n : ℕ) → now n ≡ (if nat_eq slot n then true else was n)) where
  abbrev AreMarked : (ℕ → Bool) → List ℕ → Type 0
  AreMarked marks slots = AllByRecursion (λ (n : ℕ). marks n ≡ true) slots

  still : (b x : Bool) → x ≡ true → (if b then true else x) ≡ true
  still true x is = refl
  still false x is = is

  this : now slot ≡ true
  this = after slot ∙ ap (λ (b : Bool). if b then true else was slot) (eq-eqb slot slot refl)

  other : (n : ℕ) → was n ≡ true → now n ≡ true
  other n is = after n ∙ still (nat_eq slot n) (was n) is

  others : (slots : List ℕ) → AreMarked was slots → AreMarked now slots
  others [] all = tt
  others (n ∷ slots) all = (other n all.0, others slots all.1)

  marked_inputs : (inputs : List InputView) → AreMarked was (input_slots inputs) → AreMarked now (input_slots (with_input slot inputs))
  marked_inputs [] all = (this, tt)
  marked_inputs (input ∷ inputs) all =
      elim (cases_Bool (ltb slot input.slot)) [
        | inl above ↦ rw above (this, others (input_slots (input ∷ inputs)) all)
        | inr below ↦ rw below (other input.slot all.0, marked_inputs inputs all.1)
      ]

  marked_outputs : (outputs : List OutputView) → AreMarked was (output_slots outputs) → AreMarked now (output_slots (with_slot slot outputs))
  marked_outputs [] all = (this, tt)
  marked_outputs (output ∷ outputs) all =
      elim (cases_Bool (ltb slot output.slot)) [
        | inl above ↦ rw above (this, others (output_slots (output ∷ outputs)) all)
        | inr below ↦ rw below (other output.slot all.0, marked_outputs outputs all.1)
      ]

-- ---- one binding more

pub inputs_more : (plan : Plan) (bs : List Bound) (b : Bound) (inputs : List InputView) → bound_inputs plan inputs (bs ++ b ∷ []) ≡ (if b.input then with_input (bound_slot plan b) (bound_inputs plan inputs bs) else bound_inputs plan inputs bs)
inputs_more plan [] b inputs = refl
inputs_more plan (c ∷ bs) b inputs = inputs_more plan bs b (if c.input then with_input (bound_slot plan c) inputs else inputs)

pub outputs_more : (plan : Plan) (bs : List Bound) (b : Bound) (outputs : List OutputView) → bound_outputs plan outputs (bs ++ b ∷ []) ≡ (if b.input then bound_outputs plan outputs bs else with_slot (bound_slot plan b) (bound_outputs plan outputs bs))
outputs_more plan [] b outputs = refl
outputs_more plan (c ∷ bs) b outputs = outputs_more plan bs b (if c.input then outputs else with_slot (bound_slot plan c) outputs)

module _ (plan : Plan) (bs : List Binding) (i : ℕ) (b : Binding) (within : i < length bs) (at : b ≡ get_or bs i b) (input : Bool) (is : b.input ≡ input) where
  abbrev so_far : List Bound
  so_far = bounds_of (take i bs)

  pub inputs_by : bound_inputs plan [] (bounds_of (take (i + 1) bs)) ≡ (if input then with_input (bound_slot plan (bound_of b)) (bound_inputs plan [] so_far) else bound_inputs plan [] so_far)
  inputs_by =
      ap (bound_inputs plan []) (front plan bs i b within at) ∙ inputs_more plan so_far (bound_of b) []
      ∙ ap (λ t. if t then with_input (bound_slot plan (bound_of b)) (bound_inputs plan [] so_far) else bound_inputs plan [] so_far) is

  pub outputs_by : bound_outputs plan [] (bounds_of (take (i + 1) bs)) ≡ (if input then bound_outputs plan [] so_far else with_slot (bound_slot plan (bound_of b)) (bound_outputs plan [] so_far))
  outputs_by =
      ap (bound_outputs plan []) (front plan bs i b within at) ∙ outputs_more plan so_far (bound_of b) []
      ∙ ap (λ t. if t then bound_outputs plan [] so_far else with_slot (bound_slot plan (bound_of b)) (bound_outputs plan [] so_far)) is

module _ {D : Type 0} (means : DeskMeaning D) where
  -- ---- which files are open, and which are created

  pub created_same : (slots : List ℕ) (old new : D) → ((slot : ℕ) → means.created new slot ≡ means.created old slot) → AreCreated means slots old → AreCreated means slots new
  created_same [] old new same all = tt
  created_same (slot ∷ slots) old new same all = (same slot ∙ all.0, created_same slots old new same all.1)

  -- the same slots, and the same files
  pub files_moved : (inputs inputs' : List InputView) (outputs outputs' : List OutputView) (old new : D) → input_slots inputs' ≡ input_slots inputs → output_slots outputs' ≡ output_slots outputs → SameFiles means old new → HaveFiles means inputs outputs old → HaveFiles means inputs' outputs' new
  files_moved inputs inputs' outputs outputs' old new ins outs same all = record {
    opened = subst (λ slots. AreOpened means slots new) (sym ins) (opened_same means (input_slots inputs) old new same.opened all.opened);
    created = subst (λ slots. AreCreated means slots new) (sym outs) (created_same (output_slots outputs) old new same.created all.created);
  }

  module _ (inputs : List InputView) (outputs : List OutputView) (old new : D) where
    -- one more
    pub files_opened : (slot : ℕ) (file : List ℕ) → Acted means (Open slot file) true old new → HaveFiles means inputs outputs old → HaveFiles means (with_input slot inputs) outputs new
    files_opened slot file acted all = record {
      opened = marked_inputs (means.opened new) (means.opened old) slot acted.opened inputs all.opened;
      created = created_same (output_slots outputs) old new acted.created all.created;
    }

    pub files_created : (slot : ℕ) (file : List ℕ) → Acted means (Create slot file) true old new → HaveFiles means inputs outputs old → HaveFiles means inputs (with_slot slot outputs) new
    files_created slot file acted all = record {
      opened = opened_same means (input_slots inputs) old new acted.opened all.opened;
      created = marked_outputs (means.created new) (means.created old) slot acted.created outputs all.created;
    }

  -- ---- the file of a trace, which is no output's

  pub marked_itself : (slot : ℕ) (file : List ℕ) (old new : D) → Acted means (Create slot file) true old new → means.created new slot ≡ true
  marked_itself slot file old new acted = this (means.created new) (means.created old) slot acted.created

  pub files_kept : (inputs : List InputView) (outputs : List OutputView) (old new : D) (slot : ℕ) (file : List ℕ) → Acted means (Create slot file) true old new → HaveFiles means inputs outputs old → HaveFiles means inputs outputs new
  files_kept inputs outputs old new slot file acted all = record {
    opened = opened_same means (input_slots inputs) old new acted.opened all.opened;
    created = others (means.created new) (means.created old) slot acted.created (output_slots outputs) all.created;
  }

  -- ---- one binding after another

  -- these bindings are left
  abbrev pub Left : Plan → List Bound → List Bound → D → D → Type 0
  Left plan whole left old new =
      (rest : Todo) (turns : List Turn) (status : ℕ) (end : D) → Played means (bindings_todo plan left rest) new turns status end → Played means (bindings_todo plan whole rest) old turns status end

  module _ (plan : Plan) (bs : List Binding) (i : ℕ) (b : Binding) (within : i < length bs) (at : b ≡ get_or bs i b) where
    abbrev before : List Bound
    before = bounds_of (take i bs)

    abbrev after : List Bound
    after = bounds_of (drop (i + 1) bs)

    here : (rest : Todo) (turns : List Turn) (status : ℕ) (d end : D) → Played means (Do (binding_act plan (bound_of b)) (bindings_todo plan after rest)) d turns status end → Played means (bindings_todo plan (bounds_of (drop i bs)) rest) d turns status end
    here rest turns status d end played = subst (λ xs. Played means (bindings_todo plan xs rest) d turns status end) (sym (back plan bs i b within at)) played

    -- one more file was opened or created
    pub left_on : (old m new : D) → Left plan (bounds_of bs) (bounds_of (drop i bs)) old m → Acted means (binding_act plan (bound_of b)) true m new → Left plan (bounds_of bs) after old new
    left_on old m new so_far acted rest turns status end played =
        so_far rest turns status end (here rest turns status m end (do_on means (binding_act plan (bound_of b)) (bindings_todo plan after rest) turns status m new end acted played))

    -- it failed
    pub left_off : (old m new : D) → Left plan (bounds_of bs) (bounds_of (drop i bs)) old m → Acted means (binding_act plan (bound_of b)) false m new → DeskPhase means (bindings_todo plan (bounds_of bs)) false old new
    left_off old m new so_far acted rest =
        so_far rest [] 3 new (here rest [] 3 m new (do_off means (binding_act plan (bound_of b)) (bindings_todo plan after rest) m new acted))

    files_by : (input : Bool) (slot : ℕ) (file : List ℕ) (inputs : List InputView) (outputs : List OutputView) (old new : D) → Acted means (if input then Open slot file else Create slot file) true old new → HaveFiles means inputs outputs old → HaveFiles means (if input then with_input slot inputs else inputs) (if input then outputs else with_slot slot outputs) new
    files_by true slot file inputs outputs old new acted all = files_opened inputs outputs old new slot file acted all
    files_by false slot file inputs outputs old new acted all = files_created inputs outputs old new slot file acted all

    -- the files of those before, and this one
    pub files_on : (old new : D) → Acted means (binding_act plan (bound_of b)) true old new → HaveFiles means (bound_inputs plan [] before) (bound_outputs plan [] before) old →
        HaveFiles means (bound_inputs plan [] (bounds_of (take (i + 1) bs))) (bound_outputs plan [] (bounds_of (take (i + 1) bs))) new
    files_on old new acted all =
        subst (λ xs. HaveFiles means (bound_inputs plan [] xs) (bound_outputs plan [] xs) new) (sym (front plan bs i b within at))
        (subst (λ (p : List InputView × List OutputView). HaveFiles means p.0 p.1 new) (λ k. (sym (inputs_more plan before (bound_of b) []) k, sym (outputs_more plan before (bound_of b) []) k))
        (files_by b.input (bound_slot plan (bound_of b)) (bound_of b).file (bound_inputs plan [] before) (bound_outputs plan [] before) old new acted all))
