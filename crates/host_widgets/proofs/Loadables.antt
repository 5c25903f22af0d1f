-- What is so of plans that are loaded, and of their records.
use Rattle.std.proofs.Common.{◌≡◌, refl, sym, ap, subst, ◌∙◌, ℕ, zero, suc, ◌<◌, ◌≤◌, ◌^◌, Bool, true, cond, List, [], ◌∷◌, length, get_or, Option, Some, ◌==◌, ◌⊎◌, inl, inr, arith}
use Rattle.std.specs.Prelude.{find}
use Rattle.std.specs.List.{AllByRecursion}
use Rattle.std.proofs.lemmas.Bool.{cases_Bool, eq-eqb, eqb-true}
use Rattle.sof_base.specs.BlobFaults.{blob_fault}
use Rattle.sof_base.proofs.BlobTests.{tested-sound}
use Rattle.stream_law.specs.Placed.{Ascends, AreAbove}
use Rattle.stream_law.specs.declared.graph.Graph.{Graph}
use Rattle.stream_law.specs.declared.graph.Kind.{Kind}
use Rattle.tplg_plan.specs.declared.plans.Plan.{Plan}
use Rattle.tplg_plan.specs.declared.plans.ControlPlan.{ControlPlan}
use Rattle.tplg_plan.specs.declared.plans.ControlKind.{ControlKind}
use Rattle.tplg_plan.specs.declared.plans.ControlKind.TheVariants.{Volume, Choice, Blob, Masks}
use Rattle.tplg_plan.specs.Ranges.{is_initial}
use Rattle.tplg_plan.specs.Sound.{IsControlOf, IsLive, IsSound}
use Rattle.host_widgets.proofs.NamedIds.{few-widgets as at-most}
use Rattle.host_widgets.specs.declared.kept.ControlRec.{ControlRec}
use Rattle.host_widgets.specs.declared.kept.Record.{Record}
use Rattle.host_widgets.specs.Host.{AreControls, IsControlSet}
use Rattle.host_widgets.specs.Controls.{control_of, first_values, first_blob}
use Rattle.host_widgets.specs.FewValues.{HasFew}
use Rattle.host_widgets.proofs.ControlLists.{takes-by}
use Rattle.host_widgets.proofs.PartFacts.{none-told}

pub few-widgets : (plan : Plan) → IsSound plan → length plan.widgets < 2 ^ 32
few-widgets plan sound = omega (arith, at-most plan sound)

-- ---- the control at a place

few-kind : (kind : ControlKind) (of : Kind) → IsControlOf kind of → HasFew kind
few-kind (Volume min max channels lowest step mute) of is = (is.2, is.4)
few-kind (Choice items) of is = tt
few-kind (Blob most initial) of is = tt
few-kind (Masks min max channels) of is = is.4

few-at : (g : Graph) (ks : List ControlPlan) (i : ℕ) (d : ControlPlan) → i < length ks → AllByRecursion (IsLive g) ks → HasFew (get_or ks i d).kind
few-at g [] i d within live = absurd (omega (arith, within))
few-at g (k ∷ ks) zero d within live = few-kind k.kind live.0.comp.kind live.0.kind
few-at g (k ∷ ks) (suc i) d within live = few-at g ks i d (omega (arith, within)) live.1

above-at : (n : ℕ) (ks : List ControlPlan) (i : ℕ) (d : ControlPlan) → i < length ks → AreAbove (λ (k : ControlPlan). k.comp) n ks → n < (get_or ks i d).comp
unfolding AreAbove
above-at n [] i d within above = absurd (omega (arith, within))
above-at n (k ∷ ks) zero d within above = above.0
above-at n (k ∷ ks) (suc i) d within above = above-at n ks i d (omega (arith, within)) above.1

abbrev found_in : List ControlPlan → ℕ → Option ControlPlan
found_in ks id = find (λ k. k.comp == id) ks

first-at : (ks : List ControlPlan) (i : ℕ) (d : ControlPlan) → i < length ks → Ascends (λ (k : ControlPlan). k.comp) ks → found_in ks (get_or ks i d).comp ≡ Some (get_or ks i d)
unfolding Ascends
first-at [] i d within rises = absurd (omega (arith, within))
first-at (k ∷ ks) zero d within rises = ap (λ (b : Bool). cond b (Some k) (found_in ks k.comp)) (eq-eqb k.comp k.comp refl)
first-at (k ∷ ks) (suc i) d within rises =
    let x = get_or ks i d in
    let less : k.comp < x.comp = above-at k.comp ks i d (omega (arith, within)) rises.0 in
    elim (cases_Bool (k.comp == x.comp)) [
      | inl same ↦ absurd (omega (arith, less, eqb-true k.comp x.comp same))
      | inr other ↦ ap (λ (b : Bool). cond b (Some k) (found_in ks x.comp)) other ∙ first-at ks i d (omega (arith, within)) rises.1
    ]

few-initial : (bytes : List ℕ) → is_initial bytes ≡ true → length bytes ≤ 1024
few-initial [] is = omega arith
few-initial (b ∷ bs) is = (tested-sound (b ∷ bs) (none-told (blob_fault (b ∷ bs)) is)).long.1

short-kind : (kind : ControlKind) (of : Kind) → IsControlOf kind of → length (first_blob kind) ≤ 1024
short-kind (Volume min max channels lowest step mute) of is = omega arith
short-kind (Choice items) of is = omega arith
short-kind (Blob most initial) of is = few-initial initial is.1
short-kind (Masks min max channels) of is = omega arith

short-at : (g : Graph) (ks : List ControlPlan) (i : ℕ) (d : ControlPlan) → i < length ks → AllByRecursion (IsLive g) ks → length (first_blob (get_or ks i d).kind) ≤ 1024
short-at g [] i d within live = absurd (omega (arith, within))
short-at g (k ∷ ks) zero d within live = short-kind k.kind live.0.comp.kind live.0.kind
short-at g (k ∷ ks) (suc i) d within live = short-at g ks i d (omega (arith, within)) live.1

module _ (plan : Plan) (sound : IsSound plan) (ks : List ControlPlan) (same : ks ≡ plan.controls) (i : ℕ) (d : ControlPlan) (within : i < length ks) where
  inside : i < length plan.controls
  inside = omega (arith, within, ap length same)

  abbrev here : ControlPlan
  here = get_or ks i d

  here-is : here ≡ get_or plan.controls i d
  here-is = ap (λ (xs : List ControlPlan). get_or xs i d) same

  pub has-few : HasFew here.kind
  has-few = subst (λ (k : ControlPlan). HasFew k.kind) (sym here-is) (few-at plan.graph plan.controls i d inside sound.live)

  pub few-bytes : length (first_blob here.kind) ≤ 1024
  few-bytes = subst (λ (k : ControlPlan). length (first_blob k.kind) ≤ 1024) (sym here-is) (short-at plan.graph plan.controls i d inside sound.live)

  pub is-first : control_of plan here.comp ≡ Some here
  is-first = subst (λ (k : ControlPlan). control_of plan k.comp ≡ Some k) (sym here-is) (first-at plan.controls i d inside sound.controls_ascend)

-- the blob of a record is none or a blob
initial-one : (kind : ControlKind) (of : Kind) (r : ControlRec) → IsControlOf kind of → ((r ≡ record { values = first_values kind; blob = first_blob kind }) ⊎ IsControlSet kind r) → is_initial r.blob ≡ true
initial-one (Volume min max channels lowest step mute) of r is (inl e) = ap (λ (x : ControlRec). is_initial x.blob) e
initial-one (Volume min max channels lowest step mute) of r is (inr s) = ap is_initial s.2
initial-one (Choice items) of r is (inl e) = ap (λ (x : ControlRec). is_initial x.blob) e
initial-one (Choice items) of r is (inr s) = ap is_initial s.3
initial-one (Masks min max channels) of r is (inl e) = ap (λ (x : ControlRec). is_initial x.blob) e
initial-one (Masks min max channels) of r is (inr s) = ap is_initial s.2
initial-one (Blob most initial) of r is was = takes-by (Blob most initial) of r is was

initial-by : (g : Graph) (ks : List ControlPlan) (rs : List ControlRec) (i : ℕ) (d : ControlRec) → i < length rs → AllByRecursion (IsLive g) ks → AreControls ks rs → is_initial (get_or rs i d).blob ≡ true
initial-by g [] [] i d within live are = absurd (omega (arith, within))
initial-by g [] (r ∷ rs) i d within live are = absurd are
initial-by g (k ∷ ks) [] i d within live are = absurd (omega (arith, within))
initial-by g (k ∷ ks) (r ∷ rs) zero d within live are = initial-one k.kind live.0.comp.kind r live.0.kind are.0
initial-by g (k ∷ ks) (r ∷ rs) (suc i) d within live are = initial-by g ks rs i d (omega (arith, within)) live.1 are.1

pub initial-here : (plan : Plan) (kept : Record) → IsSound plan → AreControls plan.controls kept.controls → (rs : List ControlRec) → rs ≡ kept.controls → (i : ℕ) (d : ControlRec) → i < length rs → is_initial (get_or rs i d).blob ≡ true
initial-here plan kept sound are rs same i d within =
    initial-by plan.graph plan.controls rs i d within sound.live (subst (AreControls plan.controls) (sym same) are)
