-- The live control at a place of a sound plan: it is the one of its name and of its component, and has a record.
use Rattle.std.proofs.Common.{◌≡◌, ◌⊎◌, inr, refl, sym, ap, ◌∙◌, ℕ, zero, suc, ◌<◌, Bool, true, false, List, [], ◌∷◌, length, get_or, find, zip, Some, None, cond, ◌==◌, arith}
use Rattle.std.specs.Prelude.{if◌then◌else◌, nat_lt, position, slice_get}
use Rattle.std.specs.List.{AllByRecursion, position_or_len}
use Rattle.std.proofs.lemmas.List.Folds.{find_at}
use Rattle.std.proofs.lemmas.List.Quantifiers.{position-Some}
use Rattle.std.proofs.lemmas.Option.{slice_get-get_or, slice_get_past}
use Rattle.std.proofs.lemmas.Bool.{eqb-true, eq-eqb, ltb-false}
use Rattle.stream_law.specs.declared.graph.Comp.{Comp}
use Rattle.stream_law.specs.Ways.{comp_of}
use Rattle.stream_law.specs.Placed.{AreAbove, Ascends}
use Rattle.tplg_plan.specs.declared.plans.Plan.{Plan}
use Rattle.tplg_plan.specs.declared.plans.ControlPlan.{ControlPlan}
use Rattle.tplg_plan.specs.Sound.{IsSound, IsLive}
use Rattle.host_widgets.specs.declared.kept.Record.{Record}
use Rattle.host_widgets.specs.declared.kept.ControlRec.{ControlRec}
use Rattle.host_widgets.specs.Controls.{control_of}
use Rattle.host_widgets.specs.Kept.{first_control, control_at, changed, with_control}
use Rattle.host_widgets.specs.HostActs.{with_values, with_blob}
use Rattle.host_widgets.specs.Host.{AreControls, IsControlSet, IsRecordOf}
use Rattle.host_widgets.proofs.ChangedPlaces.{changed-at}
use Rattle.host_widgets.proofs.ControlLists.{same-length}
use Rattle.host_widgets.proofs.LookedUp.{each-found}
use Rattle.host_widgets.proofs.NamedIds.{each-comp}
use Rattle.host_widgets.specs.Named.{is_named}
use Rattle.host_ctl.specs.ControlAsks.{named_control}
use Rattle.host_ctl.specs.ControlPlaces.{no_control, no_values, control_place, control_here, record_here, with_values_at, with_blob_here}
use Rattle.host_ctl.proofs.PutShows.{AreKind}

-- ---- as lists

pub found-here : {X : Type 0} (p : X → Bool) (xs : List X) (i : ℕ) (d : X) → position p xs ≡ Some i → find p xs ≡ Some (get_or xs i d)
found-here p xs i d is = find_at p xs ∙ ap (slice_get xs) (at (nat_lt (position_or_len p xs) (length xs)) is) ∙ slice_get-get_or xs i d (position-Some p xs i d is).0
  where
    at : (b : Bool) → cond b (Some (position_or_len p xs)) None ≡ Some i → position_or_len p xs ≡ i
    at true is = cc is
    at false is = absurd (cc is)

pub lost-here : {X : Type 0} (p : X → Bool) (xs : List X) → position p xs ≡ None → find p xs ≡ None
lost-here p xs is = find_at p xs ∙ by (nat_lt (position_or_len p xs) (length xs)) refl is
  where
    by : (b : Bool) → nat_lt (position_or_len p xs) (length xs) ≡ b → cond b (Some (position_or_len p xs)) None ≡ None → slice_get xs (position_or_len p xs) ≡ None
    by true e is = absurd (cc is)
    by false e is = slice_get_past xs (position_or_len p xs) (ltb-false (position_or_len p xs) (length xs) e)

-- the record of a control is as it begins, or was set
abbrev pub Was : ControlPlan → ControlRec → Type 0
Was k c = (c ≡ first_control k) ⊎ IsControlSet k.kind c

abbrev Paired : ℕ → List ControlPlan → List ControlRec → ControlPlan → ControlRec → Type 0
Paired id ks rs k c = (find (λ p. p.0.comp == id) (zip ks rs) ≡ Some (k, c)) × Was k c

above-comp : (n : ℕ) (ks : List ControlPlan) → AreAbove (λ (k : ControlPlan). k.comp) n ks → (i : ℕ) → i < length ks → n < (get_or ks i no_control).comp
unfolding AreAbove
above-comp n [] above i low = absurd (omega (arith, low))
above-comp n (k ∷ ks) above zero low = above.0
above-comp n (k ∷ ks) above (suc i) low = above-comp n ks above.1 i (omega (arith, low))

pair-here : (ks : List ControlPlan) (rs : List ControlRec) → Ascends (λ (k : ControlPlan). k.comp) ks → AreControls ks rs → (i : ℕ) → i < length ks → Paired (get_or ks i no_control).comp ks rs (get_or ks i no_control) (get_or rs i no_values)
unfolding Ascends
pair-here [] rs up are i low = absurd (omega (arith, low))
pair-here (k ∷ ks) [] up are i low = absurd are
pair-here (k ∷ ks) (r ∷ rs) up are zero low = (ap (λ (b : Bool). if b then Some (k, r) else find (λ p. p.0.comp == k.comp) (zip ks rs)) (eq-eqb k.comp k.comp refl), are.0)
pair-here (k ∷ ks) (r ∷ rs) up are (suc i) low = by (k.comp == (get_or ks i no_control).comp) refl (pair-here ks rs up.1 are.1 i (omega (arith, low)))
  where
    by : (b : Bool) → (k.comp == (get_or ks i no_control).comp) ≡ b → Paired (get_or ks i no_control).comp ks rs (get_or ks i no_control) (get_or rs i no_values) →
        ((if b then Some (k, r) else find (λ p. p.0.comp == (get_or ks i no_control).comp) (zip ks rs)) ≡ Some (get_or ks i no_control, get_or rs i no_values)) × Was (get_or ks i no_control) (get_or rs i no_values)
    by true is rest = absurd (let same : k.comp ≡ (get_or ks i no_control).comp = eqb-true k.comp (get_or ks i no_control).comp is in let above = above-comp k.comp ks up.0 i (omega (arith, low)) in omega (arith, same, above))
    by false is rest = rest

-- a change of the control of a component leaves records of the controls
pub controls-with : (comp : ℕ) (g : ControlRec → ControlRec) (ks : List ControlPlan) (rs : List ControlRec) → AllByRecursion (λ (k : ControlPlan). k.comp ≡ comp → (c : ControlRec) → Was k c → IsControlSet k.kind (g c)) ks → AreControls ks rs →
    AreControls ks (changed (λ (k : ControlPlan). k.comp) comp g ks rs)
controls-with comp g [] [] all are = tt
controls-with comp g [] (r ∷ rs) all are = absurd are
controls-with comp g (k ∷ ks) [] all are = absurd are
controls-with comp g (k ∷ ks) (r ∷ rs) all are = (by (k.comp == comp) refl, controls-with comp g ks rs all.1 are.1)
  where
    by : (b : Bool) → (k.comp == comp) ≡ b → Was k (if b then g r else r)
    by true is = inr (all.0 (eqb-true k.comp comp is) r are.0)
    by false is = are.0

-- ---- in a plan

module _ (plan : Plan) (sound : IsSound plan) (kept : Record) (is : IsRecordOf plan kept) (i : ℕ) (low : i < length plan.controls) where
  abbrev pub k : ControlPlan
  k = control_here plan i

  pub all-of-here : (P : ControlPlan → Type 0) → AllByRecursion P plan.controls → P k
  all-of-here P all = by plan.controls i low all
    where
      by : (ks : List ControlPlan) (j : ℕ) → j < length ks → AllByRecursion P ks → P (get_or ks j no_control)
      by [] j low all = absurd (omega (arith, low))
      by (x ∷ ks) zero low all = all.0
      by (x ∷ ks) (suc j) low all = by ks j (omega (arith, low)) all.1

  pub live : IsLive plan.graph k
  live = all-of-here (IsLive plan.graph) sound.live

  pub of-comp : control_of plan k.comp ≡ Some k
  of-comp = all-of-here (λ (x : ControlPlan). control_of plan x.comp ≡ Some x) (each-found (λ (x : ControlPlan). x.comp) plan.controls sound.controls_ascend)

  pub at-here : control_at plan kept k.comp ≡ Some (k, record_here kept i)
  at-here = (pair-here plan.controls kept.controls sound.controls_ascend is.controls i low).0

  pub was-here : Was k (record_here kept i)
  was-here = (pair-here plan.controls kept.controls sound.controls_ascend is.controls i low).1

  pub named-here : (name : List ℕ) → control_place plan name ≡ Some i → named_control plan name ≡ Some k
  named-here name at = found-here (λ x. is_named plan name x.comp) plan.controls i no_control at

  pub within : i < length kept.controls
  within = omega (arith, low, same-length plan.controls kept.controls is.controls)

  -- each component of its id is the one that it is live at
  pub kinds-here : AreKind k.comp live.comp.kind plan.graph.comps
  kinds-here = by plan.graph.comps (each-comp plan sound)
    where
      by : (cs : List Comp) → AllByRecursion (λ (c : Comp). comp_of plan.graph c.id ≡ Some c) cs → AreKind k.comp live.comp.kind cs
      by [] all = tt
      by (c ∷ cs) all = (
        λ same. (let one : Some c ≡ Some live.comp = sym all.0 ∙ ap (comp_of plan.graph) (eqb-true c.id k.comp same) ∙ live.there in let x : c ≡ live.comp = cc one in ap (λ (y : Comp). y.kind) x),
        by cs all.1,
      )

  pub blob-changed : (blob : List ℕ) → with_blob_here i blob kept ≡ with_control plan k.comp (with_blob blob) kept
  blob-changed blob =
      ap (λ (rs : List ControlRec). record { power = kept.power; streams = kept.streams; controls = rs })
      (changed-at (λ (x : ControlPlan). x.comp) (with_blob blob) no_control no_values plan.controls sound.controls_ascend kept.controls i low within)

  pub place-changed : (values : List ℕ) → with_values_at i values kept ≡ with_control plan k.comp (with_values values) kept
  place-changed values =
      ap (λ (rs : List ControlRec). record { power = kept.power; streams = kept.streams; controls = rs })
      (changed-at (λ (x : ControlPlan). x.comp) (with_values values) no_control no_values plan.controls sound.controls_ascend kept.controls i low within)

-- what is set twice to the same is set
set-twice : (comp : ℕ) (f : ControlRec → ControlRec) → ((r : ControlRec) → f (f r) ≡ f r) → (ks : List ControlPlan) (rs : List ControlRec) →
    changed (λ (k : ControlPlan). k.comp) comp f ks (changed (λ (k : ControlPlan). k.comp) comp f ks rs) ≡ changed (λ (k : ControlPlan). k.comp) comp f ks rs
set-twice comp f same [] rs = refl
set-twice comp f same (k ∷ ks) [] = refl
set-twice comp f same (k ∷ ks) (r ∷ rs) = λ i. by (k.comp == comp) i ∷ set-twice comp f same ks rs i
  where
    by : (b : Bool) → (if b then f (if b then f r else r) else (if b then f r else r)) ≡ (if b then f r else r)
    by true = same r
    by false = refl

pub control-twice : (plan : Plan) (comp : ℕ) (f : ControlRec → ControlRec) → ((r : ControlRec) → f (f r) ≡ f r) → (kept : Record) → with_control plan comp f (with_control plan comp f kept) ≡ with_control plan comp f kept
control-twice plan comp f same kept = ap (λ (rs : List ControlRec). record { power = kept.power; streams = kept.streams; controls = rs }) (set-twice comp f same plan.controls kept.controls)
