-- The control of a name: its place, and how it is looked for one after another.
use Rattle.std.proofs.Common.{◌≡◌, refl, sym, ap, subst, ◌∙◌, ℕ, zero, suc, ◌+◌, ◌<◌, ◌≤◌, List, [], ◌∷◌, ◌++◌, length, get_or, take, Bool, true, false, cond, Some, None, arith}
use Rattle.std.specs.Prelude.{Option, find}
use Rattle.std.specs.Option.{option_map_or}
use Rattle.std.proofs.lemmas.List.{take_more, take_all}
use Rattle.stream_law.specs.Order.{is_among}
use Rattle.stream_law.proofs.Members.{in-all, find-in}
use Rattle.tplg_plan.specs.declared.plans.Plan.{Plan}
use Rattle.tplg_plan.specs.declared.plans.ControlPlan.{ControlPlan}
use Rattle.tplg_plan.specs.Sound.{IsSound, IsLive}
use Rattle.host_widgets.specs.declared.answers.HostFault.{HostFault}
use Rattle.host_widgets.specs.declared.kept.Record.{Record}
use Rattle.host_widgets.specs.Acts.{widget_words}
use Rattle.host_widgets.specs.Host.{IsRecordOf}
use Rattle.host_widgets.specs.Named.{is_named, loaded_fault}
use Rattle.host_ctl.specs.ControlAsks.{named_control}
use Rattle.host_ctl.specs.ControlPlaces.{control_place, control_here}
use Rattle.host_ctl.proofs.ControlTests.{loaded, place-low}
use Rattle.host_ctl.proofs.ControlsThere.{lost-here, named-here}
use Rattle.host_dynamic.specs.Dynamic.{is_control_up}
use Rattle.host_widgets.proofs.UpContext.{comp-up-by}
use Rattle.host_widgets.specs.Indices.{is_up}

-- none before it passes, and this one does
found-next : {X : Type 0} (p : X → Bool) (xs : List X) (i : ℕ) (d : X) → i < length xs → find p (take i xs) ≡ None → p (get_or xs i d) ≡ true → find p xs ≡ Some (get_or xs i d)
found-next p [] i d low none here = absurd (omega (arith, low))
found-next {X} p (x ∷ xs) zero d low none here = ap (λ (h : Bool). cond h (Some x) (find p xs)) here
found-next {X} p (x ∷ xs) (suc i) d low none here = by (p x) none (λ rest. found-next p xs i d (omega (arith, low)) rest here)
  where
    by : (h : Bool) → cond h (Some x) (find p (take i xs)) ≡ None → (find p (take i xs) ≡ None → find p xs ≡ Some (get_or xs i d)) → cond h (Some x) (find p xs) ≡ Some (get_or xs i d)
    by true some next = absurd (cc some)
    by false rest next = next rest

none-pushed : {X : Type 0} (p : X → Bool) (ys : List X) (y : X) → find p ys ≡ None → p y ≡ false → find p (ys ++ y ∷ []) ≡ None
none-pushed p [] y none apart = ap (λ (h : Bool). cond h (Some y) None) apart
none-pushed {X} p (z ∷ ys) y none apart = by (p z) none (λ rest. none-pushed p ys y rest apart)
  where
    by : (h : Bool) → cond h (Some z) (find p ys) ≡ None → (find p ys ≡ None → find p (ys ++ y ∷ []) ≡ None) → cond h (Some z) (find p (ys ++ y ∷ [])) ≡ None
    by true some next = absurd (cc some)
    by false rest next = next rest

module _ (plan : Plan) (name : List ℕ) where
  abbrev has_name : ControlPlan → Bool
  has_name k = is_named plan name k.comp

  -- nor does the next one have the name
  pub none-named : (i : ℕ) (d : ControlPlan) → i < length plan.controls → find has_name (take i plan.controls) ≡ None → has_name (get_or plan.controls i d) ≡ false → find has_name (take (i + 1) plan.controls) ≡ None
  none-named i d low none apart = ap (find has_name) (take_more plan.controls i d low) ∙ none-pushed has_name (take i plan.controls) (get_or plan.controls i d) none apart

  -- no control has it
  pub all-unnamed : (up : List ℕ) (i : ℕ) → length plan.controls ≤ i → find has_name (take i plan.controls) ≡ None → true ≡ is_control_up plan up name
  all-unnamed up i past none =
      let unnamed : named_control plan name ≡ None = ap (find has_name) (sym (take_all i plan.controls past)) ∙ none in
      sym (ap (λ (o : Option ControlPlan). option_map_or (λ (k : ControlPlan). is_up plan.graph up k.comp) o true) unnamed)

  -- this one has it
  pub up-of-named : IsSound plan → (up : List ℕ) (i : ℕ) (d : ControlPlan) → i < length plan.controls → find has_name (take i plan.controls) ≡ None → has_name (get_or plan.controls i d) ≡ true →
      is_among up (widget_words plan (get_or plan.controls i d).comp).pipe ≡ is_control_up plan up name
  up-of-named sound up i d low none here =
      let k : ControlPlan = get_or plan.controls i d in
      let found : named_control plan name ≡ Some k = found-next has_name plan.controls i d low none here in
      let live : IsLive plan.graph k = in-all (IsLive plan.graph) plan.controls k sound.live (find-in has_name plan.controls k found).0 in
      sym (ap (λ (o : Option ControlPlan). option_map_or (λ (x : ControlPlan). is_up plan.graph up x.comp) o true) found ∙ comp-up-by plan sound up k.comp live.comp live.there)

-- ---- its place

pub lost : (plan : Plan) (name : List ℕ) → control_place plan name ≡ None → named_control plan name ≡ None
lost plan name at = lost-here (λ (k : ControlPlan). is_named plan name k.comp) plan.controls at

-- a test that fails where there is none of this name: once it passes, there is one, at a place
pub at-place : (plan : Plan) → IsSound plan → (kept : Record) → IsRecordOf plan kept → (name : List ℕ) (test : Option ControlPlan → Option HostFault) (fault : HostFault) → test None ≡ Some fault → loaded_fault kept.power (test (named_control plan name)) ≡ None →
    (P : Option ControlPlan → Type 0) → ((i : ℕ) → i < length plan.controls → control_place plan name ≡ Some i → test (Some (control_here plan i)) ≡ None → P (Some (control_here plan i))) → P (named_control plan name)
at-place plan sound kept record_is name test fault fails none P here = by (control_place plan name) refl
  where
    passes : test (named_control plan name) ≡ None
    passes = (loaded kept.power (test (named_control plan name)) none).1

    by : (place : Option ℕ) → control_place plan name ≡ place → P (named_control plan name)
    by None at = absurd (cc (sym fails ∙ ap test (sym (lost plan name at)) ∙ passes))
    by (Some i) at =
        let low = place-low plan name i at in
        let named = named-here plan sound kept record_is i low name at in
        subst P (sym named) (here i low at (ap test (sym named) ∙ passes))
