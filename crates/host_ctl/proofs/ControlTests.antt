-- What the tests before any message tell.
use Rattle.std.proofs.Common.{◌≡◌, ◌⊎◌, ⊎_elim, refl, sym, ap, subst, ◌∙◌, ℕ, ◌<◌, ◌≤◌, zero, suc, Bool, true, false, not, cond, List, [], ◌∷◌, length, replicate, find, Option, Some, None, Result, Ok, Err, unwrap_or, ◌==◌, ◌||◌, ◌&&◌, arith}
use Rattle.std.specs.Prelude.{IfOk}
use Rattle.std.specs.Option.{option_map}
use Rattle.std.specs.Result.{IsErr, IsErrAnd}
use Rattle.std.specs.List.{list_all}
use Rattle.std.proofs.lemmas.Bool.{eqb-true, ltb-true}
use Rattle.std.proofs.lemmas.List.{length-replicate}
use Rattle.std.proofs.lemmas.List.Quantifiers.{position-Some}
use Rattle.mbox_link.specs.Calls.{World, Meaning}
use Rattle.tplg_plan.specs.declared.plans.Plan.{Plan}
use Rattle.tplg_plan.specs.declared.plans.ControlPlan.{ControlPlan}
use Rattle.tplg_plan.specs.declared.plans.ControlKind.{ControlKind}
use Rattle.tplg_plan.specs.declared.plans.ControlKind.TheVariants.{Volume, Choice, Blob, Masks}
use Rattle.tplg_plan.specs.Sound.{IsControlOf, IsSound}
use Rattle.host_widgets.specs.declared.answers.HostFault.{HostFault}
use Rattle.host_widgets.specs.declared.answers.HostFault.TheVariants as faults
use Rattle.host_widgets.specs.declared.kept.Power.{Power}
use Rattle.host_widgets.specs.declared.kept.Power.TheVariants.{Unloaded, On, Off}
use Rattle.host_widgets.specs.declared.kept.Record.{Record}
use Rattle.host_widgets.specs.Host.{IsRecordOf, Outcome}
use Rattle.host_widgets.specs.Named.{is_named, loaded_fault}
use Rattle.host_widgets.specs.Orders.{Procedure, Carried}
use Rattle.host_widgets.specs.TestedOrders.{Tested}
use Rattle.host_ctl.specs.ControlAsks.{named_control, channels_of, takes_value, spread, kind_fault, setting_fault, set_fault, name_fault, get_fault}
use Rattle.host_ctl.specs.ControlAnswers.{MaySet}
use Rattle.host_ctl.specs.ControlPlaces.{no_control, control_place, control_here}
use Rattle.host_ctl.proofs.ControlsThere.{found-here, live, lost-here, named-here}

-- ---- a call by its test

module _ {D : Type 0} (means : Meaning D) (plan : Plan) (heap : ℕ) (test : Option HostFault) (o : Procedure) (kept : Record) (w : World D) where
  pub tested-late : (kept' : Record) (v : World D) (result : Outcome) → test ≡ None → Carried means plan heap o kept kept' w v result → Tested means plan heap test o kept kept' w v result
  tested-late kept' v result none carried = record { early = λ f e. absurd (cc (sym none ∙ e)); late = λ none. carried }

pub place-low : (plan : Plan) (name : List ℕ) (i : ℕ) → control_place plan name ≡ Some i → i < length plan.controls
place-low plan name i at = (position-Some (λ k. is_named plan name k.comp) plan.controls i no_control at).0

-- something is loaded
pub loaded : (power : Power) (rest : Option HostFault) → loaded_fault power rest ≡ None → (power ≡ Unloaded → ⊥) × (rest ≡ None)
loaded Unloaded rest is = absurd (cc is)
loaded On rest is = (λ e. cc e, is)
loaded Off rest is = (λ e. cc e, is)

-- what a name and no other test say
pub named-none : (plan : Plan) (kept : Record) (name : List ℕ) (i : ℕ) → (kept.power ≡ Unloaded → ⊥) → control_place plan name ≡ Some i → get_fault plan kept name ≡ None
named-none plan kept name i up at = by kept.power up
  where
    by : (power : Power) → (power ≡ Unloaded → ⊥) → loaded_fault power (name_fault name (named_control plan name) None) ≡ None
    by Unloaded up = absurd (up refl)
    by On up = ap (λ (o : Option ControlPlan). name_fault name o None) (found-here (λ x. is_named plan name x.comp) plan.controls i no_control at)
    by Off up = ap (λ (o : Option ControlPlan). name_fault name o None) (found-here (λ x. is_named plan name x.comp) plan.controls i no_control at)

pub unnamed : (plan : Plan) (kept : Record) (name : List ℕ) → (kept.power ≡ Unloaded → ⊥) → control_place plan name ≡ None → get_fault plan kept name ≡ Some (faults.NoSuch name)
unnamed plan kept name up lost = by kept.power up
  where
    by : (power : Power) → (power ≡ Unloaded → ⊥) → loaded_fault power (name_fault name (named_control plan name) None) ≡ Some (faults.NoSuch name)
    by Unloaded up = absurd (up refl)
    by On up = ap (λ (o : Option ControlPlan). name_fault name o None) (lost-here (λ x. is_named plan name x.comp) plan.controls lost)
    by Off up = ap (λ (o : Option ControlPlan). name_fault name o None) (lost-here (λ x. is_named plan name x.comp) plan.controls lost)

-- a set of a control that there is goes by its kind
pub set-goes : (plan : Plan) (kept : Record) (name values : List ℕ) (i : ℕ) → get_fault plan kept name ≡ None → control_place plan name ≡ Some i → set_fault plan kept name values ≡ kind_fault name (control_here plan i).kind (channels_of (control_here plan i).kind) values
set-goes plan kept name values i none at = by kept.power (loaded kept.power (name_fault name (named_control plan name) None) none).0
  where
    by : (power : Power) → (power ≡ Unloaded → ⊥) → loaded_fault power (setting_fault name values (named_control plan name)) ≡ kind_fault name (control_here plan i).kind (channels_of (control_here plan i).kind) values
    by Unloaded up = absurd (up refl)
    by On up = ap (setting_fault name values) (found-here (λ x. is_named plan name x.comp) plan.controls i no_control at)
    by Off up = ap (setting_fault name values) (found-here (λ x. is_named plan name x.comp) plan.controls i no_control at)

pub set-passes : (plan : Plan) (kept : Record) (name values : List ℕ) (k : ControlPlan) → named_control plan name ≡ Some k → set_fault plan kept name values ≡ None → kind_fault name k.kind (channels_of k.kind) values ≡ None
set-passes plan kept name values k named none = ap (setting_fault name values) (sym named) ∙ (loaded kept.power (setting_fault name values (named_control plan name)) none).1

-- what is loaded and not on is off
pub is-off : (power : Power) → (power ≡ Unloaded → ⊥) → (power ≡ Unloaded) ⊎ (power ≡ Off) → power ≡ Off
is-off power up is = ⊎_elim (λ e. absurd (up e)) (λ off. off) is

-- what an answer says, with what else is so then
pub told-alone : {X : Type 0} (r : Result X HostFault) (x : X) (Has : Type 0) → IfOk r (λ a. (a ≡ x) × Has) → IfOk r (λ a. a ≡ x)
told-alone (Ok a) x Has is = is.0
told-alone (Err f) x Has is = tt

pub told-shown : {X : Type 0} (r : Result X HostFault) (x : X) (Has : Type 0) (Q : X → Type 0) → IfOk r (λ a. (a ≡ x) × Has) → (Has → Q x) → IfOk r Q
told-shown (Ok a) x Has Q is next = subst Q (sym is.0) (next is.1)
told-shown (Err f) x Has Q is next = tt

-- ---- values that pass

passed : (b : Bool) (x : HostFault) (rest : Option HostFault) → cond (not b) (Some x) rest ≡ None → (b ≡ true) × (rest ≡ None)
passed true x rest is = (refl, is)
passed false x rest is = absurd (cc is)

none-bad : (p : ℕ → Bool) (vs : List ℕ) → option_map faults.Range (find (λ v. not (p v)) vs) ≡ None → list_all p vs ≡ true
none-bad p [] is = refl
none-bad p (v ∷ vs) is = by (p v) is (none-bad p vs)
  where
    by : (b : Bool) → option_map faults.Range (cond (not b) (Some v) (find (λ v. not (p v)) vs)) ≡ None → (option_map faults.Range (find (λ v. not (p v)) vs) ≡ None → list_all p vs ≡ true) → (b && list_all p vs) ≡ true
    by true is rest = rest is
    by false is rest = absurd (cc is)

same-all : (p : ℕ → Bool) (n v : ℕ) → p v ≡ true → list_all p (replicate n v) ≡ true
same-all p zero v is = refl
same-all p (suc n) v is = λ i. is i && same-all p n v is i

first-all : (p : ℕ → Bool) (v : ℕ) (vs : List ℕ) → list_all p (v ∷ vs) ≡ true → p v ≡ true
first-all p v vs is = by (p v) is
  where
    by : (b : Bool) → (b && list_all p vs) ≡ true → b ≡ true
    by true is = refl
    by false is = absurd (cc is)

-- one value or one for each of so many channels, all of which pass
spread-fits : (p : ℕ → Bool) (channels : ℕ) (values : List ℕ) → 1 ≤ channels → (length values == 1 || length values == channels) ≡ true → list_all p values ≡ true → (length (spread channels values) ≡ channels) × (list_all p (spread channels values) ≡ true)
spread-fits p channels [] some count all = absurd (let none : 0 ≡ channels = eqb-true 0 channels count in omega (arith, none, some))
spread-fits p channels (v ∷ []) some count all = (length-replicate channels v, same-all p channels v (first-all p v [] all))
spread-fits p channels (v ∷ u ∷ values) some count all = (by (length (v ∷ u ∷ values) == 1) refl count, all)
  where
    by : (b : Bool) → (length (v ∷ u ∷ values) == 1) ≡ b → (b || length (v ∷ u ∷ values) == channels) ≡ true → length (v ∷ u ∷ values) ≡ channels
    by true is count = absurd (let one : length (v ∷ u ∷ values) ≡ 1 = eqb-true (length (v ∷ u ∷ values)) 1 is in omega (arith, one))
    by false is count = eqb-true (length (v ∷ u ∷ values)) channels count

few-of : (values : List ℕ) (channels : ℕ) → channels ≤ 8 → (length values == 1 || length values == channels) ≡ true → length values ≤ 8
few-of values channels few count = by (length values == 1) refl count
  where
    by : (b : Bool) → (length values == 1) ≡ b → (b || length values == channels) ≡ true → length values ≤ 8
    by true is count = (let one : length values ≡ 1 = eqb-true (length values) 1 is in omega (arith, one))
    by false is count = (let same : length values ≡ channels = eqb-true (length values) channels count in omega (arith, same, few))

-- the values of all channels may be set
pub record Settable (q : ControlKind) (values : List ℕ) : Type 0 where
  pub channels : unwrap_or (channels_of q) 0 ≤ 8
  pub values_few : length values ≤ 8
  pub may : MaySet q (spread (unwrap_or (channels_of q) 0) values)

one-of : (n : ℕ) → (n == 1 || n == 1) ≡ true → n ≡ 1
one-of n is = by (n == 1) refl is
  where
    by : (b : Bool) → (n == 1) ≡ b → (b || b) ≡ true → n ≡ 1
    by true e is = eqb-true n 1 e
    by false e is = absurd (cc is)

one-item : (items : ℕ) (values : List ℕ) → (length values == 1 || length values == 1) ≡ true → list_all (takes_value (Choice items)) values ≡ true → MaySet (Choice items) (spread 1 values)
one-item items [] count all = absurd (let none : 0 ≡ 1 = one-of 0 count in omega (arith, none))
one-item items (v ∷ []) count all = λ blob none. (v, refl, ltb-true v items (first-all (takes_value (Choice items)) v [] all), none)
one-item items (v ∷ u ∷ values) count all = absurd (let one : length (v ∷ u ∷ values) ≡ 1 = one-of (length (v ∷ u ∷ values)) count in omega (arith, one))

pub settable : (name : List ℕ) (q : ControlKind) (values : List ℕ) (kind : _) → IsControlOf q kind → kind_fault name q (channels_of q) values ≡ None → Settable q values
settable name (Volume min max channels lowest step mute) values kind of none =
    let q : ControlKind = Volume min max channels lowest step mute in
    let first = passed (length values == 1 || length values == channels) _ _ none in
    let all = none-bad (takes_value q) values first.1 in
    let fits = spread-fits (takes_value q) channels values of.3 first.0 all in
    record { channels = of.4; values_few = few-of values channels of.4 first.0; may = λ blob none. (fits.0, fits.1, none) }
settable name (Choice items) values kind of none =
    let first = passed (length values == 1 || length values == 1) _ _ none in
    let all = none-bad (takes_value (Choice items)) values first.1 in
    record { channels = omega arith; values_few = few-of values 1 (omega arith) first.0; may = one-item items values first.0 all }
settable name (Blob most initial) values kind of none = absurd (cc none)
settable name (Masks min max channels) values kind of none =
    let q : ControlKind = Masks min max channels in
    let first = passed (length values == 1 || length values == channels) _ _ none in
    let all = none-bad (takes_value q) values first.1 in
    let fits = spread-fits (takes_value q) channels values of.3 first.0 all in
    record { channels = of.4; values_few = few-of values channels of.4 first.0; may = λ blob none. (fits.0, fits.1, none) }

-- ---- what a `?` hands on

pub handed : {X : Type 0} (result : Result X HostFault) (fault : HostFault) → IsErr result × IsErrAnd result (λ f. f ≡ fault) → result ≡ Err fault
handed (Ok x) fault (err, same) = absurd (cc err)
handed (Err f) fault (err, same) = ap (λ (x : HostFault). Err x) same

-- of the control of this name
pub settable-here : (plan : Plan) → IsSound plan → (kept : Record) → IsRecordOf plan kept → (name : List ℕ) (i : ℕ) → control_place plan name ≡ Some i → (values : List ℕ) → set_fault plan kept name values ≡ None → Settable (control_here plan i).kind values
settable-here plan sound kept is name i at values none =
    let low = place-low plan name i at in
    let there = live plan sound kept is i low in
    settable name (control_here plan i).kind values there.comp.kind there.kind (set-passes plan kept name values (control_here plan i) (named-here plan sound kept is i low name at) none)
