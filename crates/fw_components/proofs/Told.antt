-- The values of a component, by what is found.
use Rattle.std.proofs.Common.{Ok, ◌≡◌, refl, sym, ap, get_or, ◌∙◌, ℕ, List, Bool, true, false, cond, not, ◌==◌, Option, Some, None, Result, Err, ℤ, negsuc}
use Rattle.std.proofs.lemmas.Bool.{true≢false, false≢true}
use Rattle.std.specs.Prelude.{position, find, is_none, option_and_then}
use Rattle.fw_units.specs.declared.component.Component.{Component}
use Rattle.fw_components.specs.Tables.{Tables}
use Rattle.fw_units.specs.Changes.{has_id}
use Rattle.fw_components.specs.Changes.{is_there}
use Rattle.fw_units.specs.Values.{unit_values, takes_values}
use Rattle.fw_components.specs.Values.{values_or, unit_values_at, valued, values_set}
use Rattle.std.specs.Option.{option_map_or}
use Rattle.fw_units.proofs.Found.{placed-there, never-there}
use Rattle.fw_units.proofs.Taking.{taken-found, never-found-by}

module _ (id : ℕ) (cs : List Component) where
  pub gone-by : (o : Option ℕ) → o ≡ position (λ c. c.id == id) cs → is_none o ≡ true → has_id cs id ≡ false
  gone-by None e h = never-there id cs e
  gone-by (Some i) e h = absurd (false≢true h)

  pub there-by : (o : Option ℕ) → o ≡ position (λ c. c.id == id) cs → is_none o ≡ false → has_id cs id ≡ true
  there-by None e h = absurd (true≢false h)
  there-by (Some i) e h = placed-there id cs i e

-- what stands at the place of an id is found
pub standing : (id : ℕ) (cs ds : List Component) (at : ℕ) (x : Component) → cs ≡ ds → Some at ≡ position (λ c. c.id == id) ds → x ≡ get_or cs at x → Some x ≡ find (λ c. c.id == id) ds
standing id cs ds at x same place is = ap (λ (y : Component). Some y) (is ∙ ap (λ (zs : List Component). get_or zs at x) same) ∙ taken-found id ds at x place

module _ (t : Tables) (id command : ℕ) where
  row : Bool → Option Component → Result (List ℕ) ℤ
  row h o = cond (not h) (Err (negsuc 18)) (values_or (option_and_then (λ c. unit_values c.unit command) o))

  pub values-unplaced : (e : ℤ) → None ≡ position (λ c. c.id == id) t.comps → e ≡ cond (is_there t id) (negsuc 21) (negsuc 18) → Err e ≡ unit_values_at t id command
  unfolding row
  values-unplaced e none is = ap (λ (k : ℤ). Err k) is ∙ by (is_there t id) ∙ ap (row (is_there t id)) (sym (never-found-by id t.comps none))
    where
      by : (h : Bool) → Err (cond h (negsuc 21) (negsuc 18)) ≡ row h None
      by true = refl
      by false = refl

  pub values-found : (c : Component) (values : Option (List ℕ)) → is_there t id ≡ true → Some c ≡ find (λ c. c.id == id) t.comps → values ≡ unit_values c.unit command → values_or values ≡ unit_values_at t id command
  unfolding row
  values-found c values there it is = ap values_or is ∙ ap (λ (p : Bool × Option Component). row p.0 p.1) (λ i. (sym there i, it i))

module _ (t : Tables) (id command : ℕ) (values : List ℕ) where
  abbrev pub takes-it : Option Component → Bool
  takes-it o = option_map_or (λ c. takes_values c.unit command values) o false

  set-row : Bool → Bool → Result Tables ℤ
  set-row there takes_values = cond (not there) (Err (negsuc 18)) (cond takes_values (Ok (valued id values t)) (Err (negsuc 21)))

  pub set-unplaced : (e : ℤ) → None ≡ position (λ c. c.id == id) t.comps → e ≡ cond (is_there t id) (negsuc 21) (negsuc 18) → Err e ≡ values_set t id command values
  unfolding set-row
  set-unplaced e none is = ap (λ (k : ℤ). Err k) is ∙ by (is_there t id) ∙ ap (λ (o : Option Component). set-row (is_there t id) (takes-it o)) (sym (never-found-by id t.comps none))
    where
      by : (h : Bool) → Err (cond h (negsuc 21) (negsuc 18)) ≡ set-row h false
      by true = refl
      by false = refl

  pub set-refused : is_there t id ≡ true → takes-it (find (λ c. c.id == id) t.comps) ≡ false → Err (negsuc 21) ≡ values_set t id command values
  unfolding set-row
  set-refused there not_taken = ap (λ (p : Bool × Bool). set-row p.0 p.1) (λ i. (sym there i, sym not_taken i))

  pub set-done : is_there t id ≡ true → takes-it (find (λ c. c.id == id) t.comps) ≡ true → Ok (valued id values t) ≡ values_set t id command values
  unfolding set-row
  set-done there taken = ap (λ (p : Bool × Bool). set-row p.0 p.1) (λ i. (sym there i, sym taken i))
