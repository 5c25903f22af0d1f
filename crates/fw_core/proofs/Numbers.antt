-- The numbers that a state in tables keeps, and those at a mark.
use Rattle.std.proofs.Common.{◌≡◌, refl, sym, ap, ◌∙◌, ℕ, ◌∷◌, List, [], ◌++◌, map, filter, Bool, true, false, cond, not, ◌&&◌, ◌==◌, Option, Some, find, option_map, ℤ, pos, arith}
use Rattle.std.specs.Option.{option_map_or}
use Rattle.std.proofs.lemmas.Bool.{true≢false, eqb-true, eq-eqb, false_from_ne_true, cond-true, cond-false}
use Rattle.stream_law.specs.State.{FwState, View, History}
use Rattle.stream_law.specs.Ways.{is_of, live, channels_of}
use Rattle.stream_law.specs.Seen.{is_equaliser, is_volume, remembers, blob_in, gains_in, ramp_length, fresh_numbers, numbers_in, marked, numbers_seen}
use Rattle.stream_law.specs.Ramps.{last_gains, ramp_place, ramp_numbers, ramp_marked}
use Rattle.stream_law.proofs.Members.{IsIn, in-all}
use Rattle.stream_law.proofs.Ramping.{from-numbers, place-numbers}
use Rattle.stream_law.proofs.Remembering.{equaliser-plain}
use Rattle.row_laws.proofs.Found.{found-each}
use Rattle.fw_heap.specs.Regions.{RegionState}
use Rattle.fw_units.specs.declared.component.Component.{Component}
use Rattle.fw_units.specs.Units.{numbers_by}
use Rattle.fw_components.specs.Tables.{Tables, view_by}
use Rattle.fw_walks.proofs.Naming.{find-map}
use Rattle.fw_core.specs.Held.{state_in, IsPieceHeld}
use Rattle.fw_core.proofs.Histories.{history}
use Rattle.fw_core.proofs.Changed.{comps-distinct}
use Rattle.fw_core.proofs.PartedUnits.{find-filter}

-- ---- marks

-- at a mark an equaliser's epoch begins
pub marked-equaliser : (v w : View) (c : ℕ) (numbers : List ℤ) → is_of w.graph is_equaliser c ≡ true → marked v w c numbers ≡ fresh_numbers (blob_in w c) (channels_of w c)
marked-equaliser v w c numbers is =
    cond-false (is_of w.graph is_volume c) (cond (live v c) (ramp_marked (ramp_length v c) (gains_in v c) numbers) (ramp_numbers (gains_in w c) 0 0)) (fresh_numbers (blob_in w c) (channels_of w c)) (equaliser-plain w.graph c is)

-- and a volume that was Live goes from the gains at its last frame
pub marked-volume : (v w : View) (c : ℕ) (numbers : List ℤ) → is_of w.graph is_volume c ≡ true → live v c ≡ true → marked v w c numbers ≡ ramp_marked (ramp_length v c) (gains_in v c) numbers
marked-volume v w c numbers is on =
    cond-true (is_of w.graph is_volume c) (cond (live v c) (ramp_marked (ramp_length v c) (gains_in v c) numbers) (ramp_numbers (gains_in w c) 0 0)) (fresh_numbers (blob_in w c) (channels_of w c)) is
    ∙ cond-true (live v c) (ramp_marked (ramp_length v c) (gains_in v c) numbers) (ramp_numbers (gains_in w c) 0 0) on

own-place : (done : ℕ) → ramp_place done done ≡ done
own-place done = omega arith

-- the numbers of a unit at its mark
pub marked-own : (from : List ℕ) (done over : ℕ) (to : List ℕ) → ramp_marked over to (map pos from ++ pos done ∷ []) ≡ map pos (last_gains from to over done) ++ pos 0 ∷ []
unfolding ramp_numbers
marked-own from done over to =
    ap (λ j. ramp_marked over to (map pos from ++ pos j ∷ [])) (sym (own-place done))
    ∙ (λ i. ramp_numbers (last_gains (from-numbers from done done i) to over ((place-numbers from done done ∙ own-place done) i)) over 0)
    ∙ ap (λ j. map pos (last_gains from to over done) ++ pos j ∷ []) (let e : ramp_place over 0 ≡ 0 = omega arith in e)

-- ---- a state in tables

module _ (t : Tables) (r : RegionState) (held : IsPieceHeld t r) (clock : ℕ) where
  abbrev f : FwState
  f = state_in t r clock

  pub numbers-own : (e : Component) → IsIn e t.comps → remembers (view_by t) e.id ≡ true → numbers_in (state_in t r clock) e.id ≡ numbers_by e.unit e.channels
  numbers-own e in_e on =
      ap (λ (o : Option History). option_map_or (λ (h : History). h.numbers) o []) (
      find-map (λ (h : History). h.comp == e.id) history (filter (λ c. remembers (view_by t) c.id) t.comps)
      ∙ ap (option_map history) (find-filter (λ x. x.id == e.id) (λ c. remembers (view_by t) c.id) t.comps e (in-all (λ (c : Component). find (λ x. x.id == c.id) t.comps ≡ Some c) t.comps e (found-each (λ (c : Component). c.id) t.comps (comps-distinct t r held)) in_e) on))

  -- the one at which a setting came in force has a mark
  pub seen-mark : (w : View) (id x : ℕ) → (id == x) ≡ true → numbers_seen (state_in t r clock) w (Some id) x ≡ marked (view_by t) w x (numbers_in (state_in t r clock) x)
  seen-mark w id x same = ap (λ h. cond ((live (view_by t) x && live w x) && not h) (numbers_in f x) (marked (view_by t) w x (numbers_in f x))) same ∙ none (live (view_by t) x && live w x)
    where
      none : (h : Bool) → cond (h && false) (numbers_in f x) (marked (view_by t) w x (numbers_in f x)) ≡ marked (view_by t) w x (numbers_in f x)
      none true = refl
      none false = refl

  -- and others go on
  pub seen-on : (w : View) (id x : ℕ) → (x == id) ≡ false → live (view_by t) x ≡ true → live w x ≡ true → numbers_seen (state_in t r clock) w (Some id) x ≡ numbers_in (state_in t r clock) x
  seen-on w id x far was now =
      let other : (id == x) ≡ false = false_from_ne_true (id == x) (λ q. true≢false (sym (eq-eqb x id (sym (eqb-true id x q))) ∙ far)) in
      λ i. cond ((was i && now i) && not (other i)) (numbers_in f x) (marked (view_by t) w x (numbers_in f x))
