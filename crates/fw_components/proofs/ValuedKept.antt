-- What is so of tables once values are set.
use Rattle.std.proofs.Common.{◌≡◌, refl, sym, ap, ◌∙◌, subst, ℕ, zero, suc, ◌≤◌, List, [], ◌∷◌, map, length, get_or, Bool, true, false, cond, ◌==◌, ◌&&◌, Option, Some, arith}
use Rattle.std.proofs.lemmas.Bool.{eqb-true, and_parts, leb-true, le-leb}
use Rattle.std.proofs.lemmas.List.FromFn.{length-map-range_with_len}
use Rattle.std.specs.Prelude.{nat_le, find}
use Rattle.std.specs.List.{list_all, AllByRecursion, range_with_len}
use Rattle.std.specs.Option.{option_map_or}
use Rattle.sof_base.specs.Ramps.{ramp_gain}
use Rattle.sof_base.proofs.RampLaws.{between}
use Rattle.stream_law.specs.Ramps.{last_gains}
use Rattle.ipc3_model.specs.declared.control_kind.TheConstants.{CTRL_VOLUME, CTRL_SWITCH}
use Rattle.fw_units.specs.declared.component.Component.{Component}
use Rattle.fw_units.specs.declared.component.Unit as units
use Rattle.fw_units.specs.declared.component.Unit.TheVariants.{Volume, Mux, Demux, Buffer}
use Rattle.fw_units.specs.Changes.{with_unit}
use Rattle.fw_units.specs.Values.{takes_values, valued_unit, valued_at}
use Rattle.fw_moves.proofs.StepLaws.{own-found}
use Rattle.fw_components.specs.Tables.{Tables}
use Rattle.fw_components.specs.Kept.{IsKept, IsUnitSound, IsStreaming, is_plain}
use Rattle.fw_components.proofs.KeptLaws.{comps-changed, at-id, at-unit}

-- ---- gains of at most 16777216

abbrev are_low : List ℕ → Bool
are_low gains = list_all (λ g. nat_le g 16777216) gains

one-low : (gains : List ℕ) → are_low gains ≡ true → (k : ℕ) → get_or gains k 0 ≤ 16777216
one-low [] low k = omega arith
one-low (g ∷ gains) low zero = leb-true g 16777216 (and_parts (nat_le g 16777216) (are_low gains) low).0
one-low (g ∷ gains) low (suc k) = one-low gains (and_parts (nat_le g 16777216) (are_low gains) low).1 k

each-low : (f : ℕ → ℕ) → ((k : ℕ) → f k ≤ 16777216) → (ks : List ℕ) → are_low (map f ks) ≡ true
each-low f low [] = refl
each-low f low (k ∷ ks) = ap (λ (p : Bool × Bool). p.0 && p.1) (λ i. (le-leb (f k) 16777216 (low k) i, each-low f low ks i))

-- those at the last frame of a ramp are, and are as many
last-low : (from to : List ℕ) (count done : ℕ) → are_low from ≡ true → are_low to ≡ true → are_low (last_gains from to count done) ≡ true
last-low from to count zero low high = low
last-low from to count (suc j) low high =
    each-low (λ k. ramp_gain (get_or from k 0) (get_or to k 0) count j) (λ k. between (get_or from k 0) (get_or to k 0) count j 16777216 (one-low from low k) (one-low to high k)) (range_with_len 0 (length to))

last-length : (from to : List ℕ) (count done : ℕ) → length from ≡ length to → length (last_gains from to count done) ≡ length to
last-length from to count zero same = same
last-length from to count (suc j) same = length-map-range_with_len (λ k. ramp_gain (get_or from k 0) (get_or to k 0) count j) 0 (length to)

-- ---- each change keeps what a unit is

valued-plain : (values : List ℕ) (u : units.Unit) → is_plain u ≡ true → is_plain (valued_unit values u) ≡ true
valued-plain values (Volume gains ramp from done frames piece) e = refl
valued-plain values (Mux choice piece) e = refl
valued-plain values (Demux masks piece) e = refl
valued-plain values u e = e

valued-streaming : (values : List ℕ) (u : units.Unit) → IsStreaming u → IsStreaming (valued_unit values u)
valued-streaming values (Buffer size ring source sink) e = e
valued-streaming values u e = e

valued-sound : (command : ℕ) (values : List ℕ) (u : units.Unit) → takes_values u command values ≡ true → IsUnitSound u → IsUnitSound (valued_unit values u)
valued-sound command values (Volume gains ramp from done frames piece) takes e =
    let right = (and_parts (command == CTRL_VOLUME) (length values == length gains && are_low values) takes).1 in
    let parts = and_parts (length values == length gains) (are_low values) right in
    let same : length values ≡ length gains = eqb-true (length values) (length gains) parts.0 in
    subst (λ h. IsUnitSound (Volume (cond h values gains) ramp (cond h (last_gains from gains frames done) from) (cond h 0 done) frames piece)) (sym parts.0)
    (last-length from gains frames done e.0 ∙ sym same, parts.1, last-low from gains frames done e.2 e.1, e.3)
valued-sound command values (Mux choice piece) takes e = tt
valued-sound command values (Demux masks piece) takes e =
    let right = (and_parts (command == CTRL_SWITCH) (length values == 8 && list_all (λ v. nat_le v 255) values) takes).1 in
    let parts = and_parts (length values == 8) (list_all (λ v. nat_le v 255) values) right in
    subst (λ h. IsUnitSound (Demux (cond h values masks) piece)) (sym parts.0) (eqb-true (length values) 8 parts.0, parts.1)
valued-sound command values u takes e = e

-- ---- and tables

module _ (t : Tables) (kept : IsKept t) (id command : ℕ) (values : List ℕ) (takes : option_map_or (λ c. takes_values c.unit command values) (find (λ c. c.id == id) t.comps) false ≡ true) where
  sound-each : (cs : List Component) → AllByRecursion (λ c. find (λ x. x.id == c.id) t.comps ≡ Some c) cs → AllByRecursion (λ c. IsUnitSound c.unit) cs → AllByRecursion (λ c. IsUnitSound c.unit) (map (valued_at id values) cs)
  sound-each [] own all = tt
  sound-each (c ∷ cs) own all = (by (c.id == id) refl, sound-each cs own.1 all.1)
    where
      by : (h : Bool) → (c.id == id) ≡ h → IsUnitSound (cond {A = Component} h (with_unit (valued_unit values) c) c).unit
      by true is =
          let found : find (λ x. x.id == id) t.comps ≡ Some c = ap (λ k. find (λ x. x.id == k) t.comps) (sym (eqb-true c.id id is)) ∙ own.0 in
          valued-sound command values c.unit (sym (ap (λ (o : Option Component). option_map_or (λ c. takes_values c.unit command values) o false) found) ∙ takes) all.0
      by false is = all.0

  pub valued-kept : (new : List Component) → new ≡ map (valued_at id values) t.comps → IsKept (record { comps = new; buffers = t.buffers; pipes = t.pipes; joins = t.joins })
  valued-kept new is =
      comps-changed t kept (valued_at id values) new (at-id (with_unit (valued_unit values)) (λ c. refl) id)
      (at-unit (λ u. is_plain u ≡ true) (with_unit (valued_unit values)) (λ c. valued-plain values c.unit) id)
      (sound-each t.comps (own-found t.comps kept.named.comps) kept.sound)
      (at-unit IsStreaming (with_unit (valued_unit values)) (λ c. valued-streaming values c.unit) id)
      is
