-- Tables once a part of a blob came.
use Rattle.std.proofs.Common.{◌≡◌, refl, sym, ap, ◌∙◌, ℕ, ◌+◌, ◌*◌, ◌≤◌, List, [], ◌∷◌, map, length, take, Bool, true, false, cond, not, ◌==◌, Option, Some, None, Result, Ok, Err, ℤ, negsuc, arith}
use Rattle.std.proofs.lemmas.Bool.{eqb-true}
use Rattle.std.specs.Prelude.{position, find, option_map, option_and_then}
use Rattle.std.specs.Option.{option_map_or}
use Rattle.sof_base.specs.declared.part.Part.{Part}
use Rattle.eq_biquad.specs.EqState.{EqState, staged_of, numbers_of}
use Rattle.stream_law.specs.State.{Staging}
use Rattle.stream_law.specs.Seen.{fresh_numbers}
use Rattle.stream_law.specs.declared.graph.Comp.{Comp}
use Rattle.mbox_link.specs.Step.{staged_bytes, part_by, part_at}
use Rattle.fw_units.specs.declared.component.Component.{Component}
use Rattle.fw_units.specs.declared.component.Unit as units
use Rattle.fw_units.specs.declared.component.Unit.TheVariants.{Eq, Buffer}
use Rattle.fw_units.specs.Units.{comp_by, kind_by, setting_by}
use Rattle.fw_components.specs.Tables.{Tables, graph_of}
use Rattle.fw_components.specs.Kept.{IsKept, IsUnitSound, IsStreaming, is_plain}
use Rattle.fw_components.specs.Changes.{is_there}
use Rattle.fw_parts.specs.Staged.{staging_in, CanBeStaged}
use Rattle.fw_components.specs.Parts.{part_or, part_got, takes_part, parted_unit, parted_by, parted_at, parted, part_set, staging_after, IsParted}
use Rattle.fw_components.proofs.KeptLaws.{comps-changed, sound-changed, at-id, at-unit}
use Rattle.fw_units.proofs.Taking.{never-found-by}

-- ---- what a unit keeps

module _ (part : Part) (words : List ℤ) where
  parted-plain : (id : ℕ) (u : units.Unit) → is_plain u ≡ true → is_plain (parted_unit id part words u) ≡ true
  parted-plain id (Buffer size ring source sink) e = e
  parted-plain id u e = e

  parted-sound : (id : ℕ) (u : units.Unit) → IsUnitSound u → IsUnitSound (parted_unit id part words u)
  parted-sound id (Eq eq next remaining) e = tt
  parted-sound id u e = e

  parted-streaming : ((part.remaining == 0) ≡ false → 260 * (part.index + 1) + part.remaining ≤ 992) → (id : ℕ) (u : units.Unit) → IsStreaming u → IsStreaming (parted_unit id part words u)
  parted-streaming within id (Eq eq next remaining) e = by (part.remaining == 0) refl
    where
      by : (h : Bool) → (part.remaining == 0) ≡ h → 260 * (cond h 0 (part.index + 1)) + part.remaining ≤ 992
      by true is = let none : part.remaining ≡ 0 = eqb-true part.remaining 0 is in omega (arith, none)
      by false is = within is
  parted-streaming within id u e = e

-- ---- and tables

module _ (t : Tables) (kept : IsKept t) (id : ℕ) (part : Part) where
  pub parted-kept : (words : List ℤ) (bytes : List ℕ) (new : List Component) → CanBeStaged part bytes → new ≡ map (parted_at id part words) t.comps → IsKept (record { comps = new; buffers = t.buffers; pipes = t.pipes; joins = t.joins })
  parted-kept words bytes new joined is =
      comps-changed t kept (parted_at id part words) new (at-id (parted_by part words) (λ c. refl) id)
      (at-unit (λ u. is_plain u ≡ true) (parted_by part words) (λ c. parted-plain part words c.id c.unit) id)
      (sound-changed (parted_by part words) (λ c. parted-sound part words c.id c.unit) id t.comps kept.sound)
      (at-unit IsStreaming (parted_by part words) (λ c. parted-streaming part words joined.within c.id c.unit) id)
      is

-- ---- what is answered

module _ (t : Tables) (id : ℕ) (part : Part) (words : List ℤ) where
  abbrev pub takes-it : Option Component → Bool
  takes-it o = option_map_or (λ c. takes_part c.id c.unit part) o false

  set-row : Bool → Bool → Result Tables ℤ
  set-row there takes = cond (not there) (Err (negsuc 18)) (cond takes (Ok (parted id part words t)) (Err (negsuc 21)))

  pub part-unplaced : (e : ℤ) → None ≡ position (λ c. c.id == id) t.comps → e ≡ cond (is_there t id) (negsuc 21) (negsuc 18) → Err e ≡ part_set t id part words
  unfolding set-row
  part-unplaced e none is = ap (λ (k : ℤ). Err k) is ∙ by (is_there t id) ∙ ap (λ (o : Option Component). set-row (is_there t id) (takes-it o)) (sym (never-found-by id t.comps none))
    where
      by : (h : Bool) → Err (cond h (negsuc 21) (negsuc 18)) ≡ set-row h false
      by true = refl
      by false = refl

  pub part-refused : is_there t id ≡ true → takes-it (find (λ c. c.id == id) t.comps) ≡ false → Err (negsuc 21) ≡ part_set t id part words
  unfolding set-row
  part-refused there not_taken = ap (λ (p : Bool × Bool). set-row p.0 p.1) (λ i. (sym there i, sym not_taken i))

  pub part-done : is_there t id ≡ true → takes-it (find (λ c. c.id == id) t.comps) ≡ true → Ok (parted id part words t) ≡ part_set t id part words
  unfolding set-row
  part-done there taken = ap (λ (p : Bool × Bool). set-row p.0 p.1) (λ i. (sym there i, sym taken i))

-- what is stated of the bytes that were taken
pub not-taken : (h : Bool) (bytes : List ℕ) → ◌≡◌ {A = Option (List ℕ)} None (cond h (Some bytes) None) → h ≡ false
not-taken true bytes e = cc e
not-taken false bytes e = refl

pub is-taken : (h : Bool) (bytes own : List ℕ) → ◌≡◌ {A = Option (List ℕ)} (Some own) (cond h (Some bytes) None) → (h ≡ true) × (own ≡ bytes)
is-taken true bytes own e = (refl, cc e)
is-taken false bytes own e = absurd (cc e)

-- the component of an id in the graph
comp-in : (id : ℕ) (cs : List Component) → find (λ x. x.id == id) (map comp_by cs) ≡ option_map comp_by (find (λ c. c.id == id) cs)
comp-in id [] = refl
comp-in id (c ∷ cs) = by (c.id == id) (comp-in id cs)
  where
    by : (h : Bool) → find (λ x. x.id == id) (map comp_by cs) ≡ option_map comp_by (find (λ c. c.id == id) cs) → cond h (Some (comp_by c)) (find (λ x. x.id == id) (map comp_by cs)) ≡ option_map comp_by (cond h (Some c) (find (λ c. c.id == id) cs))
    by true rest = refl
    by false rest = rest

module _ (t : Tables) (id index : ℕ) where
  got-row : Bool → Option Part → Result Part ℤ
  got-row there o = cond (not there) (Err (negsuc 18)) (part_or o)

  part-in : (o : Option Component) → find (λ c. c.id == id) t.comps ≡ o → part_at (graph_of t) id index ≡ option_and_then (λ c. part_by (kind_by c.unit) (setting_by c.unit) index) o
  part-in o is = ap (λ (q : Option Comp). option_and_then (λ x. part_by x.kind x.setting index) q) (comp-in id t.comps ∙ ap (option_map comp_by) is) ∙ by o
    where
      by : (o : Option Component) → option_and_then (λ (x : Comp). part_by x.kind x.setting index) (option_map comp_by o) ≡ option_and_then (λ c. part_by (kind_by c.unit) (setting_by c.unit) index) o
      by None = refl
      by (Some c) = refl

  pub got-unplaced : (e : ℤ) → None ≡ position (λ c. c.id == id) t.comps → e ≡ cond (is_there t id) (negsuc 21) (negsuc 18) → Err e ≡ part_got t id index
  unfolding got-row
  got-unplaced e none is = ap (λ (k : ℤ). Err k) is ∙ by (is_there t id) ∙ ap (got-row (is_there t id)) (sym (part-in None (never-found-by id t.comps none)))
    where
      by : (h : Bool) → Err (cond h (negsuc 21) (negsuc 18)) ≡ got-row h None
      by true = refl
      by false = refl

  pub got-found : (c : Component) (o : Option Part) → is_there t id ≡ true → Some c ≡ find (λ c. c.id == id) t.comps → o ≡ part_by (kind_by c.unit) (setting_by c.unit) index → part_or o ≡ part_got t id index
  unfolding got-row
  got-found c o there it is = ap part_or is ∙ ap (λ (p : Bool × Option Part). got-row p.0 p.1) (λ i. (sym there i, sym (part-in (Some c) (sym it)) i))

-- ---- an equaliser that took a part

-- what is staged and its numbers are as its words say
pub unit-parted : (part : Part) (id : ℕ) (old new : EqState) (next remaining : ℕ) (bytes : List ℕ) → bytes ≡ staged_bytes (staging_in id (staged_of old) next remaining) part
    → length bytes ≤ 1024
    → ((part.remaining == 0) ≡ false → take (292 + 260 * part.index) (staged_of new) ≡ bytes)
    → ((channels : ℕ) → numbers_of new channels ≡ cond (part.remaining == 0) (fresh_numbers bytes channels) (numbers_of old channels))
    → IsParted part id (Eq old next remaining) (Eq new (cond (part.remaining == 0) 0 (part.index + 1)) part.remaining)
unit-parted part id old new next remaining bytes same few staged numbers = record {
  staged = by (part.remaining == 0) refl;
  numbers = λ channels. numbers channels ∙ ap (λ xs. cond (part.remaining == 0) (fresh_numbers xs channels) (numbers_of old channels)) same;
}
  where
    at : (index : ℕ) → 32 + 260 * (index + 1) ≡ 292 + 260 * index
    at index = omega arith

    by : (h : Bool) → (part.remaining == 0) ≡ h → staging_in id (staged_of new) (cond (part.remaining == 0) 0 (part.index + 1)) part.remaining ≡ staging_after id (staged_bytes (staging_in id (staged_of old) next remaining) part) part
    by true is = ap (λ h. cond {A = Option Staging} h None (Some (record { eq = id; bytes = take (32 + 260 * (cond (part.remaining == 0) 0 (part.index + 1))) (staged_of new); next = cond (part.remaining == 0) 0 (part.index + 1); remaining = part.remaining }))) is
        ∙ sym (ap (λ h. cond {A = Option Staging} h None (Some (record { eq = id; bytes = staged_bytes (staging_in id (staged_of old) next remaining) part; next = part.index + 1; remaining = part.remaining }))) is)
    by false is =
        ap (λ h. cond {A = Option Staging} (part.remaining == 0) None (Some (record { eq = id; bytes = take (32 + 260 * (cond h 0 (part.index + 1))) (staged_of new); next = cond h 0 (part.index + 1); remaining = part.remaining }))) is
        ∙ ap (λ (xs : List ℕ). cond {A = Option Staging} (part.remaining == 0) None (Some (record { eq = id; bytes = xs; next = part.index + 1; remaining = part.remaining }))) (ap (λ n. take n (staged_of new)) (at part.index) ∙ staged is ∙ same)
