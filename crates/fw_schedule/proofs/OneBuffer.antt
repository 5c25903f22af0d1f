-- What frames that are pushed into a buffer, or taken from it, leave of the tables.
use Rattle.std.proofs.Common.{◌≡◌, refl, sym, ap, ◌∙◌, subst, ℕ, ◌+◌, ◌≤◌, List, [], ◌∷◌, ◌++◌, map, drop, length, Bool, true, false, cond, ◌==◌, ◌||◌, Option, Some, None, arith, ℤ}
use Rattle.std.proofs.lemmas.Bool.{eqb-true, eq-eqb}
use Rattle.std.proofs.Math.Seq.{drop-nil}
use Rattle.std.specs.Prelude.{find, option_map}
use Rattle.std.specs.List.{list_any}
use Rattle.std.specs.Option.{option_map_or}
use Rattle.sof_base.specs.Samples.{Frame}
use Rattle.fw_units.specs.declared.component.Unit as units
use Rattle.fw_units.specs.declared.component.Component.{Component}
use Rattle.fw_units.specs.Units.{unit_frames, capacity_by}
use Rattle.fw_components.specs.Tables.{Tables, held_frames, capacity_at}
use Rattle.fw_units.specs.Changes.{has_id}
use Rattle.fw_units.specs.Frames.{channels_by, taken_unit, pushed_unit}
use Rattle.fw_components.specs.Frames.{channels_at, with_taken, pushed}
use Rattle.fw_units.proofs.Units.{pushed-unit, taken-channels, pushed-channels, pushed-capacity, taken-frames, pushed-most}

-- ---- a change of the units under one id

-- the component of an id has another unit
abbrev changed_at : (units.Unit → units.Unit) → ℕ → Component → Component
changed_at f b c = cond (c.id == b) (record { id = c.id; pipe = c.pipe; channels = c.channels; unit = f c.unit }) c

module _ (f : units.Unit → units.Unit) (b : ℕ) where
  -- what f leaves of a unit stays
  same-at : {X : Type 0} (g : units.Unit → X) → ((u : units.Unit) → g (f u) ≡ g u) → (c : Component) → g (changed_at f b c).unit ≡ g c.unit
  same-at {X} g same c = by (c.id == b)
    where
      by : (h : Bool) → g (cond h (record { id = c.id; pipe = c.pipe; channels = c.channels; unit = f c.unit }) c).unit ≡ g c.unit
      by true = same c.unit
      by false = refl

  id-at : (c : Component) → (changed_at f b c).id ≡ c.id
  id-at c = by (c.id == b)
    where
      by : (h : Bool) → (cond h (record { id = c.id; pipe = c.pipe; channels = c.channels; unit = f c.unit }) c).id ≡ c.id
      by true = refl
      by false = refl

  module _ (q : Component → Bool) (keeps : (c : Component) → q (changed_at f b c) ≡ q c) where
    found-at : (cs : List Component) → find q (map (changed_at f b) cs) ≡ option_map (changed_at f b) (find q cs)
    found-at [] = refl
    found-at (c ∷ cs) = ap (λ h. cond h (Some (changed_at f b c)) (find q (map (changed_at f b) cs))) (keeps c) ∙ by (q c) (found-at cs)
      where
        by : (h : Bool) → find q (map (changed_at f b) cs) ≡ option_map (changed_at f b) (find q cs) → cond h (Some (changed_at f b c)) (find q (map (changed_at f b) cs)) ≡ option_map (changed_at f b) (cond h (Some c) (find q cs))
        by true rest = refl
        by false rest = rest

    -- what is read of the one that is found
    read-at : {X : Type 0} (g : Component → X) (d : X) → ((c : Component) → g (changed_at f b c) ≡ g c) → (cs : List Component) → option_map_or g (find q (map (changed_at f b) cs)) d ≡ option_map_or g (find q cs) d
    read-at {X} g d same cs = ap (λ (o : Option Component). option_map_or g o d) (found-at cs) ∙ by (find q cs)
      where
        by : (o : Option Component) → option_map_or g (option_map (changed_at f b) o) d ≡ option_map_or g o d
        by None = refl
        by (Some c) = same c

    any-at : (cs : List Component) → list_any q (map (changed_at f b) cs) ≡ list_any q cs
    any-at [] = refl
    any-at (c ∷ cs) = λ i. keeps c i || any-at cs i

-- two changes are one
twice-at : (f g h : units.Unit → units.Unit) (b : ℕ) → ((u : units.Unit) → g (f u) ≡ h u) → (cs : List Component) → map (changed_at g b) (map (changed_at f b) cs) ≡ map (changed_at h b) cs
twice-at f g h b is [] = refl
twice-at f g h b is (c ∷ cs) = λ i. one (c.id == b) refl i ∷ twice-at f g h b is cs i
  where
    to : (units.Unit → units.Unit) → Component
    to k = record { id = c.id; pipe = c.pipe; channels = c.channels; unit = k c.unit }

    one : (t : Bool) → (c.id == b) ≡ t → changed_at g b (changed_at f b c) ≡ changed_at h b c
    one true it =
        ap (λ k. changed_at g b (cond k (to f) c)) it
        ∙ ap (λ k. cond k (to (λ u. g (f u))) (to f)) it
        ∙ ap (λ u. record { id = c.id; pipe = c.pipe; channels = c.channels; unit = u }) (is c.unit)
        ∙ sym (ap (λ k. cond k (to h) c) it)
    one false it =
        ap (λ k. changed_at g b (cond k (to f) c)) it
        ∙ ap (λ k. cond k (to g) c) it
        ∙ sym (ap (λ k. cond k (to h) c) it)

-- what is found has the id
found-id : (b : ℕ) (cs : List Component) (c : Component) → find (λ c. c.id == b) cs ≡ Some c → c.id ≡ b
found-id b [] c e = absurd (cc e)
found-id b (x ∷ cs) c e = by (x.id == b) (eqb-true x.id b) e (found-id b cs c)
  where
    or : Option Component → Component
    or None = x
    or (Some y) = y

    by : (h : Bool) → (h ≡ true → x.id ≡ b) → cond h (Some x) (find (λ c. c.id == b) cs) ≡ Some c → (find (λ c. c.id == b) cs ≡ Some c → c.id ≡ b) → c.id ≡ b
    by true same e rest = ap (λ (y : Component). y.id) (sym (ap or e)) ∙ same refl
    by false same e rest = rest e

-- ---- frames after those of a buffer

module _ (b : ℕ) (fs : List Frame) (w : List ℤ) (t : Tables) where
  pub has-pushed : (x : ℕ) → has_id (pushed b fs w t).buffers x ≡ has_id t.buffers x
  has-pushed x = any-at (pushed_unit fs w) b (λ c. c.id == x) (λ c. ap (λ n. n == x) (id-at (pushed_unit fs w) b c)) t.buffers

  pub channels-pushed : (x : ℕ) → channels_at (pushed b fs w t) x ≡ channels_at t x
  channels-pushed x = read-at (pushed_unit fs w) b (λ c. c.id == x) (λ c. ap (λ n. n == x) (id-at (pushed_unit fs w) b c)) (λ c. channels_by c.unit) 1 (same-at (pushed_unit fs w) b channels_by (pushed-channels fs w)) t.buffers

  pub capacity-pushed : (x : ℕ) → capacity_at (pushed b fs w t) x ≡ capacity_at t x
  capacity-pushed x = read-at (pushed_unit fs w) b (λ c. c.id == x) (λ c. ap (λ n. n == x) (id-at (pushed_unit fs w) b c)) (λ c. capacity_by c.unit) 0 (same-at (pushed_unit fs w) b capacity_by (pushed-capacity fs w)) t.buffers

  pub most-pushed : (x : ℕ) → length (held_frames (pushed b fs w t) x) ≤ length (held_frames t x) + length fs
  most-pushed x = subst (λ (o : Option Component). length (option_map_or (λ c. unit_frames c.unit) o []) ≤ length (held_frames t x) + length fs) (sym (found-at (pushed_unit fs w) b (λ c. c.id == x) (λ c. ap (λ n. n == x) (id-at (pushed_unit fs w) b c)) t.buffers)) (by (find (λ c. c.id == x) t.buffers))
    where
      one : (c : Component) (h : Bool) → length (unit_frames (cond h (record { id = c.id; pipe = c.pipe; channels = c.channels; unit = pushed_unit fs w c.unit }) c).unit) ≤ length (unit_frames c.unit) + length fs
      one c true = pushed-most fs w c.unit
      one c false = omega arith

      by : (o : Option Component) → length (option_map_or (λ c. unit_frames c.unit) (option_map (changed_at (pushed_unit fs w) b) o) []) ≤ length (option_map_or (λ c. unit_frames c.unit) o []) + length fs
      by None = omega arith
      by (Some c) = one c (c.id == b)

pub pushed-twice : (b : ℕ) (xs ys : List Frame) (v w : List ℤ) (t : Tables) → pushed b ys w (pushed b xs v t) ≡ pushed b (xs ++ ys) w t
pushed-twice b xs ys v w t = ap (λ (bs : List Component). record { comps = t.comps; buffers = bs; pipes = t.pipes; joins = t.joins }) (twice-at (pushed_unit xs v) (pushed_unit ys w) (pushed_unit (xs ++ ys) w) b (pushed-unit xs ys v w) t.buffers)

-- ---- a buffer without its first frames

module _ (b n : ℕ) (t : Tables) where
  pub has-taken : (x : ℕ) → has_id (with_taken b n t).buffers x ≡ has_id t.buffers x
  has-taken x = any-at (taken_unit n) b (λ c. c.id == x) (λ c. ap (λ n. n == x) (id-at (taken_unit n) b c)) t.buffers

  pub channels-taken : (x : ℕ) → channels_at (with_taken b n t) x ≡ channels_at t x
  channels-taken x = read-at (taken_unit n) b (λ c. c.id == x) (λ c. ap (λ n. n == x) (id-at (taken_unit n) b c)) (λ c. channels_by c.unit) 1 (same-at (taken_unit n) b channels_by (taken-channels n)) t.buffers

  pub frames-taken : held_frames (with_taken b n t) b ≡ drop n (held_frames t b)
  frames-taken = ap (λ (o : Option Component). option_map_or (λ c. unit_frames c.unit) o []) (found-at (taken_unit n) b (λ c. c.id == b) (λ c. ap (λ n. n == b) (id-at (taken_unit n) b c)) t.buffers) ∙ by (find (λ c. c.id == b) t.buffers) refl
    where
      by : (o : Option Component) → find (λ c. c.id == b) t.buffers ≡ o → option_map_or (λ c. unit_frames c.unit) (option_map (changed_at (taken_unit n) b) o) [] ≡ drop n (option_map_or (λ c. unit_frames c.unit) o [])
      by None is = sym (drop-nil n)
      by (Some c) is = ap (λ h. unit_frames (cond h (record { id = c.id; pipe = c.pipe; channels = c.channels; unit = taken_unit n c.unit }) c).unit) (eq-eqb c.id b (found-id b t.buffers c is)) ∙ taken-frames n c.unit
