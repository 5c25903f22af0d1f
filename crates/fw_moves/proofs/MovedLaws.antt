-- Two moves of a component, one after the other, are one move.
use Rattle.std.proofs.Common.{◌≡◌, refl, sym, ap, ◌∙◌, subst, ℕ, ◌+◌, ◌≤◌, List, [], ◌∷◌, ◌++◌, map, drop, length, get_or, Bool, true, false, cond, ◌==◌, Option, Some, None, arith, ℤ, length-drop}
use Rattle.std.proofs.lemmas.List.{length-map, map-append}
use Rattle.std.proofs.lemmas.Bool.{eqb-true, true≢false}
use Rattle.std.proofs.Math.Seq.{drop-nil}
use Rattle.std.specs.Prelude.{find, option_map}
use Rattle.std.specs.List.{AllByRecursion}
use Rattle.std.specs.Option.{option_map_or}
use Rattle.sof_base.specs.Samples.{Frame}
use Rattle.sof_base.specs.Masks.{kept_of}
use Rattle.stream_law.specs.declared.graph.Join.{Join}
use Rattle.stream_law.specs.Order.{is_among}
use Rattle.stream_law.specs.Table.{table}
use Rattle.fw_units.specs.declared.component.Unit as units
use Rattle.fw_units.specs.declared.component.Unit.TheVariants.{Volume, Demux, Buffer}
use Rattle.fw_units.specs.declared.component.Component.{Component}
use Rattle.fw_units.specs.Units.{unit_frames, capacity_by}
use Rattle.fw_units.specs.Frames.{channels_by, buffer_frames, taken_unit, taken_by, pushed_unit, pushed_by}
use Rattle.fw_moves.specs.Processed.{moves_of, feeds_of, chosen_by, IsLevel, IsInlet, IsOutlet, output_frames, fed_at, drained_at, run_unit}
use Rattle.fw_units.proofs.Ids.{has-map}
use Rattle.fw_moves.proofs.MadeLaws.{all-among}
use Rattle.fw_moves.proofs.RunLaws.{done-add}
use Rattle.fw_units.proofs.Units.{taken-unit, pushed-unit, taken-channels, pushed-channels, taken-capacity, pushed-capacity, taken-frames, pushed-most}

-- ---- one unit

pub run-twice : (v w : List ℤ) (a m : ℕ) (u : units.Unit) → run_unit w m (run_unit v a u) ≡ run_unit w (a + m) u
run-twice v w a m (Volume gains ramp from done frames piece) = ap (λ k. Volume gains ramp from k frames piece) (done-add frames done a m)
run-twice v w a m u = refl

pub run-kind : (w : List ℤ) (a n : ℕ) (u : units.Unit) → moves_of (run_unit w a u) n ≡ moves_of u n
run-kind w a n (Buffer size ring source sink) = refl
run-kind w a n u = refl

pub run-level : (w : List ℤ) (a : ℕ) (u : units.Unit) → IsLevel u → IsLevel (run_unit w a u)
run-level w a (Volume gains ramp from done frames piece) level = level
run-level w a (Demux masks piece) level = level
run-level w a u level = tt

pub run-feeds : (w : List ℤ) (a n : ℕ) (u : units.Unit) → feeds_of (run_unit w a u) n ≡ feeds_of u n
run-feeds w a n (Buffer size ring source sink) = refl
run-feeds w a n u = refl

pub run-chosen : (w : List ℤ) (a id : ℕ) (u : units.Unit) (joins : List Join) → chosen_by (run_unit w a u) id joins ≡ chosen_by u id joins
run-chosen w a id (Buffer size ring source sink) joins = refl
run-chosen w a id u joins = refl

-- what an output gets, of a unit that has moved frames, of frames and more, and how many
pub run-output : (w : List ℤ) (a channels k : ℕ) (u : units.Unit) (fs : List Frame) → output_frames (run_unit w a u) channels k fs ≡ output_frames u channels k fs
run-output w a channels k (Buffer size ring source sink) fs = refl
run-output w a channels k u fs = refl

pub output-more : (channels k : ℕ) (u : units.Unit) (xs ys : List Frame) → output_frames u channels k (xs ++ ys) ≡ output_frames u channels k xs ++ output_frames u channels k ys
output-more channels k (Demux masks piece) xs ys = map-append (kept_of channels (get_or masks k 0)) xs ys
output-more channels k u xs ys = refl

pub output-length : (channels k : ℕ) (u : units.Unit) (fs : List Frame) → length (output_frames u channels k fs) ≡ length fs
output-length channels k (Demux masks piece) fs = length-map fs (kept_of channels (get_or masks k 0))
output-length channels k u fs = refl

-- what a ring keeps when frames are taken and pushed
pub record Keeps {X : Type 0} (g : units.Unit → X) : Type 0 where
  pub taken : (n : ℕ) (u : units.Unit) → g (taken_unit n u) ≡ g u
  pub pushed : (fs : List Frame) (w : List ℤ) (u : units.Unit) → g (pushed_unit fs w u) ≡ g u

keeps-channels : Keeps channels_by
keeps-channels = record { taken = taken-channels; pushed = pushed-channels }

keeps-capacity : Keeps capacity_by
keeps-capacity = record { taken = taken-capacity; pushed = pushed-capacity }

-- a table of the same values
pub table-same : (f g : ℕ → List Frame) (ids : List ℕ) → AllByRecursion (λ b. f b ≡ g b) ids → table ids f ≡ table ids g
table-same f g [] all = refl
table-same f g (b ∷ ids) all = (λ i. (b, all.0 i) ∷ table-same f g ids all.1 i)

-- what is found has the id
pub found-id : (b : ℕ) (cs : List Component) (c : Component) → find (λ c. c.id == b) cs ≡ Some c → c.id ≡ b
found-id b [] c e = absurd (cc e)
found-id b (x ∷ cs) c e = by (x.id == b) (eqb-true x.id b) e (found-id b cs c)
  where
    or : Option Component → Component
    or None = x
    or (Some y) = y

    by : (h : Bool) → (h ≡ true → x.id ≡ b) → cond h (Some x) (find (λ c. c.id == b) cs) ≡ Some c → (find (λ c. c.id == b) cs ≡ Some c → c.id ≡ b) → c.id ≡ b
    by true same e rest = ap (λ (y : Component). y.id) (sym (ap or e)) ∙ same refl
    by false same e rest = rest e

-- ---- one buffer of a table

pub fed-id : (fed : List ℕ) (fs : ℕ → List Frame) (w : ℕ → List ℤ) (c : Component) → (fed_at fed fs w c).id ≡ c.id
fed-id fed fs w c = by (is_among fed c.id)
  where
    by : (h : Bool) → (cond {A = Component} h (pushed_by (fs c.id) (w c.id) c) c).id ≡ c.id
    by true = refl
    by false = refl

module _ (looked fed : List ℕ) (apart : AllByRecursion (λ b. is_among looked b ≡ false) fed) where
  abbrev after : ℕ → (ℕ → List Frame) → (ℕ → List ℤ) → Component → Component
  after n fs w c = fed_at fed fs w (drained_at looked n c)

  pub drained-id : (n : ℕ) (c : Component) → (drained_at looked n c).id ≡ c.id
  drained-id n c = by (is_among looked c.id)
    where
      by : (h : Bool) → (cond {A = Component} h (taken_by n c) c).id ≡ c.id
      by true = refl
      by false = refl

  after-id : (n : ℕ) (fs : ℕ → List Frame) (w : ℕ → List ℤ) (c : Component) → (after n fs w c).id ≡ c.id
  after-id n fs w c = fed-id fed fs w (drained_at looked n c) ∙ drained-id n c

  -- what becomes of a buffer, by what it is to the component
  is-looked : (n : ℕ) (fs : ℕ → List Frame) (w : ℕ → List ℤ) (c : Component) → is_among looked c.id ≡ true → is_among fed c.id ≡ false → after n fs w c ≡ taken_by n c
  is-looked n fs w c looks other =
      ap (λ (x : Component). fed_at fed fs w x) (ap (λ h. cond {A = Component} h (taken_by n c) c) looks) ∙ ap (λ h. cond {A = Component} h (pushed_by (fs c.id) (w c.id) (taken_by n c)) (taken_by n c)) other

  is-fed : (n : ℕ) (fs : ℕ → List Frame) (w : ℕ → List ℤ) (c : Component) → is_among looked c.id ≡ false → is_among fed c.id ≡ true → after n fs w c ≡ pushed_by (fs c.id) (w c.id) c
  is-fed n fs w c looks it =
      ap (λ (x : Component). fed_at fed fs w x) (ap (λ h. cond {A = Component} h (taken_by n c) c) looks) ∙ ap (λ h. cond {A = Component} h (pushed_by (fs c.id) (w c.id) c) c) it

  is-other : (n : ℕ) (fs : ℕ → List Frame) (w : ℕ → List ℤ) (c : Component) → is_among looked c.id ≡ false → is_among fed c.id ≡ false → after n fs w c ≡ c
  is-other n fs w c looks other =
      ap (λ (x : Component). fed_at fed fs w x) (ap (λ h. cond {A = Component} h (taken_by n c) c) looks) ∙ ap (λ h. cond {A = Component} h (pushed_by (fs c.id) (w c.id) c) c) other

  -- a buffer is not both
  not-both : (id : ℕ) → is_among fed id ≡ true → is_among looked id ≡ false
  not-both id it = all-among (λ b. is_among looked b ≡ false) id fed it apart

  not-fed : (id : ℕ) → is_among looked id ≡ true → is_among fed id ≡ false
  not-fed id looks = by (is_among fed id) refl
    where
      by : (h : Bool) → is_among fed id ≡ h → is_among fed id ≡ false
      by true it = absurd (true≢false (sym looks ∙ not-both id it))
      by false it = it

  after-twice : (a m : ℕ) (xs ys : ℕ → List Frame) (v w : ℕ → List ℤ) (c : Component) → after m ys w (after a xs v c) ≡ after (a + m) (λ b. xs b ++ ys b) w c
  after-twice a m xs ys v w c = by (is_among fed c.id) (is_among looked c.id) refl refl
    where
      by : (feeds looks : Bool) → is_among fed c.id ≡ feeds → is_among looked c.id ≡ looks → after m ys w (after a xs v c) ≡ after (a + m) (λ b. xs b ++ ys b) w c
      by true looks it is =
          ap (after m ys w) (is-fed a xs v c (not-both c.id it) it)
          ∙ is-fed m ys w (pushed_by (xs c.id) (v c.id) c) (not-both c.id it) it
          ∙ ap (λ u. record { id = c.id; pipe = c.pipe; channels = c.channels; unit = u }) (pushed-unit (xs c.id) (ys c.id) (v c.id) (w c.id) c.unit)
          ∙ sym (is-fed (a + m) (λ b. xs b ++ ys b) w c (not-both c.id it) it)
      by false true it is =
          ap (after m ys w) (is-looked a xs v c is it)
          ∙ is-looked m ys w (taken_by a c) is it
          ∙ ap (λ u. record { id = c.id; pipe = c.pipe; channels = c.channels; unit = u }) (taken-unit a m c.unit)
          ∙ sym (is-looked (a + m) (λ b. xs b ++ ys b) w c is it)
      by false false it is =
          ap (after m ys w) (is-other a xs v c is it)
          ∙ is-other m ys w c is it
          ∙ sym (is-other (a + m) (λ b. xs b ++ ys b) w c is it)

  abbrev tables : ℕ → (ℕ → List Frame) → (ℕ → List ℤ) → List Component → List Component
  tables n fs w cs = map (fed_at fed fs w) (map (drained_at looked n) cs)

  pub tables-twice : (a m : ℕ) (xs ys : ℕ → List Frame) (v w : ℕ → List ℤ) (cs : List Component) → tables m ys w (tables a xs v cs) ≡ tables (a + m) (λ b. xs b ++ ys b) w cs
  tables-twice a m xs ys v w [] = refl
  tables-twice a m xs ys v w (c ∷ cs) = (λ i. after-twice a m xs ys v w c i ∷ tables-twice a m xs ys v w cs i)

  -- ---- what is found in the table

  find-after : (n : ℕ) (fs : ℕ → List Frame) (w : ℕ → List ℤ) (b : ℕ) (cs : List Component) → find (λ c. c.id == b) (tables n fs w cs) ≡ option_map (after n fs w) (find (λ c. c.id == b) cs)
  find-after n fs w b [] = refl
  find-after n fs w b (c ∷ cs) =
      ap (λ k. cond (k == b) (Some (after n fs w c)) (find (λ c. c.id == b) (tables n fs w cs))) (after-id n fs w c) ∙ by (c.id == b) (find-after n fs w b cs)
    where
      by : (h : Bool) → find (λ c. c.id == b) (tables n fs w cs) ≡ option_map (after n fs w) (find (λ c. c.id == b) cs) → cond h (Some (after n fs w c)) (find (λ c. c.id == b) (tables n fs w cs)) ≡ option_map (after n fs w) (cond h (Some c) (find (λ c. c.id == b) cs))
      by true rest = refl
      by false rest = rest

  module _ (n : ℕ) (fs : ℕ → List Frame) (w : ℕ → List ℤ) (cs : List Component) where
    -- what a ring keeps
    kept-at : {X : Type 0} (g : units.Unit → X) → Keeps g → (c : Component) → g (after n fs w c).unit ≡ g c.unit
    kept-at {X} g keeps c = by (is_among fed c.id) (is_among looked c.id) refl refl
      where
        by : (feeds looks : Bool) → is_among fed c.id ≡ feeds → is_among looked c.id ≡ looks → g (after n fs w c).unit ≡ g c.unit
        by true looks it is = ap (λ (x : Component). g x.unit) (is-fed n fs w c (not-both c.id it) it) ∙ keeps.pushed (fs c.id) (w c.id) c.unit
        by false true it is = ap (λ (x : Component). g x.unit) (is-looked n fs w c is it) ∙ keeps.taken n c.unit
        by false false it is = ap (λ (x : Component). g x.unit) (is-other n fs w c is it)

    kept-in : {X : Type 0} (g : units.Unit → X) (d : X) → Keeps g → (b : ℕ) → option_map_or (λ c. g c.unit) (find (λ c. c.id == b) (tables n fs w cs)) d ≡ option_map_or (λ c. g c.unit) (find (λ c. c.id == b) cs) d
    kept-in {X} g d keeps b = ap (λ (o : Option Component). option_map_or (λ c. g c.unit) o d) (find-after n fs w b cs) ∙ by (find (λ c. c.id == b) cs)
      where
        by : (o : Option Component) → option_map_or (λ c. g c.unit) (option_map (after n fs w) o) d ≡ option_map_or (λ c. g c.unit) o d
        by None = refl
        by (Some c) = kept-at g keeps c

    -- the frames of a buffer that is looked at
    pub frames-left : (b : ℕ) → is_among looked b ≡ true → buffer_frames (tables n fs w cs) b ≡ drop n (buffer_frames cs b)
    frames-left b looks = ap (λ (o : Option Component). option_map_or (λ c. unit_frames c.unit) o []) (find-after n fs w b cs) ∙ by (find (λ c. c.id == b) cs) refl
      where
        by : (o : Option Component) → find (λ c. c.id == b) cs ≡ o → option_map_or (λ c. unit_frames c.unit) (option_map (after n fs w) o) [] ≡ drop n (option_map_or (λ c. unit_frames c.unit) o [])
        by None is = sym (drop-nil n)
        by (Some c) is =
            let id = found-id b cs c is in
            let looks_there : is_among looked c.id ≡ true = ap (is_among looked) id ∙ looks in
            ap (λ (x : Component). unit_frames x.unit) (is-looked n fs w c looks_there (not-fed c.id looks_there)) ∙ taken-frames n c.unit

    -- and of one that is fed
    frames-most : (b : ℕ) → is_among fed b ≡ true → length (buffer_frames (tables n fs w cs) b) ≤ length (buffer_frames cs b) + length (fs b)
    frames-most b it = subst (λ (o : Option Component). length (option_map_or (λ c. unit_frames c.unit) o []) ≤ length (buffer_frames cs b) + length (fs b)) (sym (find-after n fs w b cs)) (by (find (λ c. c.id == b) cs) refl)
      where
        by : (o : Option Component) → find (λ c. c.id == b) cs ≡ o → length (option_map_or (λ c. unit_frames c.unit) (option_map (after n fs w) o) []) ≤ length (option_map_or (λ c. unit_frames c.unit) o []) + length (fs b)
        by None is = omega arith
        by (Some c) is =
            let id = found-id b cs c is in
            let there : is_among fed c.id ≡ true = ap (is_among fed) id ∙ it in
            subst (λ (x : Component). length (unit_frames x.unit) ≤ length (unit_frames c.unit) + length (fs b)) (sym (is-fed n fs w c (not-both c.id there) there))
            (subst (λ k. length (unit_frames (pushed_unit (fs c.id) (w c.id) c.unit)) ≤ length (unit_frames c.unit) + length (fs k)) id (pushed-most (fs c.id) (w c.id) c.unit))

    -- ---- what the component can still move

    pub inlet-left : (channels m b : ℕ) → is_among looked b ≡ true → IsInlet cs channels (n + m) b → IsInlet (tables n fs w cs) channels m b
    inlet-left channels m b looks inlet = record {
      there = has-map (fed_at fed fs w) (fed-id fed fs w) b (map (drained_at looked n) cs) ∙ has-map (drained_at looked n) (drained-id n) b cs ∙ inlet.there;
      shape = kept-in channels_by 1 keeps-channels b ∙ inlet.shape;
      held = omega (arith, inlet.held, ap length (frames-left b looks), length-drop n (buffer_frames cs b));
    }

    pub outlet-left : (channels m b : ℕ) → is_among fed b ≡ true → length (fs b) ≡ n → IsOutlet cs channels (n + m) b → IsOutlet (tables n fs w cs) channels m b
    outlet-left channels m b it count outlet = record {
      there = has-map (fed_at fed fs w) (fed-id fed fs w) b (map (drained_at looked n) cs) ∙ has-map (drained_at looked n) (drained-id n) b cs ∙ outlet.there;
      shape = kept-in channels_by 1 keeps-channels b ∙ outlet.shape;
      room = omega (arith, outlet.room, frames-most b it, count, kept-in capacity_by 0 keeps-capacity b);
    }
