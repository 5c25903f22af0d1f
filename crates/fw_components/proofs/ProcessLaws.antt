-- The tables once a component has moved frames, and what it can move.
use Rattle.std.proofs.Common.{◌≡◌, refl, sym, ap, ◌∙◌, subst, ℕ, ◌+◌, ◌-◌, ◌≤◌, min, List, [], ◌∷◌, ◌++◌, map, get_or, length, Bool, true, false, cond, ◌==◌, ◌||◌, nat_eq, Option, Some, None, arith, ℤ}
use Rattle.std.proofs.lemmas.List.{length-map}
use Rattle.std.specs.Prelude.{find}
use Rattle.std.specs.List.{AllByRecursion, IsDistinct}
use Rattle.std.specs.Option.{option_map_or}
use Rattle.sof_base.specs.Samples.{Frame}
use Rattle.stream_law.specs.Order.{is_among}
use Rattle.stream_law.proofs.Cycles.{distinct-le}
use Rattle.fw_units.specs.declared.component.Component.{Component}
use Rattle.fw_units.specs.declared.component.Unit as units
use Rattle.fw_units.specs.declared.component.Unit.TheVariants.{Volume, Demux, Buffer}
use Rattle.fw_units.specs.Units.{numbers_by}
use Rattle.fw_components.specs.Tables.{Tables, held_frames, capacity_at}
use Rattle.fw_units.specs.Changes.{has_id}
use Rattle.fw_units.specs.Frames.{words_by, staged_of_one, staged_in, taken_by, pushed_by}
use Rattle.fw_components.specs.Frames.{words_at}
use Rattle.fw_components.specs.Kept.{IsKept, IsUnitSound, IsBuffering, IsStreaming, is_plain, sides_by}
use Rattle.fw_moves.specs.Processed.{moves_of, feeds_of, IsLevel, IsShaped, IsInlet, IsOutlet, slices_in, chosen_by, made_frames, made_numbers, output_number, output_frames, fed_at, drained_at, run_unit, run_by, run_at}
use Rattle.fw_components.specs.Processed.{moves_at, feeds_at, channels_moved, most_moved, made_at, output_at, eq_numbers_at, numbers_made_at, processed}
use Rattle.fw_moves.specs.Moving.{CanMove, outlet_frames, IsMoved}
use Rattle.fw_components.proofs.Begun.{taken-sides, taken-buffering, pushed-sides, pushed-buffering}
use Rattle.fw_units.proofs.Found.{find-first, find-past}
use Rattle.fw_units.proofs.Ids.{all-by, all-with, has-map}
use Rattle.fw_components.proofs.Apart.{not-first}
use Rattle.fw_components.proofs.KeptLaws.{comps-changed, sound-changed, buffers-changed, at-id, at-unit}
use Rattle.fw_moves.proofs.MadeLaws.{all-front, all-back, all-among}
use Rattle.fw_moves.proofs.MovedLaws.{fed-id, found-id}

-- ---- ids that are distinct

pub distinct-front : (xs ys : List ℕ) → IsDistinct nat_eq (xs ++ ys) → IsDistinct nat_eq xs
unfolding IsDistinct
distinct-front [] ys d = tt
distinct-front (x ∷ xs) ys d = (all-front (λ y. nat_eq x y ≡ false) xs ys (xs ++ ys) refl d.0, distinct-front xs ys d.1)

pub distinct-back : (xs ys : List ℕ) → IsDistinct nat_eq (xs ++ ys) → IsDistinct nat_eq ys
unfolding IsDistinct
distinct-back [] ys d = d
distinct-back (x ∷ xs) ys d = distinct-back xs ys d.1

pub apart-of : (xs ys : List ℕ) → IsDistinct nat_eq (xs ++ ys) → AllByRecursion (λ y. is_among xs y ≡ false) ys
unfolding IsDistinct
apart-of [] ys d = none ys
  where
    none : (ys : List ℕ) → AllByRecursion (λ y. is_among [] y ≡ false) ys
    none [] = tt
    none (y ∷ ys) = (refl, none ys)
apart-of (x ∷ xs) ys d =
    all-with (λ y. nat_eq x y ≡ false) (λ y. is_among xs y ≡ false) (λ y. is_among (x ∷ xs) y ≡ false) (λ y far rest. ap (λ h. h || is_among xs y) far ∙ rest) ys
    (all-back (λ y. nat_eq x y ≡ false) xs ys (xs ++ ys) refl d.0) (apart-of xs ys d.1)

-- buffers that are there and named once are no more than there are
has-among : (b : ℕ) (cs : List Component) → has_id cs b ≡ is_among (map (λ c. c.id) cs) b
has-among b [] = refl
has-among b (c ∷ cs) = ap (λ h. c.id == b || h) (has-among b cs)

pub few-there : (ids : List ℕ) (cs : List Component) → length cs ≤ 128 → IsDistinct nat_eq ids → AllByRecursion (λ b. has_id cs b ≡ true) ids → length ids ≤ 128
few-there ids cs few d all =
    let most = distinct-le ids (map (λ c. c.id) cs) d (λ x among. sym (has-among x cs) ∙ all-among (λ b. has_id cs b ≡ true) x ids among all) in
    omega (arith, few, most, length-map cs (λ (c : Component). c.id))

-- ---- what is so of all tables

run-plain : (w : List ℤ) (n : ℕ) (u : units.Unit) → is_plain u ≡ true → is_plain (run_unit w n u) ≡ true
run-plain w n (Buffer size ring source sink) e = e
run-plain w n u e = e

run-sound : (w : List ℤ) (n : ℕ) (u : units.Unit) → IsUnitSound u → IsUnitSound (run_unit w n u)
run-sound w n (Volume gains ramp from done frames piece) e = e
run-sound w n u e = e

run-streaming : (w : List ℤ) (n : ℕ) (u : units.Unit) → IsStreaming u → IsStreaming (run_unit w n u)
run-streaming w n (Buffer size ring source sink) e = e
run-streaming w n u e = e

drained-id : (looked : List ℕ) (n : ℕ) (c : Component) → (drained_at looked n c).id ≡ c.id
drained-id looked n c = by (is_among looked c.id)
  where
    by : (h : Bool) → (cond {A = Component} h (taken_by n c) c).id ≡ c.id
    by true = refl
    by false = refl

drained-sides : (looked : List ℕ) (n : ℕ) (c : Component) → sides_by (drained_at looked n c).unit ≡ sides_by c.unit
drained-sides looked n c = by (is_among looked c.id)
  where
    by : (h : Bool) → sides_by (cond {A = Component} h (taken_by n c) c).unit ≡ sides_by c.unit
    by true = taken-sides n c.unit
    by false = refl

drained-buffering : (looked : List ℕ) (n : ℕ) (c : Component) → IsBuffering c.unit → IsBuffering (drained_at looked n c).unit
drained-buffering looked n c e = by (is_among looked c.id)
  where
    by : (h : Bool) → IsBuffering (cond {A = Component} h (taken_by n c) c).unit
    by true = taken-buffering n c.unit e
    by false = e

fed-sides : (fed : List ℕ) (fs : ℕ → List Frame) (w : ℕ → List ℤ) (c : Component) → sides_by (fed_at fed fs w c).unit ≡ sides_by c.unit
fed-sides fed fs w c = by (is_among fed c.id)
  where
    by : (h : Bool) → sides_by (cond {A = Component} h (pushed_by (fs c.id) (w c.id) c) c).unit ≡ sides_by c.unit
    by true = pushed-sides (fs c.id) (w c.id) c.unit
    by false = refl

fed-buffering : (fed : List ℕ) (fs : ℕ → List Frame) (w : ℕ → List ℤ) (c : Component) → IsBuffering c.unit → IsBuffering (fed_at fed fs w c).unit
fed-buffering fed fs w c e = by (is_among fed c.id)
  where
    by : (h : Bool) → IsBuffering (cond {A = Component} h (pushed_by (fs c.id) (w c.id) c) c).unit
    by true = pushed-buffering (fs c.id) (w c.id) c.unit e
    by false = e

pub process-kept : (t : Tables) → IsKept t → (id n : ℕ) (looked fed : List ℕ) (frames : ℕ → List Frame) (w : List ℤ) (v : ℕ → List ℤ) (comps buffers : List Component) → comps ≡ map (run_at id w n) t.comps → buffers ≡ map (fed_at fed frames v) (map (drained_at looked n) t.buffers) → IsKept (record { comps = comps; buffers = buffers; pipes = t.pipes; joins = t.joins })
process-kept t kept id n looked fed frames w v comps buffers run moved =
    let one = comps-changed t kept (run_at id w n) comps (at-id (run_by w n) (λ c. refl) id) (at-unit (λ u. is_plain u ≡ true) (run_by w n) (λ c. run-plain w n c.unit) id) (sound-changed (run_by w n) (λ c. run-sound w n c.unit) id t.comps kept.sound) (at-unit IsStreaming (run_by w n) (λ c. run-streaming w n c.unit) id) run in
    let drained = map (drained_at looked n) t.buffers in
    let two = buffers-changed (record { comps = comps; buffers = t.buffers; pipes = t.pipes; joins = t.joins }) one (drained_at looked n) drained (drained-id looked n) (drained-sides looked n) (drained-buffering looked n) refl in
    buffers-changed (record { comps = comps; buffers = drained; pipes = t.pipes; joins = t.joins }) two (fed_at fed frames v) buffers (fed-id fed frames v) (fed-sides fed frames v) (fed-buffering fed frames v) moved

-- ---- buffers that are fed

-- where the frames and the words are the same for what is fed, the tables are
fed-same : (fed : List ℕ) (f g : ℕ → List Frame) (v w : ℕ → List ℤ) → AllByRecursion (λ b. (f b ≡ g b) × (v b ≡ w b)) fed → (cs : List Component) → map (fed_at fed f v) cs ≡ map (fed_at fed g w) cs
fed-same fed f g v w same [] = refl
fed-same fed f g v w same (c ∷ cs) = (λ i. one i ∷ fed-same fed f g v w same cs i)
  where
    by : (h : Bool) → is_among fed c.id ≡ h → cond {A = Component} h (pushed_by (f c.id) (v c.id) c) c ≡ cond {A = Component} h (pushed_by (g c.id) (w c.id) c) c
    by true is = let e = all-among (λ b. (f b ≡ g b) × (v b ≡ w b)) c.id fed is same in (λ i. pushed_by (e.0 i) (e.1 i) c)
    by false is = refl

    one : fed_at fed f v c ≡ fed_at fed g w c
    one = by (is_among fed c.id) refl

-- what is so of all is so of the one that is found
found-all : (P : Component → Type 0) (id : ℕ) (cs : List Component) (c : Component) → Some c ≡ find (λ x. x.id == id) cs → AllByRecursion P cs → P c
found-all P id [] c e all = absurd (cc e)
found-all P id (x ∷ cs) c e all = by (x.id == id) e (λ e. found-all P id cs c e all.1)
  where
    own : Component → Option Component → Component
    own d None = d
    own d (Some y) = y

    by : (h : Bool) → Some c ≡ cond h (Some x) (find (λ y. y.id == id) cs) → (Some c ≡ find (λ y. y.id == id) cs → P c) → P c
    by true e rest = subst P (sym (ap (own c) e)) all.0
    by false e rest = rest e

sound-level : (u : units.Unit) → IsUnitSound u → IsLevel u
sound-level (Volume gains ramp from done frames piece) e = e.0
sound-level (Demux masks piece) e = e.1
sound-level u e = tt

-- ---- one buffer and one other

-- one holds n frames, and one has room for them
pub one-inlet : (t : Tables) (channels n : ℕ) (looked : List ℕ) → length looked ≡ 1 → AllByRecursion (IsShaped t.buffers channels) looked → n ≤ length (held_frames t (get_or looked 0 0)) → AllByRecursion (IsInlet t.buffers channels n) looked
one-inlet t channels n [] one all low = absurd (omega (arith, one))
one-inlet t channels n (b ∷ []) one all low = (record { there = all.0.there; shape = all.0.shape; held = low }, tt)
one-inlet t channels n (b ∷ d ∷ bs) one all low = absurd (omega (arith, one))

pub one-outlet : (t : Tables) (channels n : ℕ) (fed : List ℕ) → length fed ≡ 1 → AllByRecursion (IsShaped t.buffers channels) fed → length (held_frames t (get_or fed 0 0)) + n ≤ capacity_at t (get_or fed 0 0) → AllByRecursion (IsOutlet t.buffers channels n) fed
one-outlet t channels n [] one all low = absurd (omega (arith, one))
one-outlet t channels n (b ∷ []) one all low = (record { there = all.0.there; shape = all.0.shape; room = low }, tt)
one-outlet t channels n (b ∷ d ∷ bs) one all low = absurd (omega (arith, one))

-- how many go from one to one
pub one-moved : (t : Tables) (looked fed : List ℕ) (most : ℕ) → length looked ≡ 1 → length fed ≡ 1
    → min (length (held_frames t (get_or looked 0 0))) (min (capacity_at t (get_or fed 0 0) - length (held_frames t (get_or fed 0 0))) most) ≡ most_moved t looked fed most
one-moved t [] fed most one other = absurd (omega (arith, one))
one-moved t (a ∷ c ∷ others) fed most one other = absurd (omega (arith, one))
one-moved t (a ∷ []) [] most one other = absurd (omega (arith, other))
one-moved t (a ∷ []) (b ∷ []) most one other = refl
one-moved t (a ∷ []) (b ∷ d ∷ bs) most one other = absurd (omega (arith, other))

-- ---- the component that moves

module _ (t : Tables) (id : ℕ) (c : Component) (it : Some c ≡ find (λ x. x.id == id) t.comps) where
  channels-are : channels_moved t id ≡ c.channels
  channels-are = ap (λ (o : Option Component). option_map_or (λ x. x.channels) o 0) (sym it)

  pub can-process : IsKept t → (looked fed : List ℕ) (n : ℕ) → moves_at t id (length looked) ≡ true → feeds_at t id (length fed) ≡ true → IsDistinct nat_eq (looked ++ fed) → AllByRecursion (IsInlet t.buffers (channels_moved t id) n) looked → AllByRecursion (IsOutlet t.buffers (channels_moved t id) n) fed → CanMove t.buffers looked fed n c
  can-process kept looked fed n kind feeds single inlets outlets = record {
    ascends = kept.named.buffers;
    kind = ap (λ (o : Option Component). option_map_or (λ x. moves_of x.unit (length looked)) o false) it ∙ kind;
    feeds = ap (λ (o : Option Component). option_map_or (λ x. feeds_of x.unit (length fed)) o false) it ∙ feeds;
    level = sound-level c.unit (found-all (λ (x : Component). IsUnitSound x.unit) id t.comps c it kept.sound);
    few = few-there looked t.buffers kept.buffers (distinct-front looked fed single) (all-by (IsInlet t.buffers (channels_moved t id) n) (λ b. has_id t.buffers b ≡ true) (λ b inlet. inlet.there) looked inlets);
    distinct = distinct-front looked fed single;
    single = distinct-back looked fed single;
    apart = apart-of looked fed single;
    inlets = subst (λ k. AllByRecursion (IsInlet t.buffers k n) looked) channels-are inlets;
    outlets = subst (λ k. AllByRecursion (IsOutlet t.buffers k n) fed) channels-are outlets;
  }

  module _ (kept : IsKept t) (looked fed : List ℕ) (n : ℕ) (there : AllByRecursion (λ b. has_id t.buffers b ≡ true) fed) (c' : Component) (comps buffers : List Component) (it' : Some c' ≡ find (λ x. x.id == id) comps) (run : comps ≡ map (run_at id (words_by (find (λ x. x.id == id) comps)) n) t.comps) (moved : IsMoved (chosen_by c.unit c.id t.joins) (output_number t.joins c.id) looked fed n t.buffers c buffers c') where
    abbrev now : Tables
    now = record { comps = comps; buffers = buffers; pipes = t.pipes; joins = t.joins }

    own-id : c.id ≡ id
    own-id = found-id id t.comps c (sym it)

    frames-are : made_frames c.unit c.channels n (chosen_by c.unit c.id t.joins) (slices_in t.buffers looked n) ≡ made_at t id looked n
    frames-are =
        ap (λ k. made_frames c.unit c.channels n (chosen_by c.unit k t.joins) (slices_in t.buffers looked n)) own-id
        ∙ ap (λ (o : Option Component). option_map_or (λ c. made_frames c.unit c.channels n (chosen_by c.unit id t.joins) (slices_in t.buffers looked n)) o []) it

    comp-there : has_id comps id ≡ true
    comp-there = ap (λ (xs : List Component). has_id xs id) run ∙ has-map (run_at id (words_by (find (λ x. x.id == id) comps)) n) (at-id (run_by (words_by (find (λ x. x.id == id) comps)) n) (λ c. refl) id) id t.comps ∙ found-there t.comps c it
      where
        found-there : (cs : List Component) (c : Component) → Some c ≡ find (λ x. x.id == id) cs → has_id cs id ≡ true
        found-there [] c e = absurd (cc e)
        found-there (x ∷ cs) c e = by (x.id == id) e (found-there cs c)
          where
            by : (h : Bool) → Some c ≡ cond h (Some x) (find (λ y. y.id == id) cs) → (Some c ≡ find (λ y. y.id == id) cs → has_id cs id ≡ true) → (h || has_id cs id) ≡ true
            by true e rest = refl
            by false e rest = rest e

    -- the words that are left
    own-words : words_by (find (λ x. x.id == id) comps) ≡ words_at now id
    own-words = ap words_by (sym (find-first id comps (buffers ++ t.pipes) comp-there))

    -- what each that is fed gets
    abbrev given : ℕ → List Frame
    given = outlet_frames (chosen_by c.unit c.id t.joins) (output_number t.joins c.id) t.buffers looked n c

    given-is : (b : ℕ) → given b ≡ output_at t id b (made_at t id looked n)
    given-is b =
        ap (λ (fs : List Frame). output_frames c.unit c.channels (output_number t.joins c.id b) fs) frames-are
        ∙ ap (λ k. output_frames c.unit c.channels (output_number t.joins k b) (made_at t id looked n)) own-id
        ∙ ap (λ (o : Option Component). option_map_or (λ x. output_frames x.unit x.channels (output_number t.joins id b) (made_at t id looked n)) o (made_at t id looked n)) it

    fed-words : (b : ℕ) → has_id t.buffers b ≡ true → words_by (find (λ x. x.id == b) buffers) ≡ words_at now b
    fed-words b here =
        let gone : has_id comps b ≡ false = ap (λ (xs : List Component). has_id xs b) run ∙ has-map (run_at id (words_by (find (λ x. x.id == id) comps)) n) (at-id (run_by (words_by (find (λ x. x.id == id) comps)) n) (λ c. refl) id) b t.comps ∙ not-first b t.comps t.buffers kept.named.comps_buffers here in
        let words = λ (k : ℕ). words_by (find (λ x. x.id == k) buffers) in
        let still : has_id buffers b ≡ true =
        ap (λ (xs : List Component). has_id xs b) moved.table
        ∙ has-map (fed_at fed given words) (fed-id fed given words) b (map (drained_at looked n) t.buffers)
        ∙ has-map (drained_at looked n) (drained-id looked n) b t.buffers ∙ here in
        ap words_by (sym (find-past b comps (buffers ++ t.pipes) gone ∙ find-first b buffers t.pipes still))

    pub now-processed : now ≡ processed id looked n fed (λ b. output_at t id b (made_at t id looked n)) (words_at now) (words_at now id) t
    now-processed =
        (λ i. record {
          comps = (run ∙ ap (λ (w : List ℤ). map (run_at id w n) t.comps) own-words) i;
          buffers = (moved.table ∙ fed-same fed given (λ b. output_at t id b (made_at t id looked n)) (λ b. words_by (find (λ x. x.id == b) buffers)) (words_at now) (all-by (λ b. has_id t.buffers b ≡ true) (λ b. (given b ≡ output_at t id b (made_at t id looked n)) × (words_by (find (λ x. x.id == b) buffers) ≡ words_at now b)) (λ b here. (given-is b, fed-words b here)) fed there) (map (drained_at looked n) t.buffers)) i;
          pipes = t.pipes;
          joins = t.joins;
        })

    pub now-numbers : eq_numbers_at now id ≡ numbers_made_at t id looked n
    now-numbers =
        ap (λ (o : Option Component). option_map_or (λ x. numbers_by x.unit x.channels) o []) (sym it')
        ∙ moved.numbers
        ∙ ap (λ (o : Option Component). option_map_or (λ x. made_numbers x.unit x.channels (slices_in t.buffers looked n)) o []) it

    pub now-staged : staged_in comps id ≡ staged_in t.comps id
    now-staged = ap staged_of_one (sym it') ∙ moved.staged ∙ ap staged_of_one it

  pub now-kept : IsKept t → (looked fed : List ℕ) (n : ℕ) (c' : Component) (comps buffers : List Component) (w : List ℤ) → comps ≡ map (run_at id w n) t.comps → IsMoved (chosen_by c.unit c.id t.joins) (output_number t.joins c.id) looked fed n t.buffers c buffers c' → IsKept (record { comps = comps; buffers = buffers; pipes = t.pipes; joins = t.joins })
  now-kept kept looked fed n c' comps buffers w run moved = process-kept t kept id n looked fed _ w _ comps buffers run moved.table
