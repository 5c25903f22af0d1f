-- Frames that go from ring to ring, each sample times its gain.
use Rattle.std.proofs.Common.{◌≡◌, refl, sym, ap, ◌∙◌, subst, ℕ, zero, suc, ◌<◌, ◌≤◌, List, [], ◌∷◌, ◌++◌, map, take, drop, set, length, get_or, Bool, true, false, cond, ◌==◌, Option, Some, arith, ℤ, pos}
use Rattle.std.proofs.lemmas.Bool.{eqb-true, eq-eqb, leb-true, or_parts, true≢false, false≢true, false_from_ne_true, ltb-true, ltb-false}
use Rattle.std.proofs.lemmas.List.{get_or_default, length-map}
use Rattle.std.specs.Prelude.{find, position, nat_lt}
use Rattle.std.specs.Option.{option_map_or}
use Rattle.sof_base.specs.Samples.{Frame}
use Rattle.sof_base.specs.FrameLists.{frames_of}
use Rattle.stream_law.specs.Made.{only_slice}
use Rattle.stream_law.specs.Order.{is_among}
use Rattle.stream_law.specs.Placed.{Ascends}
use Rattle.stream_law.specs.Ramps.{ramped_frames}
use Rattle.fw_gain.specs.Kernels.{all_amplified}
use Rattle.fw_gain.proofs.RampKernelLaws.{ramped-past}
use Rattle.fw_ring.proofs.FrameLaws.{length-frames}
use Rattle.fw_units.specs.declared.component.Component.{Component}
use Rattle.fw_units.specs.declared.component.Unit as units
use Rattle.fw_units.specs.declared.component.Unit.TheVariants.{Volume}
use Rattle.stream_law.specs.Ways.{splits}
use Rattle.fw_units.specs.Units.{is_past, kind_by, numbers_by, unit_frames}
use Rattle.fw_units.specs.Changes.{has_id}
use Rattle.fw_units.specs.Frames.{channels_by, kept_words, words_by, staged_by, taken_by, pushed_by, pushed_at}
use Rattle.fw_moves.specs.Processed.{moves_of, IsLevel, IsInlet, slices_in, made_frames, made_numbers, done_after, output_frames, fed_at, drained_at, run_unit, run_by}
use Rattle.fw_moves.specs.Moving.{samples_in, IsWhole, CanMove, IsMoved, frames_now}
use Rattle.fw_moves.proofs.MadeLaws.{all-at, only-long, made-ramped}
use Rattle.fw_units.proofs.Ids.{ascends-map, has-map}
use Rattle.fw_moves.proofs.OutletLaws.{fed-some, given-one, find-unpushed, pushed-id}
use Rattle.fw_moves.proofs.MovedLaws.{found-id}
use Rattle.fw_units.proofs.Positions.{position-map}
use Rattle.fw_units.proofs.Putting.{pushed-put}
use Rattle.fw_moves.proofs.StepLaws.{find-apart}
use Rattle.fw_units.proofs.Taking.{taken-found}

-- ---- one place of a list in two parts

pub set-behind : (cs : List Component) (n : ℕ) (y : Component) → n < length cs → take n cs ++ set (drop n cs) 0 y ≡ set cs n y
set-behind [] n y low = absurd (omega (arith, low))
set-behind (c ∷ cs) zero y low = refl
set-behind (c ∷ cs) (suc n) y low = ap (λ (xs : List Component). c ∷ xs) (set-behind cs n y (omega (arith, low)))

pub set-before : (cs : List Component) (n m : ℕ) (y : Component) → m < n → n < length cs → set (take n cs) m y ++ drop n cs ≡ set cs m y
set-before [] n m y first low = absurd (omega (arith, low))
set-before (c ∷ cs) zero m y first low = absurd (omega (arith, first))
set-before (c ∷ cs) (suc n) zero y first low = ap (λ (xs : List Component). y ∷ xs) (parts n cs)
  where
    parts : (n : ℕ) (cs : List Component) → take n cs ++ drop n cs ≡ cs
    parts zero cs = refl
    parts (suc n) [] = refl
    parts (suc n) (x ∷ cs) = ap (λ (xs : List Component). x ∷ xs) (parts n cs)
set-before (c ∷ cs) (suc n) (suc m) y first low = ap (λ (xs : List Component). c ∷ xs) (set-before cs n m y (omega (arith, first)) (omega (arith, low)))

pub set-there : (cs : List Component) (n : ℕ) (y d : Component) → n < length cs → get_or (set cs n y) n d ≡ y
set-there [] n y d low = absurd (omega (arith, low))
set-there (c ∷ cs) zero y d low = refl
set-there (c ∷ cs) (suc n) y d low = set-there cs n y d (omega (arith, low))

-- a place that is no higher than another one is below it
pub below-apart : (from to : ℕ) → to ≤ from → (from == to) ≡ false → to < from
below-apart from to low apart = by (nat_lt to from) refl
  where
    by : (h : Bool) → nat_lt to from ≡ h → to < from
    by true e = ltb-true to from e
    by false e = let far : from ≤ to = ltb-false to from e in absurd (true≢false (sym (eq-eqb from to (let same : from ≡ to = omega (arith, low, far) in same)) ∙ apart))

-- there is a component where there are places
pub one-of : (cs : List Component) → 0 < length cs → Component
one-of [] some = absurd (omega (arith, some))
one-of (c ∷ cs) some = c

-- two ids have two places
pub places-apart : (cs : List Component) (a b from to : ℕ) → (a == b) ≡ false → Some from ≡ position (λ c. c.id == a) cs → Some to ≡ position (λ c. c.id == b) cs → from < length cs → (from == to) ≡ false
places-apart cs a b from to apart first second low =
    let d = one-of cs (omega (arith, low)) in
    let here : (get_or cs from d).id ≡ a = found-id a cs (get_or cs from d) (sym (taken-found a cs from d first)) in
    let there : (get_or cs to d).id ≡ b = found-id b cs (get_or cs to d) (sym (taken-found b cs to d second)) in
    false_from_ne_true (from == to) (λ e.
    let same : from ≡ to = eqb-true from to e in
    let ids : a ≡ b = sym here ∙ ap (λ k. (get_or cs k d).id) same ∙ there in
    true≢false (sym (eq-eqb a b ids) ∙ apart))

-- frames that came after those of what stands at a place
pub placed-over : (cs new : List Component) (b to : ℕ) (fs : List Frame) (d : Component) → Ascends (λ c. c.id) cs → Some to ≡ position (λ c. c.id == b) cs → to < length cs
    → new ≡ set cs to (get_or new to d) → get_or new to d ≡ pushed_by fs (kept_words (get_or new to d)) (get_or cs to d)
    → new ≡ map (pushed_at b fs (words_by (find (λ x. x.id == b) new))) cs
placed-over cs new b to fs d ascends at low put pushed =
    let x = get_or cs to d in let y = get_or new to d in
    put
    ∙ pushed-put b to cs x y ascends at (get_or_default cs to d x low) fs pushed
    ∙ ap (λ (l : List Component). map (pushed_at b fs (words_by (find (λ x. x.id == b) l))) cs) (sym put)

-- what is looked at stays where another gets frames
pub outlet-apart : (looked : List ℕ) (b : ℕ) → 0 < length looked → is_among looked b ≡ false → (get_or looked 0 0 == b) ≡ false
outlet-apart [] b some apart = absurd (omega (arith, some))
outlet-apart (a ∷ looked) b some apart = (or_parts (a == b) (is_among looked b) apart).0

module _ (bs mid : List Component) (channels n b : ℕ) (fs : List Frame) (w : List ℤ) (is : mid ≡ map (pushed_at b fs w) bs) where
  pub inlet-still : (a : ℕ) → (a == b) ≡ false → IsInlet bs channels n a → IsInlet mid channels n a
  inlet-still a apart inlet =
      let found : find (λ x. x.id == a) mid ≡ find (λ x. x.id == a) bs = ap (find (λ (x : Component). x.id == a)) is ∙ find-unpushed b fs w a bs apart in
      record {
        there = ap (λ (xs : List Component). has_id xs a) is ∙ has-map (pushed_at b fs w) (pushed-id b fs w) a bs ∙ inlet.there;
        shape = ap (λ (o : Option Component). option_map_or (λ x. channels_by x.unit) o 1) found ∙ inlet.shape;
        held = subst (λ (o : Option Component). n ≤ length (option_map_or (λ x. unit_frames x.unit) o [])) (sym found) inlet.held;
      }

  pub place-still : (a at : ℕ) → Some at ≡ position (λ x. x.id == a) bs → Some at ≡ position (λ x. x.id == a) mid
  place-still a at place = place ∙ sym (ap (position (λ (x : Component). x.id == a)) is ∙ position-map (λ (x : Component). x.id == a) (pushed_at b fs w) (λ x. ap (λ k. k == a) (pushed-id b fs w x)) bs)

  pub long-still : length mid ≡ length bs
  long-still = ap length is ∙ length-map bs (pushed_at b fs w)

  pub mid-ascending : Ascends (λ x. x.id) bs → Ascends (λ x. x.id) mid
  mid-ascending ascends = subst (Ascends (λ x. x.id)) (sym is) (ascends-map (pushed_at b fs w) (pushed-id b fs w) bs ascends)

-- ---- a volume past its ramp

-- a push before frames are taken of others is one after that
taken-then-pushed : (looked : List ℕ) (n b : ℕ) (fs : List Frame) (w : List ℤ) (cs : List Component) → is_among looked b ≡ false → map (drained_at looked n) (map (pushed_at b fs w) cs) ≡ map (pushed_at b fs w) (map (drained_at looked n) cs)
taken-then-pushed looked n b fs w [] apart = refl
taken-then-pushed looked n b fs w (c ∷ cs) apart = λ i. one c i ∷ taken-then-pushed looked n b fs w cs apart i
  where
    one : (c : Component) → drained_at looked n (pushed_at b fs w c) ≡ pushed_at b fs w (drained_at looked n c)
    one c = by (c.id == b) refl (is_among looked c.id) refl
      where
        by : (h : Bool) → (c.id == b) ≡ h → (k : Bool) → is_among looked c.id ≡ k → drained_at looked n (pushed_at b fs w c) ≡ pushed_at b fs w (drained_at looked n c)
        by true here true it = absurd (true≢false (sym it ∙ ap (is_among looked) (eqb-true c.id b here) ∙ apart))
        by true here false it =
            ap (drained_at looked n) (ap (λ h. cond {A = Component} h (pushed_by fs w c) c) here)
            ∙ ap (λ h. cond {A = Component} h (taken_by n (pushed_by fs w c)) (pushed_by fs w c)) it
            ∙ sym (ap (pushed_at b fs w) (ap (λ h. cond {A = Component} h (taken_by n c) c) it) ∙ ap (λ h. cond {A = Component} h (pushed_by fs w c) c) here)
        by false here true it =
            ap (drained_at looked n) (ap (λ h. cond {A = Component} h (pushed_by fs w c) c) here)
            ∙ ap (λ h. cond {A = Component} h (taken_by n c) c) it
            ∙ sym (ap (pushed_at b fs w) (ap (λ h. cond {A = Component} h (taken_by n c) c) it) ∙ ap (λ h. cond {A = Component} h (pushed_by fs w (taken_by n c)) (taken_by n c)) here)
        by false here false it =
            ap (drained_at looked n) (ap (λ h. cond {A = Component} h (pushed_by fs w c) c) here)
            ∙ ap (λ h. cond {A = Component} h (taken_by n c) c) it
            ∙ sym (ap (pushed_at b fs w) (ap (λ h. cond {A = Component} h (taken_by n c) c) it) ∙ ap (λ h. cond {A = Component} h (pushed_by fs w c) c) here)

-- it looks at one buffer
pub looked-one : (u : units.Unit) (n : ℕ) → is_past u ≡ true → moves_of u n ≡ true → n ≡ 1
looked-one (Volume gains ramp from done frames piece) n same kind = eqb-true n 1 kind
looked-one u n same kind = absurd (false≢true same)

-- the gains that are set at a volume
abbrev pub gains_by : units.Unit → List ℕ
gains_by (Volume gains ramp from done frames piece) = gains
gains_by u = []

-- frames that were pushed, and then taken, are moved by it
pub amplify-moves : (bs : List Component) (looked fed : List ℕ) (n : ℕ) (c : Component) → CanMove bs looked fed n c → 1 ≤ c.channels → is_past c.unit ≡ true
    → (gains : List ℕ) → gains_by c.unit ≡ gains
    → (mid new : List Component) (after : Component)
    → mid ≡ map (pushed_at (get_or fed 0 0) (frames_of c.channels n (all_amplified c.channels gains (samples_in bs n (get_or looked 0 0)))) (words_by (find (λ x. x.id == get_or fed 0 0) mid))) bs
    → new ≡ map (drained_at looked n) mid
    → IsWhole bs (get_or looked 0 0)
    → after ≡ run_by (kept_words after) n c
    → (chosen : Option ℕ) (outputs : ℕ → ℕ) → IsMoved chosen outputs looked fed n bs c new after
amplify-moves bs looked fed n c can some past gains own mid new after pushed drained whole is chosen outputs = by c.unit refl
  where
    a : ℕ
    a = get_or looked 0 0

    b : ℕ
    b = get_or fed 0 0

    fs : List Frame
    fs = frames_of c.channels n (all_amplified c.channels gains (samples_in bs n a))

    slices : List (ℕ × List Frame)
    slices = slices_in bs looked n

    words : ℕ → List ℤ
    words b = words_by (find (λ x. x.id == b) new)

    apart : is_among looked b ≡ false
    apart = all-at (λ b. is_among looked b ≡ false) fed 0 0 (fed-some c.unit fed can.feeds) can.apart

    found : find (λ x. x.id == b) new ≡ find (λ x. x.id == b) mid
    found = ap (find (λ (x : Component). x.id == b)) drained ∙ find-apart looked n b mid apart

    by : (u : units.Unit) → c.unit ≡ u → IsMoved chosen outputs looked fed n bs c new after
    by (Volume to ramp from done frames piece) e =
        let one : length looked ≡ 1 = eqb-true (length looked) 1 (ap (λ (u : units.Unit). moves_of u (length looked)) (sym e) ∙ can.kind) in
        let inlet = all-at (IsInlet bs c.channels n) looked 0 0 (let l : 0 < length looked = omega (arith, one) in l) can.inlets in
        let ended : frames ≤ done = leb-true frames done (ap is_past (sym e) ∙ past) in
        let level : length from ≡ length to = subst IsLevel e can.level in
        let same : gains ≡ to = sym own ∙ ap gains_by e in
        let made : fs ≡ ramped_frames from frames done to c.channels (only_slice slices) =
        (λ i. frames_of c.channels n (all_amplified c.channels (same i) (samples_in bs n a)))
        ∙ ap (frames_of c.channels n) (sym (ramped-past c.channels from to frames done (samples_in bs n a) ended))
        ∙ made-ramped bs c.channels n from to looked frames done some level one inlet whole in
        let all : frames_now chosen bs looked n c ≡ fs = ap (λ (u : units.Unit). made_frames u c.channels n chosen slices) e ∙ sym made in
        let long : length (only_slice slices) ≡ n = only-long bs c.channels n looked one inlet in
        record {
          component = is;
          numbers =
              ap (λ (y : Component). numbers_by y.unit y.channels) is
              ∙ ap (λ (u : units.Unit). numbers_by (run_unit (kept_words after) n u) c.channels) e
              ∙ ap (λ k. map pos from ++ pos (done_after frames done k) ∷ []) (sym long)
              ∙ ap (λ (u : units.Unit). made_numbers u c.channels slices) (sym e);
          staged =
              ap (λ (y : Component). staged_by y.unit) is
              ∙ ap (λ (u : units.Unit). staged_by (run_unit (kept_words after) n u)) e
              ∙ ap staged_by (sym e);
          count = ap length all ∙ length-frames c.channels n (all_amplified c.channels gains (samples_in bs n a));
          table =
              drained
              ∙ ap (map (drained_at looked n)) pushed
              ∙ taken-then-pushed looked n b fs (words_by (find (λ x. x.id == b) mid)) bs apart
              ∙ ap (λ (o : Option Component). map (pushed_at b fs (words_by o)) (map (drained_at looked n) bs)) (sym found)
              ∙ given-one c.unit c.channels outputs fs words fed (map (drained_at looked n) bs) (ap (λ (u : units.Unit). splits (kind_by u)) e) can.feeds
              ∙ ap (λ (gs : List Frame). map (fed_at fed (λ b. output_frames c.unit c.channels (outputs b) gs) words) (map (drained_at looked n) bs)) (sym all);
        }
    by u e = absurd (false≢true (ap is_past (sym e) ∙ past))
