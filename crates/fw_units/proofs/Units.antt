-- What each change leaves of a unit, and two changes that are one.
-- A row for one kind has the check take each of the other kinds in the row below it.
use Rattle.std.proofs.Common.{◌≡◌, refl, sym, ap, ◌∙◌, ℕ, zero, suc, ◌+◌, ◌*◌, ◌%◌, ◌/◌, ◌≤◌, List, [], ◌++◌, append_assoc, drop, length, true, arith, ℤ, length-append}
use Rattle.std.proofs.lemmas.Bool.{false≢true}
use Rattle.std.proofs.lemmas.List.{drop-drop}
use Rattle.std.proofs.Math.Seq.{drop-nil}
use Rattle.std.proofs.Math.Nat.{mod-add-div, add-mul-mod_self_left}
use Rattle.sof_base.specs.Samples.{Frame}
use Rattle.fw_ring.specs.RingState.{RingState, capacity_of, place_after}
use Rattle.fw_units.specs.declared.component.Unit as units
use Rattle.fw_units.specs.declared.component.Unit.TheVariants.{Buffer}
use Rattle.fw_units.specs.Units.{unit_frames, kind_by, is_buffer, capacity_by}
use Rattle.fw_units.specs.Frames.{begun_unit, channels_by, taken_ring, taken_unit, pushed_unit}
use Rattle.fw_units.specs.Changes.{sunk_unit, sourced_unit, ended_unit}
use Rattle.fw_units.specs.Values.{valued_unit}

-- ---- frames

pub sunk-frames : (id : ℕ) → (u : units.Unit) → unit_frames (sunk_unit id u) ≡ unit_frames u
sunk-frames id (Buffer size ring source sink) = refl
sunk-frames id u = refl

pub sourced-frames : (id : ℕ) → (u : units.Unit) → unit_frames (sourced_unit id u) ≡ unit_frames u
sourced-frames id (Buffer size ring source sink) = refl
sourced-frames id u = refl

pub begun-frames : (channels rate : ℕ) → (words : List ℤ) → (u : units.Unit) → unit_frames (begun_unit channels rate words u) ≡ []
begun-frames channels rate words (Buffer size ring source sink) = refl
begun-frames channels rate words u = refl

pub ended-frames : (u : units.Unit) → unit_frames (ended_unit u) ≡ []
ended-frames (Buffer size ring source sink) = refl
ended-frames u = refl

pub taken-frames : (n : ℕ) (u : units.Unit) → unit_frames (taken_unit n u) ≡ drop n (unit_frames u)
taken-frames n (Buffer size ring source sink) = refl
taken-frames n u = sym (drop-nil n)

pub pushed-frames : (fs : List Frame) (w : List ℤ) (u : units.Unit) → is_buffer u ≡ true → unit_frames (pushed_unit fs w u) ≡ unit_frames u ++ fs
pushed-frames fs w (Buffer size ring source sink) e = refl
pushed-frames fs w u e = absurd (false≢true e)

pub pushed-most : (fs : List Frame) (w : List ℤ) (u : units.Unit) → length (unit_frames (pushed_unit fs w u)) ≤ length (unit_frames u) + length fs
pushed-most fs w (Buffer size ring source sink) = omega (arith, length-append ring.frames fs)
pushed-most fs w u = omega arith

-- ---- what stays

pub begun-kind : (channels rate : ℕ) → (words : List ℤ) → (u : units.Unit) → kind_by (begun_unit channels rate words u) ≡ kind_by u
begun-kind channels rate words (Buffer size ring source sink) = refl
begun-kind channels rate words u = refl

pub valued-kind : (values : List ℕ) → (u : units.Unit) → kind_by (valued_unit values u) ≡ kind_by u
valued-kind values (Buffer size ring source sink) = refl
valued-kind values u = refl

pub taken-channels : (n : ℕ) (u : units.Unit) → channels_by (taken_unit n u) ≡ channels_by u
taken-channels n (Buffer size ring source sink) = refl
taken-channels n u = refl

pub pushed-channels : (fs : List Frame) (w : List ℤ) (u : units.Unit) → channels_by (pushed_unit fs w u) ≡ channels_by u
pushed-channels fs w (Buffer size ring source sink) = refl
pushed-channels fs w u = refl

pub taken-capacity : (n : ℕ) (u : units.Unit) → capacity_by (taken_unit n u) ≡ capacity_by u
taken-capacity n (Buffer size ring source sink) = refl
taken-capacity n u = refl

pub pushed-capacity : (fs : List Frame) (w : List ℤ) (u : units.Unit) → capacity_by (pushed_unit fs w u) ≡ capacity_by u
pushed-capacity fs w (Buffer size ring source sink) = refl
pushed-capacity fs w u = refl

-- ---- twice

-- a start that goes round twice
on-twice : (places start a b : ℕ) → place_after places (place_after places start a) b ≡ place_after places start (a + b)
on-twice zero start a b = refl
on-twice (suc m) start a b =
    let whole : start + (a + b) ≡ (start + a) % suc m + b + suc m * ((start + a) / suc m) = omega (arith, mod-add-div (start + a) (suc m)) in
    sym (ap (λ n. n % suc m) whole ∙ add-mul-mod_self_left ((start + a) % suc m + b) (suc m) ((start + a) / suc m))

ring-twice : (a m : ℕ) (r : RingState) → taken_ring m (taken_ring a r) ≡ taken_ring (a + m) r
ring-twice a m r =
    let at : a * r.channels + m * r.channels ≡ (a + m) * r.channels = omega arith in
    (λ i. record {
      frames = drop-drop m a r.frames i;
      words = r.words;
      channels = r.channels;
      start = (on-twice (capacity_of r * r.channels) r.start (a * r.channels) (m * r.channels) ∙ ap (place_after (capacity_of r * r.channels) r.start) at) i;
      piece = r.piece;
    })

pub taken-unit : (a m : ℕ) (u : units.Unit) → taken_unit m (taken_unit a u) ≡ taken_unit (a + m) u
taken-unit a m (Buffer size ring source sink) = ap (λ r. Buffer size r source sink) (ring-twice a m ring)
taken-unit a m u = refl

pub pushed-unit : (xs ys : List Frame) (v w : List ℤ) (u : units.Unit) → pushed_unit ys w (pushed_unit xs v u) ≡ pushed_unit (xs ++ ys) w u
pushed-unit xs ys v w (Buffer size ring source sink) = ap (λ (fs : List Frame). Buffer size (record { frames = fs; words = ring.words; channels = ring.channels; start = ring.start; piece = record { home = ring.piece.home; place = ring.piece.place; size = ring.piece.size; words = w } }) source sink) (append_assoc ring.frames xs ys)
pushed-unit xs ys v w u = refl
