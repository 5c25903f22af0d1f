-- What begins, and changes of the frames of one buffer: what they keep.
use Rattle.std.proofs.Common.{◌≡◌, refl, ℕ, ◌≤◌, List, [], ◌∷◌, map, true, arith, ℤ}
use Rattle.std.proofs.lemmas.Bool.{false≢true}
use Rattle.std.specs.List.{AllByRecursion}
use Rattle.sof_base.specs.Samples.{Frame}
use Rattle.fw_units.specs.declared.component.Component.{Component}
use Rattle.fw_units.specs.declared.component.Unit as units
use Rattle.fw_units.specs.declared.component.Unit.TheVariants.{Volume, Buffer}
use Rattle.fw_units.specs.Units.{ramp_by}
use Rattle.fw_components.specs.Tables.{Tables}
use Rattle.fw_components.specs.Kept.{IsKept, IsUnitSound, IsBuffering, IsPiping, IsStreaming, is_plain, sides_by}
use Rattle.fw_units.specs.Frames.{begun_unit, begun_by, begun_at, taken_unit, taken_by, taken_at, pushed_unit, pushed_by, pushed_at}
use Rattle.fw_components.proofs.KeptLaws.{comps-changed, sound-changed, buffers-changed, pipes-changed, at-id, at-unit, at-sides}

-- ---- each change keeps what a unit is

begun-streaming : (channels rate : ℕ) → (words : List ℤ) → (u : units.Unit) → IsStreaming u → IsStreaming (begun_unit channels rate words u)
begun-streaming channels rate words (Buffer size ring source sink) e = e
begun-streaming channels rate words u e = e

begun-sound : (channels rate : ℕ) → (words : List ℤ) → (u : units.Unit) → IsUnitSound u → IsUnitSound (begun_unit channels rate words u)
begun-sound channels rate words (Volume gains ramp from done frames piece) e = (refl, e.1, e.1, e.3)
begun-sound channels rate words u e = e

begun-plain : (channels rate : ℕ) → (words : List ℤ) → (u : units.Unit) → is_plain u ≡ true → is_plain (begun_unit channels rate words u) ≡ true
begun-plain channels rate words (Buffer size ring source sink) e = e
begun-plain channels rate words u e = e

begun-buffering : (channels rate : ℕ) → (words : List ℤ) → (u : units.Unit) → IsBuffering u → IsBuffering (begun_unit channels rate words u)
begun-buffering channels rate words (Buffer size ring source sink) e = e
begun-buffering channels rate words (Volume gains ramp from done frames piece) e = absurd (false≢true e.0)
begun-buffering channels rate words u e = e

begun-piping : (channels rate : ℕ) → (words : List ℤ) → (u : units.Unit) → IsPiping u → IsPiping (begun_unit channels rate words u)
begun-piping channels rate words (Buffer size ring source sink) e = e
begun-piping channels rate words (Volume gains ramp from done frames piece) e = absurd (false≢true e.0)
begun-piping channels rate words u e = e

begun-sides : (channels rate : ℕ) → (words : List ℤ) → (u : units.Unit) → sides_by (begun_unit channels rate words u) ≡ sides_by u
begun-sides channels rate words (Buffer size ring source sink) = refl
begun-sides channels rate words u = refl

pub taken-buffering : (n : ℕ) → (u : units.Unit) → IsBuffering u → IsBuffering (taken_unit n u)
taken-buffering n (Buffer size ring source sink) e = e
taken-buffering n u e = e

pub taken-sides : (n : ℕ) → (u : units.Unit) → sides_by (taken_unit n u) ≡ sides_by u
taken-sides n (Buffer size ring source sink) = refl
taken-sides n u = refl

pub pushed-buffering : (frames : List Frame) → (words : List ℤ) → (u : units.Unit) → IsBuffering u → IsBuffering (pushed_unit frames words u)
pushed-buffering frames words (Buffer size ring source sink) e = e
pushed-buffering frames words u e = e

pub pushed-sides : (frames : List Frame) → (words : List ℤ) → (u : units.Unit) → sides_by (pushed_unit frames words u) ≡ sides_by u
pushed-sides frames words (Buffer size ring source sink) = refl
pushed-sides frames words u = refl

-- ---- and what is so of tables

module _ (t : Tables) (kept : IsKept t) (id : ℕ) where
  pub comp-begun : (channels rate : ℕ) (words : List ℤ) (new : List Component) → new ≡ map (begun_at id channels rate words) t.comps → IsKept (record { comps = new; buffers = t.buffers; pipes = t.pipes; joins = t.joins })
  comp-begun channels rate words new is = comps-changed t kept (begun_at id channels rate words) new (at-id (begun_by channels rate words) (λ c. refl) id) (at-unit (λ u. is_plain u ≡ true) (begun_by channels rate words) (λ c. begun-plain channels rate words c.unit) id) (sound-changed (begun_by channels rate words) (λ c. begun-sound channels rate words c.unit) id t.comps kept.sound) (at-unit IsStreaming (begun_by channels rate words) (λ c. begun-streaming channels rate words c.unit) id) is

  pub buffer-begun : (channels rate : ℕ) (words : List ℤ) (new : List Component) → new ≡ map (begun_at id channels rate words) t.buffers → IsKept (record { comps = t.comps; buffers = new; pipes = t.pipes; joins = t.joins })
  buffer-begun channels rate words new is = buffers-changed t kept (begun_at id channels rate words) new (at-id (begun_by channels rate words) (λ c. refl) id) (at-sides (begun_by channels rate words) (λ c. begun-sides channels rate words c.unit) id) (at-unit IsBuffering (begun_by channels rate words) (λ c. begun-buffering channels rate words c.unit) id) is

  pub pipe-begun : (channels rate : ℕ) (words : List ℤ) (new : List Component) → new ≡ map (begun_at id channels rate words) t.pipes → IsKept (record { comps = t.comps; buffers = t.buffers; pipes = new; joins = t.joins })
  pipe-begun channels rate words new is = pipes-changed t kept (begun_at id channels rate words) new (at-id (begun_by channels rate words) (λ c. refl) id) (at-unit IsPiping (begun_by channels rate words) (λ c. begun-piping channels rate words c.unit) id) is

  pub buffer-pushed : (frames : List Frame) (words : List ℤ) (new : List Component) → new ≡ map (pushed_at id frames words) t.buffers → IsKept (record { comps = t.comps; buffers = new; pipes = t.pipes; joins = t.joins })
  buffer-pushed frames words new is = buffers-changed t kept (pushed_at id frames words) new (at-id (pushed_by frames words) (λ c. refl) id) (at-sides (pushed_by frames words) (λ c. pushed-sides frames words c.unit) id) (at-unit IsBuffering (pushed_by frames words) (λ c. pushed-buffering frames words c.unit) id) is

  pub buffer-taken : (n : ℕ) (new : List Component) → new ≡ map (taken_at id n) t.buffers → IsKept (record { comps = t.comps; buffers = new; pipes = t.pipes; joins = t.joins })
  buffer-taken n new is = buffers-changed t kept (taken_at id n) new (at-id (taken_by n) (λ c. refl) id) (at-sides (taken_by n) (λ c. taken-sides n c.unit) id) (at-unit IsBuffering (taken_by n) (λ c. taken-buffering n c.unit) id) is

-- ---- a rate and ramps are within their limits

sound-ramp : (u : units.Unit) → IsUnitSound u → ramp_by u ≤ 10000
sound-ramp (Volume gains ramp from done frames piece) e = e.3
sound-ramp u e = omega arith

ramps-low : (P : units.Unit → Type 0) → ((u : units.Unit) → P u → IsUnitSound u) → (cs : List Component) → AllByRecursion (λ c. P c.unit) cs → AllByRecursion (λ c. ramp_by c.unit ≤ 10000) cs
ramps-low P sound [] all = tt
ramps-low P sound (c ∷ cs) all = (sound-ramp c.unit (sound c.unit all.0), ramps-low P sound cs all.1)

module _ (t : Tables) (kept : IsKept t) where
  pub comps-ramps : AllByRecursion (λ c. ramp_by c.unit ≤ 10000) t.comps
  comps-ramps = ramps-low IsUnitSound (λ u e. e) t.comps kept.sound

  pub buffers-ramps : AllByRecursion (λ c. ramp_by c.unit ≤ 10000) t.buffers
  buffers-ramps = ramps-low IsBuffering (λ u e. e.1) t.buffers kept.buffering

  pub pipes-ramps : AllByRecursion (λ c. ramp_by c.unit ≤ 10000) t.pipes
  pipes-ramps = ramps-low IsPiping (λ u e. e.1) t.pipes kept.piping
