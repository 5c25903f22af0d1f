-- A device and its inputs stand where moments lead: the schedule equals the equations.
use Rattle.std.specs.Prelude.{◌≡◌, ℕ, ℤ, ◌+◌, ◌-◌, ◌≤◌, ◌^◌, min, List, [], drop, map, length, Option, Some, None, Bool, true, false, ◌==◌, find, if◌then◌else◌}
use Rattle.std.specs.List.{list_any}
use Rattle.std.specs.Option.{option_map_or}
use Rattle.sof_base.specs.Samples.{Frame}
use Rattle.sof_base.specs.Ports.{InputView}
use Rattle.stream_law.specs.State.{FwState, View, view_of}
use Rattle.stream_law.specs.Table.{number_of, list_of}
use Rattle.stream_law.specs.Ways.{buffers, is_of, channels_of, agree}
use Rattle.stream_law.specs.Moves.{capacity}
use Rattle.stream_law.specs.Epochs.{history_of}
use Rattle.stream_law.specs.Ramps.{ramp_numbers}
use Rattle.stream_law.specs.Order.{is_among}
use Rattle.stream_law.specs.Seen.{flows, is_volume, remembers, blob_in, ramp_length, numbers_in}
use Rattle.stream_law.specs.Past.{Moment, Past, Leads, start, part_of}

-- ---- look-ups

-- the frames that a state keeps of a buffer
abbrev pub ring_frames : FwState → ℕ → List Frame
ring_frames f b = option_map_or (λ r. r.frames) (find (λ r. r.buffer == b) f.rings) []

-- an input is bound to a slot
abbrev pub is_bound : List InputView → ℕ → Bool
is_bound inputs slot = list_any (λ x. x.slot == slot) inputs

-- how many bytes were taken of an input, 0 where it is not bound
abbrev pub position_of : List InputView → ℕ → ℕ
position_of inputs slot = option_map_or (λ x. x.position) (find (λ x. x.slot == slot) inputs) 0

-- the bytes that are left of an input, none where it is not bound
abbrev pub left_of : List InputView → ℕ → List ℕ
left_of inputs slot = option_map_or (λ x. x.left) (find (λ x. x.slot == slot) inputs) []

-- ---- what is kept

-- the counts of each edge agree with its frames, its room and its ends
pub record KeepsCounts (p : Past) : Type 0 where
  pub length_made : (b : ℕ) → length (list_of p.made b) ≡ number_of p.counts.put b
  pub no_more_taken : (b : ℕ) → number_of p.counts.taken b ≤ number_of p.counts.put b
  pub fits : (b : ℕ) → number_of p.counts.put b ≤ number_of p.counts.taken b + capacity p.view b
  pub empty : (b : ℕ) → flows p.view b ≡ false → number_of p.counts.taken b ≡ number_of p.counts.put b

-- the frames that lie in an edge: those that were put into it and not taken
abbrev pub lying : Past → ℕ → List Frame
lying p b = part_of (list_of p.made b) (number_of p.counts.taken b) (number_of p.counts.put b - number_of p.counts.taken b)

-- the numbers that stand for the frames that an equaliser or a volume took since its last mark
abbrev pub numbers_for : Past → ℕ → List Frame → List ℤ
numbers_for p c frames =
    if is_of p.view.graph is_volume c then ramp_numbers (list_of p.from c) (ramp_length p.view c) (length frames)
    else history_of (blob_in p.view c) (channels_of p.view c) frames

-- a firmware that is on holds what the past left: each ring the frames that lie in its edge, and each Live equaliser and volume
-- its numbers. Same says how its view is that of the past
pub record Holds (Same : View → View → Type 0) (f : FwState) (p : Past) : Type 0 where
  pub on : p.on ≡ true
  pub clock : f.clock ≡ p.clock
  pub view : Same (view_of f) p.view
  pub buffers : map (λ r. r.buffer) f.rings ≡ buffers f.graph
  pub rings : (b : ℕ) → ring_frames f b ≡ lying p b
  pub remembered : (c : ℕ) → remembers p.view c ≡ true → is_among (map (λ h. h.comp) f.histories) c ≡ true
  pub histories : (c : ℕ) → remembers p.view c ≡ true → numbers_in f c ≡ numbers_for p c (list_of p.epochs c)

-- the same of a firmware that may be off
abbrev pub HoldsWhereOn : (View → View → Type 0) → Option FwState → Past → Type 0
HoldsWhereOn Same (Some f) p = Holds Same f p
HoldsWhereOn Same None p = p.on ≡ false

-- each input has given its bytes up to the position of the past. Its own position stays at the last value of 64 bits
pub record HasRead (whole : List (ℕ × List ℕ)) (inputs : List InputView) (p : Past) : Type 0 where
  pub positions : (slot : ℕ) → is_bound inputs slot ≡ true → position_of inputs slot ≡ min (number_of p.positions slot) (2 ^ 64 - 1)
  pub left : (slot : ℕ) → left_of inputs slot ≡ drop (number_of p.positions slot) (list_of whole slot)

-- ---- the relation

-- the moments led to a past whose counts are kept, that the device holds, and up to which the inputs have given their bytes
pub record StandsBy (Same : View → View → Type 0) (device : Option FwState) (whole : List (ℕ × List ℕ)) (inputs : List InputView)
    (moments : List Moment) : Type 0 where
  pub past : Past
  pub led : Leads whole start moments past
  pub read : HasRead whole inputs past
  pub kept : KeepsCounts past
  pub holds : HoldsWhereOn Same device past
  pub agrees : agree past.view ≡ true

-- one view
abbrev pub SameView : View → View → Type 0
SameView v w = v ≡ w

-- the device and the inputs stand where the moments lead, with these bytes as the inputs' whole
abbrev pub Stands : Option FwState → List (ℕ × List ℕ) → List InputView → List Moment → Type 0
Stands device whole inputs moments = StandsBy SameView device whole inputs moments
