-- An endpoint's frames that pass part by part are those that pass at once.
use Rattle.std.proofs.Common.{◌≡◌, refl, sym, ap, ◌∙◌, ℕ, ◌+◌, ◌*◌, ◌≤◌, List, ◌++◌, length, Bool, true, false, arith}
use Rattle.std.proofs.lemmas.List.FromFn.{length-map-range_with_len}
use Rattle.sof_base.specs.declared.format.Format.{Format}
use Rattle.sof_base.specs.declared.format.Format.TheVariants.{S16, S24, S32}
use Rattle.sof_base.specs.Ports.{InputView, OutputView}
use Rattle.sof_base.specs.Samples.{Frame, width, frames_in}
use Rattle.sof_io.specs.Bound.{output_slots, has_slot}
use Rattle.sof_io.specs.Takes.{bytes_given, taken as input_taken}
use Rattle.sof_io.specs.Puts.{room_at, with_piece}
use Rattle.sof_io.proofs.InputLaws.{length-given, taken-taken, given-more}
use Rattle.sof_io.proofs.OutputLaws.{room_at-with_piece, with_piece-unknown}
use Rattle.fw_components.specs.Tables.{Tables, held_frames, capacity_at}
use Rattle.fw_units.specs.Changes.{has_id}
use Rattle.fw_components.specs.Frames.{words_at, channels_at, pushed}
use Rattle.fw_ring.proofs.ReadFrames.{frames_in-both}
use Rattle.fw_schedule.proofs.OneBuffer.{has-pushed, channels-pushed, capacity-pushed, most-pushed, pushed-twice}

-- ---- counts

pub width-most : (format : Format) → width format ≤ 4
width-most S16 = omega arith
width-most S24 = omega arith
width-most S32 = omega arith

-- ---- inputs

-- a buffer has so many channels, and room for so many frames
pub record CanFeed (b channels n : ℕ) (t : Tables) : Type 0 where
  pub there : has_id t.buffers b ≡ true
  pub shape : channels_at t b ≡ channels
  pub fit : length (held_frames t b) + n ≤ capacity_at t b

-- it has got so many frames of an input
pub record IsFed (id b channels : ℕ) (format : Format) (n : ℕ) (t : Tables) (io : List InputView) (t' : Tables) (io' : List InputView) : Type 0 where
  pub tables : t' ≡ pushed b (frames_in format channels (bytes_given id (n * (channels * width format)) io) 0 n) (words_at t' b) t
  pub inputs : io' ≡ input_taken id (n * (channels * width format)) io

pub can-feed-less : (b channels n m : ℕ) (t : Tables) → m ≤ n → CanFeed b channels n t → CanFeed b channels m t
can-feed-less b channels n m t less can = record { there = can.there; shape = can.shape; fit = omega (arith, less, can.fit) }

module _ (id b channels : ℕ) (format : Format) (a k : ℕ) (t t1 : Tables) (io io1 : List InputView) (first : IsFed id b channels format a t io t1 io1) where
  abbrev m : ℕ
  m = channels * width format

  abbrev xs : List Frame
  xs = frames_in format channels (bytes_given id (a * m) io) 0 a

  pub can-feed-on : CanFeed b channels (a + k) t → CanFeed b channels k t1
  can-feed-on can = record {
    there = ap (λ (x : Tables). has_id x.buffers b) first.tables ∙ has-pushed b xs (words_at t1 b) t b ∙ can.there;
    shape = ap (λ (x : Tables). channels_at x b) first.tables ∙ channels-pushed b xs (words_at t1 b) t b ∙ can.shape;
    fit =
        let room : capacity_at t1 b ≡ capacity_at t b = ap (λ (x : Tables). capacity_at x b) first.tables ∙ capacity-pushed b xs (words_at t1 b) t b in
        let held : length (held_frames t1 b) ≡ length (held_frames (pushed b xs (words_at t1 b) t) b) = ap (λ (x : Tables). length (held_frames x b)) first.tables in
        let count : length xs ≡ a = length-map-range_with_len _ 0 a in
        omega (arith, room, held, count, most-pushed b xs (words_at t1 b) t b, can.fit);
  }

  pub fed-more : (t2 : Tables) (io2 : List InputView) → IsFed id b channels format k t1 io1 t2 io2 → IsFed id b channels format (a + k) t io t2 io2
  fed-more t2 io2 next =
      let ys = frames_in format channels (bytes_given id (k * m) io1) 0 k in
      let w = words_at t2 b in
      let sum : a * m + k * m ≡ (a + k) * m = omega arith in
      let rest : bytes_given id (k * m) io1 ≡ bytes_given id (k * m) (input_taken id (a * m) io) = ap (bytes_given id (k * m)) first.inputs in
      let all : xs ++ ys ≡ frames_in format channels (bytes_given id ((a + k) * m) io) 0 (a + k) =
      ap (λ (bytes : List ℕ). xs ++ frames_in format channels bytes 0 k) rest
      ∙ sym (frames_in-both format channels a k (bytes_given id (a * m) io) (bytes_given id (k * m) (input_taken id (a * m) io)) (length-given id (a * m) io) (length-given id (k * m) (input_taken id (a * m) io)))
      ∙ ap (λ (bytes : List ℕ). frames_in format channels bytes 0 (a + k)) (sym (given-more id (a * m) (k * m) io) ∙ ap (λ n. bytes_given id n io) sum) in
      record {
        tables =
            next.tables
            ∙ ap (pushed b ys w) first.tables
            ∙ pushed-twice b xs ys (words_at t1 b) w t
            ∙ ap (λ (fs : List Frame). pushed b fs w t) all;
        inputs = next.inputs ∙ ap (input_taken id (k * m)) first.inputs ∙ taken-taken id (a * m) (k * m) io ∙ ap (λ n. input_taken id n io) sum;
      }

-- ---- outputs

-- room for a piece, and for more after it
pub room-left : (id n k : ℕ) (piece : List ℕ) (out : List OutputView) → length piece ≡ n → n + k ≤ room_at id out → k ≤ room_at id (with_piece id piece out)
room-left id n k piece out size room = by (has_slot id (output_slots out)) refl
  where
    by : (h : Bool) → has_slot id (output_slots out) ≡ h → k ≤ room_at id (with_piece id piece out)
    by true it = let left = room_at-with_piece id piece out it in omega (arith, left, size, room)
    by false it = let same : room_at id (with_piece id piece out) ≡ room_at id out = ap (room_at id) (with_piece-unknown id piece out it) in omega (arith, same, room)
