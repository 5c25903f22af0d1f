-- A source's move is that of a tick.
use Rattle.std.proofs.Common.{◌≡◌, refl, sym, ap, ◌∙◌, ℕ, ◌-◌, ◌*◌, min, List, [], ◌∷◌, filter, length, true, cond, Some, None, arith, ℤ}
use Rattle.std.proofs.Math.Nat.{min_comm}
use Rattle.std.proofs.lemmas.Bool.{or_right, false≢true}
use Rattle.std.proofs.lemmas.List.{nil_from_length}
use Rattle.std.specs.Prelude.{slice_get}
use Rattle.sof_base.specs.Samples.{width, frames_in}
use Rattle.sof_base.specs.Ports.{InputView, OutputView, Io}
use Rattle.sof_io.specs.Takes.{bytes_given, next_bytes, left_at, taken as input_taken}
use Rattle.stream_law.specs.declared.graph.Kind.{Kind}
use Rattle.stream_law.specs.declared.graph.Kind.TheVariants.{HostPlay, DaiCapture}
use Rattle.stream_law.specs.State.{View}
use Rattle.stream_law.specs.Table.{list_of, number_of}
use Rattle.stream_law.specs.Ways.{ins, outs, source_of, is_end, active, channels_of}
use Rattle.stream_law.specs.Moves.{capacity, runs, quota, looks, fed, fed_by, is_empty}
use Rattle.stream_law.specs.Made.{only_slice}
use Rattle.stream_law.specs.Endpoints.{is_input, format_of, bytes_of_frames, bytes_written}
use Rattle.stream_law.specs.Equaliser.{passed_frames}
use Rattle.stream_law.specs.Ramps.{ramped_frames, numbers_from, numbers_place}
use Rattle.stream_law.specs.Move.{Audio, after_move, ring_length, ring_room, frames_moved, looked_now, fronts, made_now, bytes_moved, bytes_now}
use Rattle.stream_law.specs.Seen.{blob_in, ramp_length}
use Rattle.fw_components.specs.Tables.{Tables, graph_of, view_by, held_frames, capacity_at}
use Rattle.fw_components.specs.Frames.{pushed}
use Rattle.fw_components.specs.Kept.{IsKept}
use Rattle.fw_schedule.specs.Ticks.{CanTick}
use Rattle.fw_schedule.specs.Stages.{IsStage, AreEnds}
use Rattle.fw_schedule.proofs.NextFrames.{frames-next}
use Rattle.fw_schedule.proofs.ShownEnds.{shown-left}
use Rattle.fw_schedule.proofs.Moved.{frames-run, frames-unfed}
use Rattle.fw_schedule.proofs.ByKind.{chooses-of, made-of, for-of, written-of, reads-of, IsSource, host-play, dai-capture}
use Rattle.fw_schedule.proofs.Still.{frames-heard}
use Rattle.fw_schedule.proofs.Stages.{still, fed as fed-stage}
use Rattle.fw_schedule.proofs.Along.{IsThere, IsAt, fits, out-at, single-some, single-none, fed-lives, only-passes}

pub source-by : (k : Kind) → is_input k ≡ true → IsSource k
source-by HostPlay is = host-play
source-by (DaiCapture format) is = dai-capture format
source-by kind is = absurd (false≢true is)

module _ (t : Tables) (kept : IsKept t) (can : CanTick t) (id : ℕ) (there : IsThere (graph_of t) id (λ k. is_input k)) (now : active (view_by t) id ≡ true) where
  abbrev v : View
  v = view_by t

  source : IsSource there.comp.kind
  source = source-by there.comp.kind there.kind

  sizes : (length (ins (graph_of t) id) ≡ 0) × (length (outs (graph_of t) id) ≡ 1)
  sizes = source.fits (length (ins (graph_of t) id)) (length (outs (graph_of t) id)) (fits t kept can id (λ k. is_input k) there now)

  ins-none : ins (graph_of t) id ≡ []
  ins-none = nil_from_length (ins (graph_of t) id) sizes.0

  -- what it feeds is its only buffer
  pub fed-one : (b : ℕ) → slice_get (fed_by v id) 0 ≡ Some b → (outs (graph_of t) id ≡ b ∷ []) × (fed_by v id ≡ b ∷ [])
  fed-one b is = single-some (fed v) (outs (graph_of t) id) b sizes.1 is

  pub fed-none : slice_get (fed_by v id) 0 ≡ None → (b : ℕ) × (outs (graph_of t) id ≡ b ∷ []) × (fed_by v id ≡ [])
  fed-none is = single-none (fed v) (outs (graph_of t) id) sizes.1 is

  -- which has its channels, and is the first of its buffers
  pub fed-at : (b : ℕ) → slice_get (fed_by v id) 0 ≡ Some b → IsAt t id b
  fed-at b is = out-at t kept can id (λ k. is_input k) there now b (only-passes (λ b. is_end (source_of (graph_of t) b) id) _ b (fed-one b is).0) (fed-lives v b (only-passes (fed v) (outs (graph_of t) id) b (fed-one b is).1))

  module _ (began : Tables) (start : Io) (inputs : List InputView) (outputs : List OutputView) (a : Audio) (ends : AreEnds start a) (stage : IsStage began start t inputs outputs a) (clock : ℕ) (run : runs v clock id ≡ true) where
    abbrev blobs : ℕ → List ℕ
    blobs = blob_in (view_by t)

    look : looked_now v blobs clock id a ≡ []
    look = ap (filter (looks v (ring_length v blobs clock id a) id)) ins-none

    made-read : made_now v blobs clock id a ≡ frames_in (format_of v id) (channels_of v id) (list_of a.left id) 0 (frames_moved v blobs clock id a)
    made-read =
        made-of v id there.comp there.is there.comp.kind refl (frames_moved v blobs clock id a) (frames_in (format_of v id) (channels_of v id) (list_of a.left id) 0 (frames_moved v blobs clock id a)) (fronts v blobs clock id a) (λ blob channels frames. passed_frames blob channels (list_of a.numbers id) frames) (ramped_frames (numbers_from (list_of a.numbers id)) (ramp_length v id) (numbers_place (list_of a.numbers id)))
        ∙ source.made there.comp.setting v id (frames_moved v blobs clock id a) (frames_in (format_of v id) (channels_of v id) (list_of a.left id) 0 (frames_moved v blobs clock id a)) (fronts v blobs clock id a) (λ blob channels frames. passed_frames blob channels (list_of a.numbers id) frames) (ramped_frames (numbers_from (list_of a.numbers id)) (ramp_length v id) (numbers_place (list_of a.numbers id)))

    silent : bytes_now v blobs clock id a ≡ []
    silent =
        ap (λ h. cond h (bytes_written v id (frames_moved v blobs clock id a) (quota v clock id) (only_slice (fronts v blobs clock id a))) []) run
        ∙ written-of v id there.comp there.is there.comp.kind refl (frames_moved v blobs clock id a) (quota v clock id) (only_slice (fronts v blobs clock id a))
        ∙ source.silent v id (frames_moved v blobs clock id a) (quota v clock id) (only_slice (fronts v blobs clock id a))

    -- where it feeds nothing, nothing moves
    pub fed-still : slice_get (fed_by v id) 0 ≡ None → IsStage began start t inputs outputs (after_move v blobs clock id a)
    fed-still is =
        let none = fed-none is in
        let idle = frames-unfed v clock (ring_length v blobs clock id a) (ring_room v blobs clock id a) id (ap is_empty none.1) none.2 in
        still began start t inputs outputs a ends stage clock id idle (made-read ∙ ap (frames_in (format_of v id) (channels_of v id) (list_of a.left id) 0) idle) silent

    -- else the frames of its input do
    pub fed-moved : (b : ℕ) (w : List ℤ) → slice_get (fed_by v id) 0 ≡ Some b → (n : ℕ) → n ≡ min (quota v clock id) (capacity_at t b - length (held_frames t b))
        → IsStage began start (pushed b (frames_in (format_of v id) (channels_of v id) (bytes_given id (n * (channels_of v id * width (format_of v id))) inputs) 0 n) w t) (input_taken id (n * (channels_of v id * width (format_of v id))) inputs) outputs (after_move v blobs clock id a)
    fed-moved b w is n count =
        fed-stage began start t inputs outputs a ends stage clock id kept b (n * (channels_of v id * width (format_of v id))) _ w look (fed-one b is).1 (for-of v id there.comp there.is there.comp.kind refl source.whole b (made_now v blobs clock id a) ∙ made) moved silent
      where
        at : IsAt t id b
        at = fed-at b is

        held : held_frames t b ≡ list_of a.rings b
        held = frames-heard a t.buffers _ stage.rings b at.there

        frames : frames_moved v blobs clock id a ≡ n
        frames =
            frames-run v clock (ring_length v blobs clock id a) (ring_room v blobs clock id a) id [] (b ∷ []) run (chooses-of v id there.comp there.is there.comp.kind refl ∙ source.picks) look (fed-one b is).1 (or_right (is_empty (outs (graph_of t) id)) true refl)
            ∙ min_comm (capacity v b - length (list_of a.rings b)) (quota v clock id)
            ∙ (λ i. min (quota v clock id) (at.room i - length (sym held i)))
            ∙ sym count

        moved : bytes_moved v blobs clock id a ≡ n * (channels_of v id * width (format_of v id))
        moved = ap (λ h. cond h (bytes_of_frames v id (frames_moved v blobs clock id a)) 0) (reads-of v id there.comp there.is there.comp.kind refl ∙ source.reads) ∙ ap (bytes_of_frames v id) frames

        left : left_at id inputs ≡ list_of a.left id
        left = ap (left_at id) stage.inputs ∙ shown-left id (λ x. number_of a.positions x) (λ x. list_of a.left x) start.inputs (ends.none id)

        made : made_now v blobs clock id a ≡ frames_in (format_of v id) (channels_of v id) (bytes_given id (n * (channels_of v id * width (format_of v id))) inputs) 0 n
        made =
            made-read
            ∙ ap (frames_in (format_of v id) (channels_of v id) (list_of a.left id) 0) frames
            ∙ sym (ap (λ left. frames_in (format_of v id) (channels_of v id) (next_bytes (n * (channels_of v id * width (format_of v id))) left) 0 n) left ∙ frames-next (format_of v id) (channels_of v id) (n * (channels_of v id * width (format_of v id))) n (list_of a.left id) (omega arith))
