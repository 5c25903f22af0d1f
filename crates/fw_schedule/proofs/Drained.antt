-- A sink's move is that of a tick.
use Rattle.std.proofs.Common.{◌≡◌, refl, sym, ap, ◌∙◌, ℕ, ◌-◌, ◌*◌, ◌≤◌, min, take, replicate, not, nat_le, ◌&&◌, List, [], ◌∷◌, ◌++◌, filter, length, Bool, true, false, cond, Option, Some, None, arith}
use Rattle.std.proofs.Math.Nat.{min_comm}
use Rattle.std.proofs.lemmas.Bool.{or_left, false≢true}
use Rattle.std.proofs.lemmas.List.{nil_from_length}
use Rattle.std.specs.Prelude.{slice_get}
use Rattle.sof_base.specs.Samples.{width, frames_out}
use Rattle.sof_base.specs.Ports.{InputView, OutputView, Io}
use Rattle.sof_io.specs.Puts.{with_piece}
use Rattle.stream_law.specs.declared.graph.Kind.{Kind}
use Rattle.stream_law.specs.declared.graph.Kind.TheVariants.{HostCapture, DaiPlay}
use Rattle.stream_law.specs.State.{View}
use Rattle.stream_law.specs.Table.{table, list_of}
use Rattle.stream_law.specs.Ways.{ins, outs, comp_of, source_of, sink_of, is_end, active, active_end, channels_of, live}
use Rattle.stream_law.specs.Moves.{chooses, runs, quota, looks, fed, fed_by, is_empty}
use Rattle.stream_law.specs.Made.{only_slice}
use Rattle.stream_law.specs.Endpoints.{format_of, bytes_of_frames, bytes_written}
use Rattle.stream_law.specs.Move.{Audio, after_move, ring_length, ring_room, frames_moved, looked_now, fronts, bytes_moved, bytes_now}
use Rattle.fw_components.specs.Tables.{Tables, graph_of, view_by, held_frames}
use Rattle.fw_components.specs.Frames.{with_taken}
use Rattle.fw_components.specs.Kept.{IsKept}
use Rattle.fw_schedule.specs.Ticks.{CanTick}
use Rattle.fw_schedule.specs.Outputs.{is_output_kind, least_by}
use Rattle.fw_schedule.specs.Stages.{IsStage, AreEnds}
use Rattle.fw_schedule.proofs.Moved.{frames-run}
use Rattle.fw_schedule.proofs.ByKind.{chooses-of, written-of, reads-of, format-of, IsSink, host-capture, dai-play}
use Rattle.fw_schedule.proofs.Still.{frames-heard}
use Rattle.fw_schedule.proofs.Stages.{drained as drained-stage}
use Rattle.fw_schedule.proofs.Along.{IsThere, IsAt, fits, in-at, only-passes}
use Rattle.stream_law.specs.Seen.{keeps_numbers, remembers, blob_in}
use Rattle.stream_law.specs.declared.graph.Comp.{Comp}
use Rattle.std.specs.Option.{option_map_or}

pub record IsDrain (k : Kind) : Type 0 where
  pub more : ℕ → ℕ → ℕ
  pub sink : IsSink k more
  pub least : (most n : ℕ) → more most n ≡ least_by k most - n
  pub plain : keeps_numbers k ≡ false

pub sink-by : (k : Kind) → is_output_kind k ≡ true → IsDrain k
sink-by HostCapture is = record { more = λ most n. 0; sink = host-capture; least = λ most n. omega arith; plain = refl }
sink-by (DaiPlay format) is = record { more = λ most n. most - n; sink = dai-play format; least = λ most n. refl; plain = refl }
sink-by kind is = absurd (false≢true is)

-- a kind writes no more than its quota
pub least-few : (k : Kind) (q : ℕ) → least_by k q ≤ q
least-few (DaiPlay format) q = omega arith
least-few kind q = omega arith

one-in : (xs : List ℕ) (b : ℕ) → length xs ≡ 1 → slice_get xs 0 ≡ Some b → xs ≡ b ∷ []
one-in [] b one e = absurd (omega (arith, one))
one-in (x ∷ xs) b one e = let same : x ≡ b = cc e in λ i. same i ∷ nil_from_length xs (omega (arith, one)) i

no-one : (xs : List ℕ) → length xs ≡ 1 → slice_get xs 0 ≡ None → ⊥
no-one [] one e = omega (arith, one)
no-one (x ∷ xs) one e = cc e

and-not : (a b : Bool) → b ≡ false → (a && b) ≡ false
and-not true b e = e
and-not false b e = refl

module _ (t : Tables) (kept : IsKept t) (can : CanTick t) (id : ℕ) (there : IsThere (graph_of t) id (λ k. is_output_kind k)) (now : active (view_by t) id ≡ true) where
  abbrev v : View
  v = view_by t

  drain : IsDrain there.comp.kind
  drain = sink-by there.comp.kind there.kind

  sizes : (length (ins (graph_of t) id) ≡ 1) × (length (outs (graph_of t) id) ≡ 0)
  sizes = drain.sink.fits (length (ins (graph_of t) id)) (length (outs (graph_of t) id)) (fits t kept can id (λ k. is_output_kind k) there now)

  outs-none : outs (graph_of t) id ≡ []
  outs-none = nil_from_length (outs (graph_of t) id) sizes.1

  pub picks : chooses v id ≡ false
  picks = chooses-of v id there.comp there.is there.comp.kind refl ∙ drain.sink.picks

  -- it has one buffer in
  pub in-one : (b : ℕ) → slice_get (ins (graph_of t) id) 0 ≡ Some b → ins (graph_of t) id ≡ b ∷ []
  in-one b is = one-in (ins (graph_of t) id) b sizes.0 is

  pub in-some : slice_get (ins (graph_of t) id) 0 ≡ None → ⊥
  in-some is = no-one (ins (graph_of t) id) sizes.0 is

  pub in-of : (b : ℕ) → slice_get (ins (graph_of t) id) 0 ≡ Some b → IsAt t id b
  in-of b is = in-at t kept can id (λ k. is_output_kind k) there now b (only-passes (λ b. is_end (sink_of (graph_of t) b) id) _ b (in-one b is)) (or_left (not (chooses v id)) _ (ap not picks))

  -- it keeps no numbers
  plain : remembers v id ≡ false
  plain = and-not (live v id) (option_map_or (λ x. keeps_numbers x.kind) (comp_of (graph_of t) id) false) (ap (λ (o : Option Comp). option_map_or (λ x. keeps_numbers x.kind) o false) there.is ∙ drain.plain)

  module _ (began : Tables) (start : Io) (inputs : List InputView) (outputs : List OutputView) (a : Audio) (ends : AreEnds start a) (stage : IsStage began start t inputs outputs a) (clock : ℕ) (run : runs v clock id ≡ true) where
    abbrev blobs : ℕ → List ℕ
    blobs = blob_in (view_by t)

    feed : fed_by v id ≡ []
    feed = ap (filter (fed v)) outs-none

    -- the frames of its buffer go to its output
    pub drain-moved : (b : ℕ) → slice_get (ins (graph_of t) id) 0 ≡ Some b → (n : ℕ) → n ≡ min (quota v clock id) (length (held_frames t b))
        → IsStage began start (with_taken b n t) inputs (with_piece id (frames_out (format_of v id) (take n (held_frames t b)) ++ replicate ((least_by there.comp.kind (quota v clock id) - n) * (channels_of v id * width (format_of v id))) 0) outputs) (after_move v blobs clock id a)
    drain-moved b is n count = drained-stage began start t inputs outputs a ends stage clock id b n _ plain look feed frames moved wrote
      where
        at : IsAt t id b
        at = in-of b is

        held : held_frames t b ≡ list_of a.rings b
        held = frames-heard a t.buffers _ stage.rings b at.there

        look : looked_now v blobs clock id a ≡ b ∷ []
        look =
            ap (filter (looks v (ring_length v blobs clock id a) id)) (in-one b is)
            ∙ ap (λ h. cond h (b ∷ []) []) (or_left (not (chooses v id)) (active_end v (source_of v.graph b) && nat_le 1 (ring_length v blobs clock id a b)) (ap not picks))

        frames : frames_moved v blobs clock id a ≡ n
        frames =
            frames-run v clock (ring_length v blobs clock id a) (ring_room v blobs clock id a) id (b ∷ []) [] run picks look feed (or_left (is_empty (outs (graph_of t) id)) false (ap is_empty outs-none))
            ∙ min_comm (length (list_of a.rings b)) (quota v clock id)
            ∙ (λ i. min (quota v clock id) (length (sym held i)))
            ∙ sym count

        moved : bytes_moved v blobs clock id a ≡ 0
        moved = ap (λ h. cond h (bytes_of_frames v id (frames_moved v blobs clock id a)) 0) (reads-of v id there.comp there.is there.comp.kind refl ∙ drain.sink.reads)

        wrote : bytes_now v blobs clock id a ≡ frames_out (format_of v id) (take n (held_frames t b)) ++ replicate ((least_by there.comp.kind (quota v clock id) - n) * (channels_of v id * width (format_of v id))) 0
        wrote =
            ap (λ h. cond h (bytes_written v id (frames_moved v blobs clock id a) (quota v clock id) (only_slice (fronts v blobs clock id a))) []) run
            ∙ written-of v id there.comp there.is there.comp.kind refl (frames_moved v blobs clock id a) (quota v clock id) (only_slice (fronts v blobs clock id a))
            ∙ drain.sink.written v id (frames_moved v blobs clock id a) (quota v clock id) (only_slice (fronts v blobs clock id a)) (format-of v id there.comp there.is there.comp.kind refl)
            ∙ (λ i. frames_out (format_of v id) (only_slice (table (look i) (λ b. take (frames i) (list_of a.rings b)))) ++ replicate (drain.least (quota v clock id) (frames i) i * (channels_of v id * width (format_of v id))) 0)
            ∙ (λ i. frames_out (format_of v id) (take n (sym held i)) ++ replicate ((least_by there.comp.kind (quota v clock id) - n) * (channels_of v id * width (format_of v id))) 0)
