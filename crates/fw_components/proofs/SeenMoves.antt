-- How the move of a component is seen in the firmware's state.
use Rattle.std.proofs.Common.{◌≡◌, refl, sym, ap, ◌∙◌, subst, ℕ, ◌+◌, ◌*◌, List, [], ◌∷◌, ◌++◌, map, filter, take, drop, length, Bool, true, false, cond, ◌==◌, Option, Some, None, ℤ}
use Rattle.std.proofs.lemmas.Bool.{eqb-true, false≢true}
use Rattle.std.specs.Prelude.{find, option_map}
use Rattle.std.specs.List.{AllByRecursion}
use Rattle.std.specs.Option.{option_map_or}
use Rattle.sof_base.specs.Samples.{Frame}
use Rattle.eq_biquad.specs.EqState.{numbers_of}
use Rattle.stream_law.specs.declared.graph.Comp.{Comp}
use Rattle.stream_law.specs.declared.stream.StreamView.{StreamView}
use Rattle.stream_law.specs.State.{History, Staging, View}
use Rattle.stream_law.specs.Order.{is_among}
use Rattle.stream_law.specs.Placed.{Ascends}
use Rattle.stream_law.specs.Seen.{remembers, is_equaliser, is_volume, blob_in, ramp_length}
use Rattle.stream_law.specs.Ramps.{ramped_frames, numbers_from, numbers_place, ramped_on}
use Rattle.stream_law.specs.Ways.{comp_of, is_of, channels_of}
use Rattle.stream_law.specs.Made.{frames_made, frames_for, only_slice}
use Rattle.stream_law.specs.Made as made
use Rattle.stream_law.specs.Equaliser.{passed_frames, numbers_after}
use Rattle.fw_units.specs.declared.component.Component.{Component}
use Rattle.fw_units.specs.declared.component.Unit as units
use Rattle.fw_units.specs.declared.component.Unit.TheVariants.{Host, Dai, Volume, Eq, Demux, Buffer, Pipeline}
use Rattle.fw_units.specs.Units.{comp_by, edge_by, pipe_by, ring_by, streams_by, with_stream_by, staging_by, with_staging_by, kind_by, setting_by, ramp_by, unit_frames, numbers_by, is_buffer}
use Rattle.fw_components.specs.Tables.{Tables, graph_of, view_by, streams_of, histories_of}
use Rattle.fw_units.specs.Frames.{staged_by, staged_in, staged_of_one, taken_unit, taken_by, pushed_unit, pushed_by}
use Rattle.fw_components.specs.Kept.{IsKept, IsBuffering}
use Rattle.fw_moves.specs.Processed.{moves_of, slices_in, chosen_by, made_frames, made_numbers, output_number, output_frames, fed_at, drained_at, run_unit, run_by, run_at}
use Rattle.fw_components.specs.Processed.{moves_at, channels_moved, ramp_frames_by, ramp_frames_at, made_at, output_at, eq_numbers_at, numbers_made_at, processed, drained_ring, fed_ring, moved_rings, with_numbers}
use Rattle.fw_units.proofs.Units.{taken-frames, pushed-frames}
use Rattle.fw_components.proofs.SeenFrames.{map-same, edge_of_unit}
use Rattle.fw_moves.proofs.StepLaws.{own-found}
use Rattle.fw_components.proofs.KeptLaws.{at-id}
use Rattle.fw_components.proofs.HeldRamps.{held-from, held-place, held-on}

-- ---- what each change leaves of a unit

comp-run : (id pipe : ℕ) (w : List ℤ) (n : ℕ) (u : units.Unit) → ◌≡◌ {A = Comp} (record { id = id; kind = kind_by (run_unit w n u); pipe = pipe; setting = setting_by (run_unit w n u); ramp = ramp_by (run_unit w n u) }) (record { id = id; kind = kind_by u; pipe = pipe; setting = setting_by u; ramp = ramp_by u })
comp-run id pipe w n (Buffer size ring source sink) = refl
comp-run id pipe w n u = refl

stream-run : (id : ℕ) (w : List ℤ) (n : ℕ) (rest : List StreamView) (u : units.Unit) → with_stream_by id (run_unit w n u) rest ≡ with_stream_by id u rest
stream-run id w n rest (Buffer size ring source sink) = refl
stream-run id w n rest u = refl

staging-run : (id : ℕ) (w : List ℤ) (n : ℕ) (rest : List Staging) (u : units.Unit) → staged_by (run_unit w n u) ≡ staged_by u → with_staging_by id (run_unit w n u) rest ≡ with_staging_by id u rest
staging-run id w n rest (Eq eq next remaining) same = ap (λ (bytes : List ℕ). cond (remaining == 0) rest (record { eq = id; bytes = take (32 + 260 * next) bytes; next = next; remaining = remaining } ∷ rest)) same
staging-run id w n rest u same = refl

edge-taken : (id pipe n : ℕ) (u : units.Unit) → edge_of_unit id pipe (taken_unit n u) ≡ edge_of_unit id pipe u
edge-taken id pipe n (Buffer size ring source sink) = refl
edge-taken id pipe n u = refl

edge-pushed : (id pipe : ℕ) (fs : List Frame) (w : List ℤ) (u : units.Unit) → edge_of_unit id pipe (pushed_unit fs w u) ≡ edge_of_unit id pipe u
edge-pushed id pipe fs w (Buffer size ring source sink) = refl
edge-pushed id pipe fs w u = refl

taken-buffer : (n : ℕ) (u : units.Unit) → is_buffer (taken_unit n u) ≡ is_buffer u
taken-buffer n (Buffer size ring source sink) = refl
taken-buffer n u = refl

-- ---- the component

module _ (id : ℕ) (w : List ℤ) (n : ℕ) where
  run-id : (c : Component) → (run_at id w n c).id ≡ c.id
  run-id c = at-id (run_by w n) (λ c. refl) id c

  comp-same : (c : Component) → comp_by (run_at id w n c) ≡ comp_by c
  comp-same c = by (c.id == id)
    where
      by : (h : Bool) → comp_by (cond {A = Component} h (run_by w n c) c) ≡ comp_by c
      by true = comp-run c.id c.pipe w n c.unit
      by false = refl

  pub comps-run : (cs : List Component) → map comp_by (map (run_at id w n) cs) ≡ map comp_by cs
  comps-run cs = map-same comp_by (run_at id w n) comp-same cs

  pub streams-run : (cs : List Component) → streams_by (map (run_at id w n) cs) ≡ streams_by cs
  streams-run [] = refl
  streams-run (c ∷ cs) = by (c.id == id) ∙ ap (with_stream_by c.id c.unit) (streams-run cs)
    where
      by : (h : Bool) → with_stream_by (cond {A = Component} h (run_by w n c) c).id (cond {A = Component} h (run_by w n c) c).unit (streams_by (map (run_at id w n) cs)) ≡ with_stream_by c.id c.unit (streams_by (map (run_at id w n) cs))
      by true = stream-run c.id w n (streams_by (map (run_at id w n) cs)) c.unit
      by false = refl

  find-run : (b : ℕ) (cs : List Component) → find (λ c. c.id == b) (map (run_at id w n) cs) ≡ option_map (run_at id w n) (find (λ c. c.id == b) cs)
  find-run b [] = refl
  find-run b (c ∷ cs) =
      ap (λ k. cond (k == b) (Some (run_at id w n c)) (find (λ c. c.id == b) (map (run_at id w n) cs))) (run-id c) ∙ by (c.id == b) (find-run b cs)
    where
      by : (h : Bool) → find (λ c. c.id == b) (map (run_at id w n) cs) ≡ option_map (run_at id w n) (find (λ c. c.id == b) cs) → cond h (Some (run_at id w n c)) (find (λ c. c.id == b) (map (run_at id w n) cs)) ≡ option_map (run_at id w n) (cond h (Some c) (find (λ c. c.id == b) cs))
      by true rest = refl
      by false rest = rest

  -- the one of the id has become this
  run-here : (c : Component) → (c.id == id) ≡ true → run_at id w n c ≡ run_by w n c
  run-here c is = ap (λ h. cond {A = Component} h (run_by w n c) c) is

  own-run : (cs : List Component) (c : Component) → find (λ x. x.id == c.id) cs ≡ Some c → (c.id == id) ≡ true → find (λ x. x.id == id) (map (run_at id w n) cs) ≡ Some (run_by w n c)
  own-run cs c own is =
      find-run id cs
      ∙ ap (option_map (run_at id w n)) (ap (λ k. find (λ x. x.id == k) cs) (sym (eqb-true c.id id is)) ∙ own)
      ∙ ap (λ (x : Component). Some x) (run-here c is)

  own-before : (cs : List Component) (c : Component) → find (λ x. x.id == c.id) cs ≡ Some c → (c.id == id) ≡ true → find (λ x. x.id == id) cs ≡ Some c
  own-before cs c own is = ap (λ k. find (λ x. x.id == k) cs) (sym (eqb-true c.id id is)) ∙ own

  -- ---- staged bytes

  staging-each : (all cs : List Component) → staged_in (map (run_at id w n) all) id ≡ staged_in all id → AllByRecursion (λ c. find (λ x. x.id == c.id) all ≡ Some c) cs → staging_by (map (run_at id w n) cs) ≡ staging_by cs
  staging-each all [] staged own = refl
  staging-each all (c ∷ cs) staged own = by (c.id == id) refl ∙ ap (with_staging_by c.id c.unit) (staging-each all cs staged own.1)
    where
      rest : List Staging
      rest = staging_by (map (run_at id w n) cs)

      by : (h : Bool) → (c.id == id) ≡ h → with_staging_by (cond {A = Component} h (run_by w n c) c).id (cond {A = Component} h (run_by w n c) c).unit (staging_by (map (run_at id w n) cs)) ≡ with_staging_by c.id c.unit (staging_by (map (run_at id w n) cs))
      by true is = staging-run c.id w n (staging_by (map (run_at id w n) cs)) c.unit (ap staged_of_one (sym (own-run all c own.0 is)) ∙ staged ∙ ap staged_of_one (own-before all c own.0 is))
      by false is = refl

  pub staging-same : (cs : List Component) → Ascends (λ c. c.id) cs → staged_in (map (run_at id w n) cs) id ≡ staged_in cs id → staging_by (map (run_at id w n) cs) ≡ staging_by cs
  staging-same cs ascends staged = staging-each cs cs staged (own-found cs ascends)

  -- ---- numbers

  abbrev history : Component → History
  history c = record { comp = c.id; numbers = numbers_by c.unit c.channels }

  abbrev numbers_in : List Component → List ℤ
  numbers_in cs = option_map_or (λ c. numbers_by c.unit c.channels) (find (λ c. c.id == id) cs) []

  histories-each : (all cs : List Component) (live : ℕ → Bool) → AllByRecursion (λ c. find (λ x. x.id == c.id) all ≡ Some c) cs → map history (filter (λ c. live c.id) (map (run_at id w n) cs)) ≡ map (with_numbers id (numbers_in (map (run_at id w n) all))) (map history (filter (λ c. live c.id) cs))
  histories-each all [] live own = refl
  histories-each all (c ∷ cs) live own =
      ap (λ k. map history (cond (live k) (run_at id w n c ∷ filter (λ c. live c.id) (map (run_at id w n) cs)) (filter (λ c. live c.id) (map (run_at id w n) cs)))) (run-id c) ∙ by (live c.id) (histories-each all cs live own.1)
    where
      one : (h : Bool) → (c.id == id) ≡ h → history (cond {A = Component} h (run_by w n c) c) ≡ cond h (record { comp = c.id; numbers = numbers_in (map (run_at id w n) all) }) (history c)
      one true is = ap (λ (ns : List ℤ). record { comp = c.id; numbers = ns }) (ap (λ (o : Option Component). option_map_or (λ x. numbers_by x.unit x.channels) o []) (sym (own-run all c own.0 is)))
      one false is = refl

      by : (h : Bool) → map history (filter (λ c. live c.id) (map (run_at id w n) cs)) ≡ map (with_numbers id (numbers_in (map (run_at id w n) all))) (map history (filter (λ c. live c.id) cs)) → map history (cond h (run_at id w n c ∷ filter (λ c. live c.id) (map (run_at id w n) cs)) (filter (λ c. live c.id) (map (run_at id w n) cs))) ≡ map (with_numbers id (numbers_in (map (run_at id w n) all))) (map history (cond h (c ∷ filter (λ c. live c.id) cs) (filter (λ c. live c.id) cs)))
      by true rest = (λ i. one (c.id == id) refl i ∷ rest i)
      by false rest = rest

  pub histories-run : (cs : List Component) (live : ℕ → Bool) → Ascends (λ c. c.id) cs → map history (filter (λ c. live c.id) (map (run_at id w n) cs)) ≡ map (with_numbers id (numbers_in (map (run_at id w n) cs))) (map history (filter (λ c. live c.id) cs))
  histories-run cs live ascends = histories-each cs cs live (own-found cs ascends)

-- ---- the buffers

module _ (looked : List ℕ) (n : ℕ) (fed : List ℕ) (frames : ℕ → List Frame) (w : ℕ → List ℤ) where
  edge-drained : (c : Component) → edge_by (drained_at looked n c) ≡ edge_by c
  edge-drained c = by (is_among looked c.id)
    where
      by : (h : Bool) → edge_by (cond {A = Component} h (taken_by n c) c) ≡ edge_by c
      by true = edge-taken c.id c.pipe n c.unit
      by false = refl

  edge-fed : (c : Component) → edge_by (fed_at fed frames w c) ≡ edge_by c
  edge-fed c = by (is_among fed c.id)
    where
      by : (h : Bool) → edge_by (cond {A = Component} h (pushed_by (frames c.id) (w c.id) c) c) ≡ edge_by c
      by true = edge-pushed c.id c.pipe (frames c.id) (w c.id) c.unit
      by false = refl

  pub edges-moved : (cs : List Component) → map edge_by (map (fed_at fed frames w) (map (drained_at looked n) cs)) ≡ map edge_by cs
  edges-moved cs = map-same edge_by (fed_at fed frames w) edge-fed (map (drained_at looked n) cs) ∙ map-same edge_by (drained_at looked n) edge-drained cs

  ring-drained : (c : Component) → ring_by (drained_at looked n c) ≡ drained_ring looked n (ring_by c)
  ring-drained c = by (is_among looked c.id)
    where
      by : (h : Bool) → ring_by (cond {A = Component} h (taken_by n c) c) ≡ cond h (record { buffer = c.id; frames = drop n (unit_frames c.unit) }) (ring_by c)
      by true = ap (λ (fs : List Frame). record { buffer = c.id; frames = fs }) (taken-frames n c.unit)
      by false = refl

  still-buffer : (c : Component) → is_buffer (drained_at looked n c).unit ≡ is_buffer c.unit
  still-buffer c = by (is_among looked c.id)
    where
      by : (h : Bool) → is_buffer (cond {A = Component} h (taken_by n c) c).unit ≡ is_buffer c.unit
      by true = taken-buffer n c.unit
      by false = refl

  ring-fed : (c : Component) → is_buffer c.unit ≡ true → ring_by (fed_at fed frames w c) ≡ fed_ring fed frames (ring_by c)
  ring-fed c e = by (is_among fed c.id)
    where
      by : (h : Bool) → ring_by (cond {A = Component} h (pushed_by (frames c.id) (w c.id) c) c) ≡ cond h (record { buffer = c.id; frames = unit_frames c.unit ++ frames c.id }) (ring_by c)
      by true = ap (λ (fs : List Frame). record { buffer = c.id; frames = fs }) (pushed-frames (frames c.id) (w c.id) c.unit e)
      by false = refl

  -- a ring that is fed once it is drained
  fed-drained : (c : Component) → fed_ring fed frames (ring_by (drained_at looked n c)) ≡ fed_ring fed frames (drained_ring looked n (ring_by c))
  fed-drained c = ap (fed_ring fed frames) (ring-drained c)

  pub rings-moved : (cs : List Component) → AllByRecursion (λ c. IsBuffering c.unit) cs → map ring_by (map (fed_at fed frames w) (map (drained_at looked n) cs)) ≡ moved_rings looked n fed frames (map ring_by cs)
  rings-moved [] all = refl
  rings-moved (c ∷ cs) all =
      let one = ring-fed (drained_at looked n c) (still-buffer c ∙ all.0.0) ∙ fed-drained c in
      (λ i. one i ∷ rings-moved cs all.1 i)

-- ---- all of the tables

module _ (id n : ℕ) (looked fed : List ℕ) (frames : ℕ → List Frame) (words : ℕ → List ℤ) (own : List ℤ) (t : Tables) where
  abbrev after : Tables
  after = processed id looked n fed frames words own t

  pub graph-moved : graph_of after ≡ graph_of t
  graph-moved = (λ i. record { comps = comps-run id own n t.comps i; edges = edges-moved looked n fed frames words t.buffers i; pipes = map pipe_by t.pipes; joins = t.joins })

  pub streams-moved : streams_of after ≡ streams_of t
  streams-moved = streams-run id own n t.comps

  view-moved : view_by after ≡ view_by t
  view-moved = (λ i. record { graph = graph-moved i; streams = streams-moved i })

  pub histories-moved : IsKept t → histories_of after ≡ map (with_numbers id (eq_numbers_at after id)) (histories_of t)
  histories-moved kept =
      ap (λ (v : View). map (history id own n) (filter (λ c. remembers v c.id) (map (run_at id own n) t.comps))) view-moved
      ∙ histories-run id own n t.comps (remembers (view_by t)) kept.named.comps

-- ---- the frames of a tick

find-comp : (id : ℕ) (cs : List Component) → find (λ x. x.id == id) (map comp_by cs) ≡ option_map comp_by (find (λ c. c.id == id) cs)
find-comp id [] = refl
find-comp id (c ∷ cs) = by (c.id == id) (find-comp id cs)
  where
    by : (h : Bool) → find (λ x. x.id == id) (map comp_by cs) ≡ option_map comp_by (find (λ c. c.id == id) cs) → cond h (Some (comp_by c)) (find (λ x. x.id == id) (map comp_by cs)) ≡ option_map comp_by (cond h (Some c) (find (λ c. c.id == id) cs))
    by true rest = refl
    by false rest = rest

-- what each output gets
module _ (id b : ℕ) (frames : List Frame) (t : Tables) (wide : channels_of (view_by t) id ≡ channels_moved t id) where
  pub tick-outputs : frames_for (view_by t) id b frames ≡ output_at t id b frames
  unfolding frames_for
  tick-outputs =
      ap (λ (o : Option Comp). option_map_or (λ x. made.frames_at_output x.kind x.setting (view_by t) id (output_number t.joins id b) frames) o frames) (find-comp id t.comps)
      ∙ found (find (λ c. c.id == id) t.comps) wide
    where
      by : (u : units.Unit) (channels : ℕ) → channels_of (view_by t) id ≡ channels → made.frames_at_output (kind_by u) (setting_by u) (view_by t) id (output_number t.joins id b) frames ≡ output_frames u channels (output_number t.joins id b) frames
      by (Demux masks piece) channels same = ap (λ k. output_frames (Demux masks piece) k (output_number t.joins id b) frames) same
      by (Host true phase params piece) channels same = refl
      by (Host false phase params piece) channels same = refl
      by (Dai true format piece) channels same = refl
      by (Dai false format piece) channels same = refl
      by u channels same = refl

      found : (o : Option Component) → channels_of (view_by t) id ≡ option_map_or (λ c. c.channels) o 0 →
          option_map_or (λ x. made.frames_at_output x.kind x.setting (view_by t) id (output_number t.joins id b) frames) (option_map comp_by o) frames ≡ option_map_or (λ c. output_frames c.unit c.channels (output_number t.joins id b) frames) o frames
      found None same = refl
      found (Some c) same = by c.unit c.channels same

-- an equaliser's numbers after them
module _ (id n : ℕ) (looked : List ℕ) (t : Tables) (wide : channels_of (view_by t) id ≡ channels_moved t id) where
  pub tick-numbers : option_map_or (λ x. is_equaliser x.kind) (comp_of (graph_of t) id) false ≡ true → numbers_after (blob_in (view_by t) id) (channels_of (view_by t) id) (eq_numbers_at t id) (only_slice (slices_in t.buffers looked n)) ≡ numbers_made_at t id looked n
  tick-numbers kind =
      subst (λ (o : Option Comp). option_map_or (λ x. is_equaliser x.kind) o false ≡ true → numbers_after (option_map_or (λ x. made.blob x.setting) o []) (channels_of (view_by t) id) (eq_numbers_at t id) (only_slice (slices_in t.buffers looked n)) ≡ numbers_made_at t id looked n)
      (sym (find-comp id t.comps)) (found (find (λ c. c.id == id) t.comps) wide) kind
    where
      by : (u : units.Unit) (channels : ℕ) → channels_of (view_by t) id ≡ channels → is_equaliser (kind_by u) ≡ true → numbers_after (made.blob (setting_by u)) (channels_of (view_by t) id) (numbers_by u channels) (only_slice (slices_in t.buffers looked n)) ≡ made_numbers u channels (slices_in t.buffers looked n)
      by (Eq eq next remaining) channels same e = ap (λ k. numbers_after eq.blob k (numbers_of eq channels) (only_slice (slices_in t.buffers looked n))) same
      by (Host true phase params piece) channels same e = absurd (false≢true e)
      by (Host false phase params piece) channels same e = absurd (false≢true e)
      by (Dai true format piece) channels same e = absurd (false≢true e)
      by (Dai false format piece) channels same e = absurd (false≢true e)
      by u channels same e = absurd (false≢true e)

      found : (o : Option Component) → channels_of (view_by t) id ≡ option_map_or (λ c. c.channels) o 0 → option_map_or (λ x. is_equaliser x.kind) (option_map comp_by o) false ≡ true →
          numbers_after (option_map_or (λ x. made.blob x.setting) (option_map comp_by o) []) (channels_of (view_by t) id) (option_map_or (λ c. numbers_by c.unit c.channels) o []) (only_slice (slices_in t.buffers looked n)) ≡ option_map_or (λ c. made_numbers c.unit c.channels (slices_in t.buffers looked n)) o []
      found None same e = absurd (false≢true e)
      found (Some c) same e = by c.unit c.channels same e

-- a volume's numbers after them
module _ (id n : ℕ) (looked : List ℕ) (t : Tables) where
  pub tick-places : is_of (graph_of t) is_volume id ≡ true → ramp_frames_at t id ≡ ramp_length (view_by t) id → ramped_on (ramp_length (view_by t) id) (eq_numbers_at t id) (length (only_slice (slices_in t.buffers looked n))) ≡ numbers_made_at t id looked n
  tick-places kind over =
      subst (λ (o : Option Comp). option_map_or (λ x. is_volume x.kind) o false ≡ true → ramped_on (ramp_length (view_by t) id) (eq_numbers_at t id) (length (only_slice (slices_in t.buffers looked n))) ≡ numbers_made_at t id looked n)
      (sym (find-comp id t.comps)) (found (find (λ c. c.id == id) t.comps) over) kind
    where
      by : (u : units.Unit) (channels : ℕ) → ramp_frames_by u ≡ ramp_length (view_by t) id → is_volume (kind_by u) ≡ true → ramped_on (ramp_length (view_by t) id) (numbers_by u channels) (length (only_slice (slices_in t.buffers looked n))) ≡ made_numbers u channels (slices_in t.buffers looked n)
      by (Volume gains ramp from done frames piece) channels same e =
          ap (λ over. ramped_on over (numbers_by (Volume gains ramp from done frames piece) channels) (length (only_slice (slices_in t.buffers looked n)))) (sym same)
          ∙ held-on from frames done (length (only_slice (slices_in t.buffers looked n)))
      by (Host true phase params piece) channels same e = absurd (false≢true e)
      by (Host false phase params piece) channels same e = absurd (false≢true e)
      by (Dai true format piece) channels same e = absurd (false≢true e)
      by (Dai false format piece) channels same e = absurd (false≢true e)
      by u channels same e = absurd (false≢true e)

      found : (o : Option Component) → option_map_or (λ c. ramp_frames_by c.unit) o 0 ≡ ramp_length (view_by t) id → option_map_or (λ x. is_volume x.kind) (option_map comp_by o) false ≡ true →
          ramped_on (ramp_length (view_by t) id) (option_map_or (λ c. numbers_by c.unit c.channels) o []) (length (only_slice (slices_in t.buffers looked n))) ≡ option_map_or (λ c. made_numbers c.unit c.channels (slices_in t.buffers looked n)) o []
      found None same e = absurd (false≢true e)
      found (Some c) same e = by c.unit c.channels same e

module _ (id n : ℕ) (looked : List ℕ) (read : List Frame) (t : Tables) (wide : channels_of (view_by t) id ≡ channels_moved t id) where
  abbrev slices : List (ℕ × List Frame)
  slices = slices_in t.buffers looked n

  -- what an equaliser and a volume make of frames by these numbers
  abbrev equalised : List ℤ → made.Passing
  equalised numbers blob channels frames = passed_frames blob channels numbers frames

  abbrev amplified : ℕ → List ℤ → made.Passing
  amplified over numbers = ramped_frames (numbers_from numbers) over (numbers_place numbers)

  -- by the component that is found
  abbrev law : ℕ → Option Component → ℕ → List ℤ → Type 0
  law over o channels numbers =
      option_map_or (λ x. made.frames_by x.kind x.setting (view_by t) id n read slices (equalised numbers) (amplified over numbers)) (option_map comp_by o) []
      ≡ option_map_or (λ c. made_frames c.unit channels n (chosen_by c.unit id t.joins) slices) o []

  by-unit : (over : ℕ) (c : Component) → moves_of c.unit (length looked) ≡ true → (is_volume (kind_by c.unit) ≡ true → ramp_frames_by c.unit ≡ over) → law over (Some c) (channels_of (view_by t) id) (numbers_by c.unit (channels_of (view_by t) id))
  by-unit over c e as_long = by c.unit e as_long
    where
      by : (u : units.Unit) → moves_of u (length looked) ≡ true → (is_volume (kind_by u) ≡ true → ramp_frames_by u ≡ over) → made.frames_by (kind_by u) (setting_by u) (view_by t) id n read slices (equalised (numbers_by u (channels_of (view_by t) id))) (amplified over (numbers_by u (channels_of (view_by t) id))) ≡ made_frames u (channels_of (view_by t) id) n (chosen_by u id t.joins) slices
      by (Host capture phase params piece) e as_long = absurd (false≢true e)
      by (Dai capture format piece) e as_long = absurd (false≢true e)
      by (Buffer size ring source sink) e as_long = absurd (false≢true e)
      by (Pipeline sched period complete piece) e as_long = absurd (false≢true e)
      by (Volume gains ramp from done frames piece) e as_long =
          ap (λ (q : List ℕ × ℕ × ℕ). ramped_frames q.0 q.1 q.2 gains (channels_of (view_by t) id) (only_slice slices)) (λ i. (held-from from done i, sym (as_long refl) i, held-place from done i))
      by u e as_long = refl

  pub tick-made : moves_at t id (length looked) ≡ true → (is_of (graph_of t) is_volume id ≡ true → ramp_frames_at t id ≡ ramp_length (view_by t) id) → frames_made (view_by t) id n read slices (equalised (eq_numbers_at t id)) (amplified (ramp_length (view_by t) id) (eq_numbers_at t id)) ≡ made_at t id looked n
  unfolding frames_made
  tick-made kind as_long =
      ap (λ o. option_map_or (λ x. made.frames_by x.kind x.setting (view_by t) id n read slices (equalised (eq_numbers_at t id)) (amplified (ramp_length (view_by t) id) (eq_numbers_at t id))) o []) (find-comp id t.comps)
      ∙ found (ramp_length (view_by t) id) (find (λ c. c.id == id) t.comps) kind wide (λ is. as_long (ap (λ (o : Option Comp). option_map_or (λ x. is_volume x.kind) o false) (find-comp id t.comps) ∙ is))
    where
      found : (over : ℕ) (o : Option Component) → option_map_or (λ c. moves_of c.unit (length looked)) o false ≡ true → channels_of (view_by t) id ≡ option_map_or (λ c. c.channels) o 0 →
          (option_map_or (λ x. is_volume x.kind) (option_map comp_by o) false ≡ true → option_map_or (λ c. ramp_frames_by c.unit) o 0 ≡ over) →
          option_map_or (λ x. made.frames_by x.kind x.setting (view_by t) id n read slices (equalised (option_map_or (λ c. numbers_by c.unit c.channels) o [])) (amplified over (option_map_or (λ c. numbers_by c.unit c.channels) o []))) (option_map comp_by o) []
          ≡ option_map_or (λ c. made_frames c.unit c.channels n (chosen_by c.unit id t.joins) slices) o []
      found over None kind same as_long = absurd (false≢true kind)
      found over (Some c) kind same as_long = subst (λ k. law over (Some c) k (numbers_by c.unit k)) same (by-unit over c kind as_long)
