-- How joins, beginnings and frames of rings are seen in the firmware's state.
use Rattle.std.proofs.Common.{◌≡◌, refl, ap, ◌∙◌, ℕ, List, [], ◌∷◌, map, Bool, true, false, cond, ◌==◌, Some, ℤ}
use Rattle.std.proofs.lemmas.Bool.{false≢true}
use Rattle.std.specs.List.{AllByRecursion}
use Rattle.sof_base.specs.Samples.{Frame}
use Rattle.stream_law.specs.declared.graph.Edge.{Edge}
use Rattle.stream_law.specs.declared.graph.Join.{Join}
use Rattle.stream_law.specs.declared.graph.Pipe.{Pipe}
use Rattle.stream_law.specs.declared.stream.StreamView.{StreamView}
use Rattle.stream_law.specs.Joins.{joined_edge}
use Rattle.fw_units.specs.declared.component.Component.{Component}
use Rattle.fw_units.specs.declared.component.Unit as units
use Rattle.fw_units.specs.declared.component.Unit.TheVariants.{Buffer}
use Rattle.fw_units.specs.Units.{comp_by, edge_by, pipe_by, ring_by, streams_by, with_stream_by, setting_by, ramp_by, size_by, source_by, sink_by, sched_by, period_by, complete_by, is_buffer}
use Rattle.fw_units.specs.Changes.{joined_at, ended_unit, with_ended}
use Rattle.fw_units.specs.Frames.{begun_unit, begun_by, begun_at}
use Rattle.fw_components.specs.Frames.{with_frames}
use Rattle.fw_components.proofs.Joining.{joined_by}
use Rattle.fw_units.proofs.Units.{sunk-frames, sourced-frames, begun-kind, begun-frames, ended-frames}

-- what is seen of each is seen of all
pub map-seen : {Y : Type 0} (P : Component → Type 0) (view : Component → Y) (after : Y → Y) (change : Component → Component) → ((c : Component) → P c → view (change c) ≡ after (view c)) → (cs : List Component) → AllByRecursion P cs → map view (map change cs) ≡ map after (map view cs)
map-seen P view after change one [] all = refl
map-seen {Y} P view after change one (c ∷ cs) all = ap (λ (p : Y × List Y). p.0 ∷ p.1) (λ i. (one c all.0 i, map-seen P view after change one cs all.1 i))

map-after : {Y : Type 0} (view : Component → Y) (after : Y → Y) (change : Component → Component) → ((c : Component) → view (change c) ≡ after (view c)) → (cs : List Component) → map view (map change cs) ≡ map after (map view cs)
map-after view after change one [] = refl
map-after {Y} view after change one (c ∷ cs) = ap (λ (p : Y × List Y). p.0 ∷ p.1) (λ i. (one c i, map-after view after change one cs i))

pub map-same : {Y : Type 0} (view : Component → Y) (change : Component → Component) → ((c : Component) → view (change c) ≡ view c) → (cs : List Component) → map view (map change cs) ≡ map view cs
map-same view change one [] = refl
map-same {Y} view change one (c ∷ cs) = ap (λ (p : Y × List Y). p.0 ∷ p.1) (λ i. (one c i, map-same view change one cs i))

-- ---- what each change leaves of a unit

abbrev pub edge_of_unit : ℕ → ℕ → units.Unit → Edge
edge_of_unit id pipe u = record { buffer = id; pipe = pipe; size = size_by u; source = source_by u; sink = sink_by u }

abbrev pipe_of_unit : ℕ → ℕ → units.Unit → Pipe
pipe_of_unit id pipe u = record { id = id; index = pipe; sched = sched_by u; period = period_by u; complete = complete_by u }

begun-setting : (channels rate : ℕ) → (words : List ℤ) → (u : units.Unit) → setting_by (begun_unit channels rate words u) ≡ setting_by u
begun-setting channels rate words (Buffer size ring source sink) = refl
begun-setting channels rate words u = refl

begun-ramp : (channels rate : ℕ) → (words : List ℤ) → (u : units.Unit) → ramp_by (begun_unit channels rate words u) ≡ ramp_by u
begun-ramp channels rate words (Buffer size ring source sink) = refl
begun-ramp channels rate words u = refl

begun-edge : (id pipe : ℕ) → (channels rate : ℕ) → (words : List ℤ) → (u : units.Unit) → edge_of_unit id pipe (begun_unit channels rate words u) ≡ edge_of_unit id pipe u
begun-edge id pipe channels rate words (Buffer size ring source sink) = refl
begun-edge id pipe channels rate words u = refl

begun-pipe : (id pipe : ℕ) → (channels rate : ℕ) → (words : List ℤ) → (u : units.Unit) → pipe_of_unit id pipe (begun_unit channels rate words u) ≡ pipe_of_unit id pipe u
begun-pipe id pipe channels rate words (Buffer size ring source sink) = refl
begun-pipe id pipe channels rate words u = refl

begun-stream : (id : ℕ) → (channels rate : ℕ) → (words : List ℤ) → (rest : List StreamView) → (u : units.Unit) → with_stream_by id (begun_unit channels rate words u) rest ≡ with_stream_by id u rest
begun-stream id channels rate words rest (Buffer size ring source sink) = refl
begun-stream id channels rate words rest u = refl

ended-edge : (id pipe : ℕ) → (u : units.Unit) → edge_of_unit id pipe (ended_unit u) ≡ edge_of_unit id pipe u
ended-edge id pipe (Buffer size ring source sink) = refl
ended-edge id pipe u = refl

-- ---- joins

module _ (j : Join) where
  edge-joined : (c : Component) → is_buffer c.unit ≡ true → edge_by (joined_at j c) ≡ joined_edge j (edge_by c)
  edge-joined c e = by (c.id == j.source) (c.id == j.sink) c.unit e
    where
      by : (h k : Bool) (u : units.Unit) → is_buffer u ≡ true → edge_by (joined_by h k j (record { id = c.id; pipe = c.pipe; channels = c.channels; unit = u })) ≡ cond h (record { buffer = c.id; pipe = c.pipe; size = size_by u; source = source_by u; sink = Some j.sink }) (cond k (record { buffer = c.id; pipe = c.pipe; size = size_by u; source = Some j.source; sink = sink_by u }) (record { buffer = c.id; pipe = c.pipe; size = size_by u; source = source_by u; sink = sink_by u }))
      by true k (Buffer size ring source sink) e = refl
      by false true (Buffer size ring source sink) e = refl
      by false false (Buffer size ring source sink) e = refl
      by h k u e = absurd (false≢true e)

  pub edges-joined : (cs : List Component) → AllByRecursion (λ c. is_buffer c.unit ≡ true) cs → map edge_by (map (joined_at j) cs) ≡ map (joined_edge j) (map edge_by cs)
  edges-joined cs all = map-seen (λ (c : Component). is_buffer c.unit ≡ true) edge_by (joined_edge j) (joined_at j) edge-joined cs all

  ring-joined : (c : Component) → ring_by (joined_at j c) ≡ ring_by c
  ring-joined c = by (c.id == j.source) (c.id == j.sink)
    where
      by : (h k : Bool) → ring_by (joined_by h k j c) ≡ ring_by c
      by true k = ap (λ (fs : List Frame). record { buffer = c.id; frames = fs }) (sunk-frames j.sink c.unit)
      by false true = ap (λ (fs : List Frame). record { buffer = c.id; frames = fs }) (sourced-frames j.source c.unit)
      by false false = refl

  pub rings-joined : (cs : List Component) → map ring_by (map (joined_at j) cs) ≡ map ring_by cs
  rings-joined cs = map-same ring_by (joined_at j) ring-joined cs

-- ---- beginnings

module _ (id channels rate : ℕ) (words : List ℤ) where
  comp-begun : (c : Component) → comp_by (begun_at id channels rate words c) ≡ comp_by c
  comp-begun c = by (c.id == id)
    where
      by : (h : Bool) → comp_by (cond {A = Component} h (begun_by channels rate words c) c) ≡ comp_by c
      by true = λ i. record { id = c.id; kind = begun-kind channels rate words c.unit i; pipe = c.pipe; setting = begun-setting channels rate words c.unit i; ramp = begun-ramp channels rate words c.unit i }
      by false = refl

  edge-begun : (c : Component) → edge_by (begun_at id channels rate words c) ≡ edge_by c
  edge-begun c = by (c.id == id)
    where
      by : (h : Bool) → edge_by (cond {A = Component} h (begun_by channels rate words c) c) ≡ edge_by c
      by true = begun-edge c.id c.pipe channels rate words c.unit
      by false = refl

  pipe-begun : (c : Component) → pipe_by (begun_at id channels rate words c) ≡ pipe_by c
  pipe-begun c = by (c.id == id)
    where
      by : (h : Bool) → pipe_by (cond {A = Component} h (begun_by channels rate words c) c) ≡ pipe_by c
      by true = begun-pipe c.id c.pipe channels rate words c.unit
      by false = refl

  ring-begun : (c : Component) → ring_by (begun_at id channels rate words c) ≡ with_frames (λ fs. []) id (ring_by c)
  ring-begun c = by (c.id == id)
    where
      by : (h : Bool) → ring_by (cond {A = Component} h (begun_by channels rate words c) c) ≡ cond h (record { buffer = c.id; frames = [] }) (ring_by c)
      by true = ap (λ (fs : List Frame). record { buffer = c.id; frames = fs }) (begun-frames channels rate words c.unit)
      by false = refl

  pub comps-begun : (cs : List Component) → map comp_by (map (begun_at id channels rate words) cs) ≡ map comp_by cs
  comps-begun cs = map-same comp_by (begun_at id channels rate words) comp-begun cs

  pub edges-begun : (cs : List Component) → map edge_by (map (begun_at id channels rate words) cs) ≡ map edge_by cs
  edges-begun cs = map-same edge_by (begun_at id channels rate words) edge-begun cs

  pub pipes-begun : (cs : List Component) → map pipe_by (map (begun_at id channels rate words) cs) ≡ map pipe_by cs
  pipes-begun cs = map-same pipe_by (begun_at id channels rate words) pipe-begun cs

  pub rings-begun : (cs : List Component) → map ring_by (map (begun_at id channels rate words) cs) ≡ map (with_frames (λ fs. []) id) (map ring_by cs)
  rings-begun cs = map-after ring_by (with_frames (λ fs. []) id) (begun_at id channels rate words) ring-begun cs

  pub streams-begun : (cs : List Component) → streams_by (map (begun_at id channels rate words) cs) ≡ streams_by cs
  streams-begun [] = refl
  streams-begun (c ∷ cs) = by (c.id == id) ∙ ap (with_stream_by c.id c.unit) (streams-begun cs)
    where
      by : (h : Bool) → with_stream_by (cond {A = Component} h (begun_by channels rate words c) c).id (cond {A = Component} h (begun_by channels rate words c) c).unit (streams_by (map (begun_at id channels rate words) cs)) ≡ with_stream_by c.id c.unit (streams_by (map (begun_at id channels rate words) cs))
      by true = begun-stream c.id channels rate words (streams_by (map (begun_at id channels rate words) cs)) c.unit
      by false = refl

-- ---- endings

module _ (id : ℕ) where
  edge-ended : (c : Component) → edge_by (with_ended id c) ≡ edge_by c
  edge-ended c = by (c.id == id)
    where
      by : (h : Bool) → edge_by (cond {A = Component} h (record { id = c.id; pipe = c.pipe; channels = c.channels; unit = ended_unit c.unit }) c) ≡ edge_by c
      by true = ended-edge c.id c.pipe c.unit
      by false = refl

  ring-ended : (c : Component) → ring_by (with_ended id c) ≡ with_frames (λ fs. []) id (ring_by c)
  ring-ended c = by (c.id == id)
    where
      by : (h : Bool) → ring_by (cond {A = Component} h (record { id = c.id; pipe = c.pipe; channels = c.channels; unit = ended_unit c.unit }) c) ≡ cond h (record { buffer = c.id; frames = [] }) (ring_by c)
      by true = ap (λ (fs : List Frame). record { buffer = c.id; frames = fs }) (ended-frames c.unit)
      by false = refl

  pub edges-ended : (cs : List Component) → map edge_by (map (with_ended id) cs) ≡ map edge_by cs
  edges-ended cs = map-same edge_by (with_ended id) edge-ended cs

  pub rings-ended : (cs : List Component) → map ring_by (map (with_ended id) cs) ≡ map (with_frames (λ fs. []) id) (map ring_by cs)
  rings-ended cs = map-after ring_by (with_frames (λ fs. []) id) (with_ended id) ring-ended cs
