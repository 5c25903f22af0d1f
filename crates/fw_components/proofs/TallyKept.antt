-- Which changes keep the numbers of a registry.
use Rattle.std.proofs.Common.{◌≡◌, refl, sym, ap, ◌∙◌, ℕ, ℤ, List, [], ◌∷◌, Bool, true, false, cond, map, get_or, ◌==◌, ◌&&◌, Option, None}
use Rattle.std.proofs.lemmas.Bool.{or_parts, or_from}
use Rattle.std.specs.List.{list_any}
use Rattle.sof_base.specs.Samples.{Frame}
use Rattle.sof_base.specs.declared.format.Params.{Params}
use Rattle.stream_law.specs.declared.stream.Phase.{Phase}
use Rattle.stream_law.specs.declared.stream.StreamView.{StreamView}
use Rattle.stream_law.specs.Order.{is_among}
use Rattle.stream_law.specs.Ways.{on_way, is_running_phase, is_live_phase}
use Rattle.sof_base.specs.declared.part.Part.{Part}
use Rattle.fw_places.specs.Walks.{place_in}
use Rattle.fw_units.specs.declared.component.Component.{Component}
use Rattle.fw_units.specs.declared.component.Unit as units
use Rattle.fw_units.specs.declared.component.Unit.TheVariants.{Host, Buffer}
use Rattle.fw_components.specs.declared.tallies.Tallies.{Tallies}
use Rattle.fw_components.specs.Tables.{Tables, ids_of, graph_of}
use Rattle.fw_units.specs.Units.{kind_by, edge_by, size_by, source_by, sink_by, with_stream_by, streams_by}
use Rattle.fw_units.specs.Changes.{with_ended, ended_unit, set_at, set_unit}
use Rattle.fw_units.specs.Frames.{begun_at, begun_by, begun_unit, pushed_at, pushed_by, pushed_unit, taken_at, taken_by, taken_unit}
use Rattle.fw_components.specs.Parts.{parted_at, parted_by, parted_unit}
use Rattle.fw_moves.specs.Processed.{drained_at, fed_at, run_at, run_by, run_unit}
use Rattle.fw_units.specs.Values.{valued_at, valued_unit}
use Rattle.fw_components.specs.Tally.{IsTallied, passes, has_phase, params_in}
use Rattle.fw_components.proofs.HostWays.{changed-ways}
use Rattle.fw_components.proofs.Tallying.{told, ahead, host-told, phase-live, runs-live, same-ids, map-ids, comps-tallied, buffers-tallied}
use Rattle.fw_moves.proofs.MovedLaws.{fed-id}
use Rattle.fw_units.proofs.Units.{begun-kind, valued-kind}

-- ---- each change keeps streams and kinds

begun-stream : (channels rate : ℕ) (words : List ℤ) (id : ℕ) (ss : List StreamView) (u : units.Unit) → with_stream_by id (begun_unit channels rate words u) ss ≡ with_stream_by id u ss
begun-stream channels rate words id ss (Buffer size ring source sink) = refl
begun-stream channels rate words id ss u = refl

valued-stream : (values : List ℕ) (id : ℕ) (ss : List StreamView) (u : units.Unit) → with_stream_by id (valued_unit values u) ss ≡ with_stream_by id u ss
valued-stream values id ss (Buffer size ring source sink) = refl
valued-stream values id ss u = refl

parted-stream : (part : Part) (words : List ℤ) (id : ℕ) (ss : List StreamView) (u : units.Unit) → with_stream_by id (parted_unit id part words u) ss ≡ with_stream_by id u ss
parted-stream part words id ss (Buffer size ring source sink) = refl
parted-stream part words id ss u = refl

parted-kind : (id : ℕ) → (part : Part) → (words : List ℤ) → (u : units.Unit) → kind_by (parted_unit id part words u) ≡ kind_by u
parted-kind id part words (Buffer size ring source sink) = refl
parted-kind id part words u = refl

run-stream : (words : List ℤ) (n id : ℕ) (ss : List StreamView) (u : units.Unit) → with_stream_by id (run_unit words n u) ss ≡ with_stream_by id u ss
run-stream words n id ss (Buffer size ring source sink) = refl
run-stream words n id ss u = refl

run-kind : (words : List ℤ) → (n : ℕ) → (u : units.Unit) → kind_by (run_unit words n u) ≡ kind_by u
run-kind words n (Buffer size ring source sink) = refl
run-kind words n u = refl

-- another unit
abbrev with_unit : (units.Unit → units.Unit) → Component → Component
with_unit f c = record { id = c.id; pipe = c.pipe; channels = c.channels; unit = f c.unit }

-- a change at one id keeps what it keeps
at-same : {Y : Type 0} (view : Component → Y) (change : Component → Component) → ((c : Component) → view (change c) ≡ view c) → (id : ℕ) (c : Component) → view (cond (c.id == id) (change c) c) ≡ view c
at-same view change same id c = by (c.id == id)
  where
    by : (h : Bool) → view (cond {A = Component} h (change c) c) ≡ view c
    by true = same c
    by false = refl

drained-id : (looked : List ℕ) (n : ℕ) (c : Component) → (drained_at looked n c).id ≡ c.id
drained-id looked n c = by (is_among looked c.id)
  where
    by : (h : Bool) → (cond {A = Component} h (taken_by n c) c).id ≡ c.id
    by true = refl
    by false = refl

-- ---- the edges of buffers

edges-same : (change : Component → Component) → ((c : Component) → edge_by (change c) ≡ edge_by c) → (cs : List Component) → map edge_by (map change cs) ≡ map edge_by cs
edges-same change same [] = refl
edges-same change same (c ∷ cs) = (λ i. same c i ∷ edges-same change same cs i)

-- another unit of the same size and sides
edge-same : (f : units.Unit → units.Unit) → ((u : units.Unit) → (size_by (f u) ≡ size_by u) × (source_by (f u) ≡ source_by u) × (sink_by (f u) ≡ sink_by u)) → (c : Component) → edge_by (with_unit f c) ≡ edge_by c
edge-same f same c = λ i. record { buffer = c.id; pipe = c.pipe; size = (same c.unit).0 i; source = (same c.unit).1 i; sink = (same c.unit).2 i }

begun-edge : (channels rate : ℕ) (words : List ℤ) (c : Component) → edge_by (begun_by channels rate words c) ≡ edge_by c
begun-edge channels rate words c = edge-same (begun_unit channels rate words) by c
  where
    by : (u : units.Unit) → (size_by (begun_unit channels rate words u) ≡ size_by u) × (source_by (begun_unit channels rate words u) ≡ source_by u) × (sink_by (begun_unit channels rate words u) ≡ sink_by u)
    by (Buffer size ring source sink) = (refl, refl, refl)
    by u = (refl, refl, refl)

pushed-edge : (frames : List Frame) (words : List ℤ) (c : Component) → edge_by (pushed_by frames words c) ≡ edge_by c
pushed-edge frames words c = edge-same (pushed_unit frames words) by c
  where
    by : (u : units.Unit) → (size_by (pushed_unit frames words u) ≡ size_by u) × (source_by (pushed_unit frames words u) ≡ source_by u) × (sink_by (pushed_unit frames words u) ≡ sink_by u)
    by (Buffer size ring source sink) = (refl, refl, refl)
    by u = (refl, refl, refl)

taken-edge : (n : ℕ) (c : Component) → edge_by (taken_by n c) ≡ edge_by c
taken-edge n c = edge-same (taken_unit n) by c
  where
    by : (u : units.Unit) → (size_by (taken_unit n u) ≡ size_by u) × (source_by (taken_unit n u) ≡ source_by u) × (sink_by (taken_unit n u) ≡ sink_by u)
    by (Buffer size ring source sink) = (refl, refl, refl)
    by u = (refl, refl, refl)

ended-edge : (c : Component) → edge_by (with_unit ended_unit c) ≡ edge_by c
ended-edge c = edge-same ended_unit by c
  where
    by : (u : units.Unit) → (size_by (ended_unit u) ≡ size_by u) × (source_by (ended_unit u) ≡ source_by u) × (sink_by (ended_unit u) ≡ sink_by u)
    by (Buffer size ring source sink) = (refl, refl, refl)
    by u = (refl, refl, refl)

drained-edge : (looked : List ℕ) (n : ℕ) (c : Component) → edge_by (drained_at looked n c) ≡ edge_by c
drained-edge looked n c = by (is_among looked c.id)
  where
    by : (h : Bool) → edge_by (cond {A = Component} h (taken_by n c) c) ≡ edge_by c
    by true = taken-edge n c
    by false = refl

fed-edge : (fed : List ℕ) (frames : ℕ → List Frame) (words : ℕ → List ℤ) (c : Component) → edge_by (fed_at fed frames words c) ≡ edge_by c
fed-edge fed frames words c = by (is_among fed c.id)
  where
    by : (h : Bool) → edge_by (cond {A = Component} h (pushed_by (frames c.id) (words c.id) c) c) ≡ edge_by c
    by true = pushed-edge (frames c.id) (words c.id) c
    by false = refl

-- ---- a stream that is in no such phase, before nor after

-- a component of this id is a host in such a phase
abbrev is-in : (Phase → Bool) → ℕ → Component → Bool
is-in is id c = c.id == id && has_phase is c.unit

set-none : (is : Phase → Bool) (phase : Phase) (params : Option Params) → is phase ≡ false → (u : units.Unit) → has_phase is (set_unit phase params u) ≡ false
set-none is phase params none (Host capture was before piece) = none
set-none is phase params none u = refl

set-kind : (phase : Phase) (params : Option Params) (u : units.Unit) → kind_by (set_unit phase params u) ≡ kind_by u
set-kind phase params (Host capture was before piece) = refl
set-kind phase params u = refl

module _ (is : Phase → Bool) (id : ℕ) (phase : Phase) (params : Option Params) (none : is phase ≡ false) (way : ℕ → ℕ → Bool) (x : ℕ) where
  set-told : (cs : List Component) → list_any (is-in is id) cs ≡ false → told (passes is way x) (streams_by (map (set_at id phase params) cs)) ≡ told (passes is way x) (streams_by cs)
  set-told [] out = refl
  set-told (c ∷ cs) out =
      let parts = or_parts (is-in is id c) (list_any (is-in is id) cs) out in
      by (c.id == id) parts.0 (set-told cs parts.1)
    where
      set : Component
      set = with_unit (set_unit phase params) c

      -- a stream that does not pass adds nothing
      off : (u : units.Unit) (ss : List StreamView) → has_phase is u ≡ false → told (passes is way x) (with_stream_by c.id u ss) ≡ told (passes is way x) ss
      off u ss away = host-told is way x c.id u ss ∙ ap (λ h. ahead (passes is way x) (h && way c.id x) (params_in u) (told (passes is way x) ss)) away

      by : (h : Bool) → (h && has_phase is c.unit) ≡ false → told (passes is way x) (streams_by (map (set_at id phase params) cs)) ≡ told (passes is way x) (streams_by cs)
          → told (passes is way x) (streams_by (cond {A = Component} h set c ∷ map (set_at id phase params) cs)) ≡ told (passes is way x) (with_stream_by c.id c.unit (streams_by cs))
      by true none_now rest = off (set_unit phase params c.unit) _ (set-none is phase params none c.unit) ∙ rest ∙ sym (off c.unit (streams_by cs) none_now)
      by false any rest =
          host-told is way x c.id c.unit _
          ∙ ap (ahead (passes is way x) (has_phase is c.unit && way c.id x) (params_in c.unit)) rest
          ∙ sym (host-told is way x c.id c.unit (streams_by cs))

-- what is not Live is not Running
in-live : (id : ℕ) (c : Component) → is-in is_live_phase id c ≡ false → is-in is_running_phase id c ≡ false
in-live id c out = by (c.id == id) out
  where
    by : (h : Bool) → (h && has_phase is_live_phase c.unit) ≡ false → (h && has_phase is_running_phase c.unit) ≡ false
    by true none = runs-live c.unit none
    by false none = refl

any-live : (id : ℕ) (cs : List Component) → list_any (is-in is_live_phase id) cs ≡ false → list_any (is-in is_running_phase id) cs ≡ false
any-live id [] out = refl
any-live id (c ∷ cs) out =
    let parts = or_parts (is-in is_live_phase id c) (list_any (is-in is_live_phase id) cs) out in
    or_from (is-in is_running_phase id c) (list_any (is-in is_running_phase id) cs) (in-live id c parts.0) (any-live id cs parts.1)

-- ---- the tables after a change

module _ (t : Tables) (s : Tallies) (tied : IsTallied t s) (id : ℕ) where
  pub begun-tallied : (channels rate : ℕ) (words : List ℤ) (new : List Component) → new ≡ map (begun_at id channels rate words) t.comps → IsTallied (record { comps = new; buffers = t.buffers; pipes = t.pipes; joins = t.joins }) s
  begun-tallied channels rate words new is = comps-tallied t s tied (begun_at id channels rate words) new is
      (at-same (λ c. c.id) (begun_by channels rate words) (λ c. refl) id)
      (λ c ss. at-same (λ c. with_stream_by c.id c.unit ss) (begun_by channels rate words) (λ c. begun-stream channels rate words c.id ss c.unit) id c)
      (at-same (λ c. kind_by c.unit) (begun_by channels rate words) (λ c. begun-kind channels rate words c.unit) id)

  pub valued-tallied : (values : List ℕ) (new : List Component) → new ≡ map (valued_at id values) t.comps → IsTallied (record { comps = new; buffers = t.buffers; pipes = t.pipes; joins = t.joins }) s
  valued-tallied values new is = comps-tallied t s tied (valued_at id values) new is
      (at-same (λ c. c.id) (with_unit (valued_unit values)) (λ c. refl) id)
      (λ c ss. at-same (λ c. with_stream_by c.id c.unit ss) (with_unit (valued_unit values)) (λ c. valued-stream values c.id ss c.unit) id c)
      (at-same (λ c. kind_by c.unit) (with_unit (valued_unit values)) (λ c. valued-kind values c.unit) id)

  pub parted-tallied : (part : Part) (words : List ℤ) (new : List Component) → new ≡ map (parted_at id part words) t.comps → IsTallied (record { comps = new; buffers = t.buffers; pipes = t.pipes; joins = t.joins }) s
  parted-tallied part words new is = comps-tallied t s tied (parted_at id part words) new is
      (at-same (λ c. c.id) (parted_by part words) (λ c. refl) id)
      (λ c ss. at-same (λ c. with_stream_by c.id c.unit ss) (parted_by part words) (λ c. parted-stream part words c.id ss c.unit) id c)
      (at-same (λ c. kind_by c.unit) (parted_by part words) (λ c. parted-kind c.id part words c.unit) id)

  pub begun-buffers-tallied : (channels rate : ℕ) (words : List ℤ) (new : List Component) → new ≡ map (begun_at id channels rate words) t.buffers → IsTallied (record { comps = t.comps; buffers = new; pipes = t.pipes; joins = t.joins }) s
  begun-buffers-tallied channels rate words new is = buffers-tallied t s tied (begun_at id channels rate words) new is (at-same (λ c. c.id) (begun_by channels rate words) (λ c. refl) id) (edges-same (begun_at id channels rate words) (at-same edge_by (begun_by channels rate words) (λ c. begun-edge channels rate words c) id) t.buffers)

  pub pushed-tallied : (frames : List Frame) (words : List ℤ) (new : List Component) → new ≡ map (pushed_at id frames words) t.buffers → IsTallied (record { comps = t.comps; buffers = new; pipes = t.pipes; joins = t.joins }) s
  pushed-tallied frames words new is = buffers-tallied t s tied (pushed_at id frames words) new is (at-same (λ c. c.id) (pushed_by frames words) (λ c. refl) id) (edges-same (pushed_at id frames words) (at-same edge_by (pushed_by frames words) (pushed-edge frames words) id) t.buffers)

  pub taken-tallied : (n : ℕ) (new : List Component) → new ≡ map (taken_at id n) t.buffers → IsTallied (record { comps = t.comps; buffers = new; pipes = t.pipes; joins = t.joins }) s
  taken-tallied n new is = buffers-tallied t s tied (taken_at id n) new is (at-same (λ c. c.id) (taken_by n) (λ c. refl) id) (edges-same (taken_at id n) (at-same edge_by (taken_by n) (taken-edge n) id) t.buffers)

  pub ended-tallied : (new : List Component) → new ≡ map (with_ended id) t.buffers → IsTallied (record { comps = t.comps; buffers = new; pipes = t.pipes; joins = t.joins }) s
  ended-tallied new is = buffers-tallied t s tied (with_ended id) new is (at-same (λ c. c.id) (with_unit ended_unit) (λ c. refl) id) (edges-same (with_ended id) (at-same edge_by (with_unit ended_unit) ended-edge id) t.buffers)

  pub processed-tallied : (n : ℕ) (looked fed : List ℕ) (frames : ℕ → List Frame) (w : List ℤ) (v : ℕ → List ℤ) (comps buffers : List Component) → comps ≡ map (run_at id w n) t.comps → buffers ≡ map (fed_at fed frames v) (map (drained_at looked n) t.buffers) → IsTallied (record { comps = comps; buffers = buffers; pipes = t.pipes; joins = t.joins }) s
  processed-tallied n looked fed frames w v comps buffers run moved =
      let one = comps-tallied t s tied (run_at id w n) comps run
      (at-same (λ c. c.id) (run_by w n) (λ c. refl) id)
      (λ c ss. at-same (λ c. with_stream_by c.id c.unit ss) (run_by w n) (λ c. run-stream w n c.id ss c.unit) id c)
      (at-same (λ c. kind_by c.unit) (run_by w n) (λ c. run-kind w n c.unit) id) in
      let drained = map (drained_at looked n) t.buffers in
      let two = buffers-tallied (record { comps = comps; buffers = t.buffers; pipes = t.pipes; joins = t.joins }) s one (drained_at looked n) drained refl (drained-id looked n) (edges-same (drained_at looked n) (drained-edge looked n) t.buffers) in
      buffers-tallied (record { comps = comps; buffers = drained; pipes = t.pipes; joins = t.joins }) s two (fed_at fed frames v) buffers moved (fed-id fed frames v) (edges-same (fed_at fed frames v) (fed-edge fed frames v) drained)

  -- the stream of a host was not counted, nor is
  pub set-tallied : (phase : Phase) (params : Option Params) → is_live_phase phase ≡ false → list_any (is-in is_live_phase id) t.comps ≡ false → (new : List Component) → new ≡ map (set_at id phase params) t.comps → IsTallied (record { comps = new; buffers = t.buffers; pipes = t.pipes; joins = t.joins }) s
  set-tallied phase params none out new is = record {
    runs = λ x there. at (λ (ids : List ℕ). get_or s.running (place_in ids x) 0) ∙ tied.runs x (listed x there) ∙ sym (ap (λ (a : ℕ × Option Params). a.0) (same is_running_phase (phase-live phase none) (any-live id t.comps out) x));
    lives = λ x there. at (λ (ids : List ℕ). get_or s.live (place_in ids x) 0) ∙ tied.lives x (listed x there) ∙ sym (ap (λ (a : ℕ × Option Params). a.0) (same is_live_phase none out x));
    firsts = λ x there. at (λ (ids : List ℕ). get_or s.params (place_in ids x) None) ∙ tied.firsts x (listed x there) ∙ sym (ap (λ (a : ℕ × Option Params). a.1) (same is_live_phase none out x));
  }
    where
      u : Tables
      u = record { comps = new; buffers = t.buffers; pipes = t.pipes; joins = t.joins }

      own : (c : Component) → (set_at id phase params c).id ≡ c.id
      own = at-same (λ c. c.id) (with_unit (set_unit phase params)) (λ c. refl) id

      ids : ids_of u ≡ ids_of t
      ids = same-ids t u (ap (map (λ c. c.id)) is ∙ map-ids (set_at id phase params) own t.comps) refl

      at : {Y : Type 0} (f : List ℕ → Y) → f (ids_of u) ≡ f (ids_of t)
      at f = ap f ids

      listed : (x : ℕ) → is_among (ids_of u) x ≡ true → is_among (ids_of t) x ≡ true
      listed x there = ap (λ (xs : List ℕ). is_among xs x) (sym ids) ∙ there

      ways : (host x : ℕ) → on_way (graph_of u) host x ≡ on_way (graph_of t) host x
      ways = changed-ways t (set_at id phase params) new is own (at-same (λ c. kind_by c.unit) (with_unit (set_unit phase params)) (λ c. set-kind phase params c.unit) id)

      same : (f : Phase → Bool) → f phase ≡ false → list_any (is-in f id) t.comps ≡ false → (x : ℕ) → told (passes f (on_way (graph_of u)) x) (streams_by new) ≡ told (passes f (on_way (graph_of t)) x) (streams_by t.comps)
      same f off away x =
          (λ i. told (passes f (λ host x. ways host x i) x) (streams_by (is i)))
          ∙ set-told f id phase params off (on_way (graph_of t)) x t.comps away
