-- A component, a buffer or a pipeline more.
use Rattle.std.proofs.Common.{◌≡◌, refl, sym, ap, subst, ℕ, ◌+◌, ◌<◌, ◌≤◌, List, [], map, length, filter, None, Bool, true, false, cond, ◌==◌, ◌&&◌, arith}
use Rattle.std.proofs.lemmas.Bool.{or_parts}
use Rattle.std.proofs.lemmas.List.{length-map}
use Rattle.std.specs.Prelude.{option_map}
use Rattle.std.specs.List.{IsDistinct, list_any, AllByRecursion}
use Rattle.stream_law.specs.declared.graph.Kind.{Kind}
use Rattle.stream_law.specs.declared.graph.Kind.TheVariants.{HostPlay, HostCapture}
use Rattle.stream_law.specs.declared.graph.Setting.{Setting}
use Rattle.stream_law.specs.declared.graph.Comp.{Comp}
use Rattle.stream_law.specs.declared.graph.Edge.{Edge}
use Rattle.stream_law.specs.declared.graph.Pipe.{Pipe}
use Rattle.stream_law.specs.declared.graph.Graph.{Graph}
use Rattle.stream_law.specs.declared.stream.Phase.TheVariants.{Idle}
use Rattle.stream_law.specs.declared.stream.StreamView.{StreamView}
use Rattle.stream_law.specs.Placed.{placed, Ascends, HasDistinct}
use Rattle.stream_law.specs.State.{FwState, HeapView, View, RingView, view_of}
use Rattle.stream_law.specs.Ways.{comp_of, components, live}
use Rattle.stream_law.specs.Seen.{flows, ring_seen, remembers}
use Rattle.stream_law.proofs.Placing.{length-placed, find-placed_apart, Ascends-placed, HasDistinct-placed}
use Rattle.ipc3_model.specs.Allowed.{is_buffer_size, is_period_allowed}
use Rattle.mbox_link.specs.Step.{comp_bytes, buffer_bytes, pipe_bytes, heap_with_piece, with_comp, with_buffer, with_pipe, with_pipes, with_host_stream, completed, has_hole, has_index, is_used, has_comp, has_edge, has_pipe}
use Rattle.row_laws.specs.Tiled.{IsTiled, heap_bytes}
use Rattle.row_laws.specs.Wired.{is_node}
use Rattle.row_laws.specs.Kept.{FirmwareInvariant, IsSettingOf, IsRampOf, ArePieces}
use Rattle.row_laws.proofs.Ascending.{ascends-keys, distinct-placed, indices-completed}
use Rattle.row_laws.proofs.Fewer.{none-each, all-filter, all-any}
use Rattle.row_laws.proofs.Growing.{all-placed, all-by, hosts-apart, no-host, fresh_stream, brought, played-wider, wired-wider, live-wider, flows-wider, rate-wider, channels-wider}
use Rattle.row_laws.proofs.Histories.{IsAlike, alike-comp, remembered-placed, remembered-same, histories-by, all-ids, every}
use Rattle.row_laws.proofs.Linking.{linked-wider, linked-longer, linked-other}
use Rattle.row_laws.proofs.Longer.{played-longer, wired-longer, live-longer, flows-longer, rate-longer, channels-longer, played-other, wired-other, live-other, flows-other, rate-other, channels-other, complete-placed, complete-completed, periods-completed}
use Rattle.row_laws.proofs.Pieced.{no-piece, pieces-comp, pieces-edge, pieces-pipe, pieces-completed, ids-completed, each-completed}
use Rattle.row_laws.proofs.RingViews.{each-key, by-keys, keys-placed, seen-each, seen-all, seen-same}
use Rattle.row_laws.proofs.Sides.{sides-placed}
use Rattle.row_laws.proofs.Stagings.{staged-all, staged-other}
use Rattle.row_laws.proofs.Tiling.{new_piece, carve-tiled, retiled}
use Rattle.row_laws.proofs.Unreached.{eqb-turned}

stream-length : (id : ℕ) (kind : Kind) (streams : List StreamView) → length (with_host_stream id kind streams) ≤ length streams + 1
stream-length id HostPlay streams = omega (arith, length-placed (λ (s : StreamView). s.host) (record { host = id; phase = Idle; params = None }) streams)
stream-length id HostCapture streams = omega (arith, length-placed (λ (s : StreamView). s.host) (record { host = id; phase = Idle; params = None }) streams)
stream-length id kind streams = omega arith

-- a component takes some bytes
comp-some : (kind : Kind) → 0 < comp_bytes kind
comp-some HostPlay = omega arith
comp-some kind = omega arith

-- an id that names nothing
pub no-pipe : (g : Graph) (id : ℕ) → is_used g id ≡ false → has_pipe g id ≡ false
no-pipe g id e = (or_parts (is_node g id) (has_pipe g id) e).1

pub unused-node : (g : Graph) (id : ℕ) → is_used g id ≡ false → is_node g id ≡ false
unused-node g id e = (or_parts (is_node g id) (has_pipe g id) e).0

module _ (f : FwState) (kept : FirmwareInvariant f) where
  abbrev view : View
  view = view_of f

  -- ---- a component

  module _ (id pipe : ℕ) (kind : Kind) (setting : Setting) (ramp : ℕ) (few : length f.graph.comps < 128) (unused : is_used f.graph id ≡ false) (there : has_hole f (comp_bytes kind) ≡ true) (fits : IsSettingOf kind setting) (ramps : IsRampOf kind ramp) where
    abbrev c : Comp
    c = record { id = id; kind = kind; pipe = pipe; setting = setting; ramp = ramp }

    abbrev wide : View
    wide = view_of (with_comp id pipe kind setting ramp f)

    gone : is_node f.graph id ≡ false
    gone = unused-node f.graph id unused

    no-comp : has_comp f.graph id ≡ false
    no-comp = (or_parts (has_comp f.graph id) (has_edge f.graph id) gone).0

    found : (n : ℕ) → (n == id) ≡ false → comp_of wide.graph n ≡ comp_of f.graph n
    found n other = find-placed_apart (λ x. x.id == n) (λ x. x.id) c f.graph.comps (eqb-turned n id other)

    alike-wider : AllByRecursion (IsAlike view wide) (filter (remembers view) (components f.graph))
    alike-wider = all-filter (remembers view) (IsAlike view wide) (components f.graph) (all-ids (IsAlike view wide) f.graph.comps
        (all-by (λ x. (x.id == id) ≡ false) (λ x. IsAlike view wide x.id) (λ x other. alike-comp view wide x.id (found x.id other) (rate-wider f.graph c gone kept.wired f.streams kept.played x.id) (channels-wider f.graph c gone kept.wired f.streams kept.played x.id)) f.graph.comps
        (none-each (λ (x : Comp). x.id == id) f.graph.comps no-comp)))

    tiled-comp : IsTiled (heap_bytes f.heap) (heap_with_piece id (comp_bytes kind) f.heap)
    tiled-comp = carve-tiled (heap_bytes f.heap) id (comp_bytes kind) f.heap kept.tiled (comp-some kind) there (no-piece f.graph f.heap id kept.pieces unused)

    -- the heap has as many bytes
    pub comp-whole : heap_bytes (heap_with_piece id (comp_bytes kind) f.heap) ≡ heap_bytes f.heap
    comp-whole = tiled-comp.whole

    pub kept-comp : FirmwareInvariant (with_comp id pipe kind setting ramp f)
    kept-comp = record {
      comps = omega (arith, few, length-placed (λ (x : Comp). x.id) c f.graph.comps);
      edges = kept.edges;
      pipes = kept.pipes;
      joins = kept.joins;
      streams = omega (arith, length-placed (λ (x : Comp). x.id) c f.graph.comps, stream-length id kind f.streams, kept.streams);
      ascending = record {
        comps = Ascends-placed (λ x. x.id) c f.graph.comps no-comp kept.ascending.comps;
        edges = kept.ascending.edges;
        pipes = kept.ascending.pipes;
        streams = brought (Ascends (λ s. s.host)) id kind f.streams kept.ascending.streams (λ host. Ascends-placed (λ s. s.host) (fresh_stream id) f.streams (no-host id f.streams (hosts-apart f.graph id no-comp f.streams kept.played.owned)) kept.ascending.streams);
        pieces = Ascends-placed (λ p. p.id) (new_piece id (comp_bytes kind) f.heap) f.heap.pieces (no-piece f.graph f.heap id kept.pieces unused) kept.ascending.pieces;
        staging = kept.ascending.staging;
      };
      indices = kept.indices;
      sizes = kept.sizes;
      settings = all-placed (λ x. IsSettingOf x.kind x.setting) (λ x. x.id) c f.graph.comps fits kept.settings;
      ramps = all-placed (λ x. IsRampOf x.kind x.ramp) (λ x. x.id) c f.graph.comps ramps kept.ramps;
      pieces = pieces-comp f.graph f.heap (comp_bytes kind) kept.pieces c;
      tiled = retiled (heap_bytes f.heap) (heap_with_piece id (comp_bytes kind) f.heap) tiled-comp;
      wired = wired-wider f.graph c gone kept.wired f.streams kept.played (no-pipe f.graph id unused);
      linked = linked-wider f.graph c kept.linked;
      played = played-wider f.graph c gone kept.wired f.streams kept.played;
      rings = kept.rings;
      seen = seen-same view wide f.rings (each-key (λ (r : RingView). r.buffer) (flows-wider f.graph c gone kept.wired f.streams kept.played) f.rings) kept.seen;
      histories = histories-by view wide f.histories (remembered-placed f.graph f.streams c wide refl no-comp gone kept.wired kept.played.owned (live-wider f.graph c gone kept.wired f.streams kept.played)) alike-wider kept.histories;
      staging = staged-other f.graph wide.graph id f.staging no-comp (λ n other. ap (option_map (λ x. x.kind)) (found n other)) kept.staging;
    }

  -- ---- a buffer

  module _ (id pipe size : ℕ) (few : length f.graph.edges < 128) (unused : is_used f.graph id ≡ false) (there : has_hole f (buffer_bytes size) ≡ true) (right : is_buffer_size size ≡ true) where
    abbrev fresh : Edge
    fresh = record { buffer = id; pipe = pipe; size = size; source = None; sink = None }

    abbrev long : View
    long = view_of (with_buffer id pipe size f)

    abbrev ring : RingView
    ring = record { buffer = id; frames = [] }

    no-node : is_node f.graph id ≡ false
    no-node = unused-node f.graph id unused

    ring-flows : AllByRecursion (λ r. flows long r.buffer ≡ flows view r.buffer) f.rings
    ring-flows = all-by (λ r. (r.buffer == id) ≡ false) (λ r. flows long r.buffer ≡ flows view r.buffer) (λ r other. flows-longer f.graph id pipe size no-node kept.wired f.streams kept.played r.buffer other) f.rings
        (by-keys (λ b. (b == id) ≡ false) (λ (r : RingView). r.buffer) (λ (e : Edge). e.buffer) f.rings f.graph.edges kept.rings (none-each (λ (e : Edge). e.buffer == id) f.graph.edges (or_parts (has_comp f.graph id) (has_edge f.graph id) no-node).1))

    stays-empty : (t : Bool) → record { buffer = id; frames = cond t [] [] } ≡ ring
    stays-empty true = refl
    stays-empty false = refl

    tiled-buffer : IsTiled (heap_bytes f.heap) (heap_with_piece id (buffer_bytes size) f.heap)
    tiled-buffer = carve-tiled (heap_bytes f.heap) id (buffer_bytes size) f.heap kept.tiled (omega arith) there (no-piece f.graph f.heap id kept.pieces unused)

    -- the heap has as many bytes
    pub buffer-whole : heap_bytes (heap_with_piece id (buffer_bytes size) f.heap) ≡ heap_bytes f.heap
    buffer-whole = tiled-buffer.whole

    pub kept-buffer : FirmwareInvariant (with_buffer id pipe size f)
    kept-buffer = record {
      comps = kept.comps;
      edges = omega (arith, few, length-placed (λ (y : Edge). y.buffer) fresh f.graph.edges);
      pipes = kept.pipes;
      joins = omega (arith, kept.joins, sides-placed (λ (y : Edge). y.buffer) fresh f.graph.edges);
      streams = kept.streams;
      ascending = record {
        comps = kept.ascending.comps;
        edges = Ascends-placed (λ y. y.buffer) fresh f.graph.edges (or_parts (has_comp f.graph id) (has_edge f.graph id) no-node).1 kept.ascending.edges;
        pipes = kept.ascending.pipes;
        streams = kept.ascending.streams;
        pieces = Ascends-placed (λ p. p.id) (new_piece id (buffer_bytes size) f.heap) f.heap.pieces (no-piece f.graph f.heap id kept.pieces unused) kept.ascending.pieces;
        staging = kept.ascending.staging;
      };
      indices = kept.indices;
      sizes = all-placed (λ y. is_buffer_size y.size ≡ true) (λ y. y.buffer) fresh f.graph.edges right kept.sizes;
      settings = kept.settings;
      ramps = kept.ramps;
      pieces = pieces-edge f.graph f.heap (buffer_bytes size) kept.pieces fresh;
      tiled = retiled (heap_bytes f.heap) (heap_with_piece id (buffer_bytes size) f.heap) tiled-buffer;
      wired = wired-longer f.graph id pipe size no-node kept.wired f.streams kept.played (no-pipe f.graph id unused);
      linked = linked-longer f.graph fresh refl refl kept.linked;
      played = played-longer f.graph id pipe size no-node kept.wired f.streams kept.played;
      rings = keys-placed (λ (r : RingView). r.buffer) (λ (e : Edge). e.buffer) ring fresh f.rings f.graph.edges kept.rings refl;
      seen = seen-all long (placed (λ r. r.buffer) ring f.rings) (all-placed (λ r. ring_seen long r ≡ r) (λ r. r.buffer) ring f.rings (stays-empty (flows long id)) (seen-each long f.rings (seen-same view long f.rings ring-flows kept.seen)));
      histories = histories-by view long f.histories (remembered-same view long refl (all-any (λ (x : Comp). live long x.id ≡ live view x.id) (λ x. live-longer f.graph id pipe size no-node kept.wired f.streams kept.played x.id) f.graph.comps))
          (every (IsAlike view long) (filter (remembers view) (components f.graph)) (λ n. alike-comp view long n refl (rate-longer f.graph id pipe size no-node kept.wired f.streams kept.played n) (channels-longer f.graph id pipe size no-node kept.wired f.streams kept.played n))) kept.histories;
      staging = staged-all f.graph long.graph f.staging (λ n. refl) kept.staging;
    }

  -- ---- other pipelines, of which as many are complete

  module _ (heap : HeapView) (pipes : List Pipe) (few : length pipes ≤ 32) (pieces : ArePieces (with_pipes pipes f.graph) heap) (tiled : IsTiled (heap_bytes heap) heap) (complete : (index : ℕ) → list_any (λ q. q.index == index && q.complete) f.graph.pipes ≡ true → list_any (λ q. q.index == index && q.complete) pipes ≡ true) (names : HasDistinct (λ p. p.id) pipes) (alone : AllByRecursion (λ p. is_node f.graph p.id ≡ false) pipes) (periods : AllByRecursion (λ p. is_period_allowed p.period ≡ true) pipes) (up : Ascends (λ p. p.id) pipes) (indices : HasDistinct (λ p. p.index) pipes) (pieces_up : Ascends (λ p. p.id) heap.pieces) where
    abbrev other : View
    other = record { graph = with_pipes pipes f.graph; streams = f.streams }

    kept-pipes : FirmwareInvariant (record f { heap = heap; graph = with_pipes pipes f.graph })
    kept-pipes = record {
      comps = kept.comps;
      edges = kept.edges;
      pipes = few;
      joins = kept.joins;
      streams = kept.streams;
      ascending = record { comps = kept.ascending.comps; edges = kept.ascending.edges; pipes = up; streams = kept.ascending.streams; pieces = pieces_up; staging = kept.ascending.staging };
      indices = indices;
      sizes = kept.sizes;
      settings = kept.settings;
      ramps = kept.ramps;
      pieces = pieces;
      tiled = tiled;
      wired = wired-other f.graph pipes f.streams kept.played kept.wired names alone periods;
      linked = linked-other f.graph pipes kept.linked;
      played = played-other f.graph pipes f.streams kept.played complete;
      rings = kept.rings;
      seen = seen-same view other f.rings (each-key (λ (r : RingView). r.buffer) (flows-other f.graph pipes f.streams kept.played) f.rings) kept.seen;
      histories = histories-by view other f.histories (remembered-same view other refl (all-any (λ (x : Comp). live other x.id ≡ live view x.id) (λ x. live-other f.graph pipes f.streams kept.played x.id) f.graph.comps))
          (every (IsAlike view other) (filter (remembers view) (components f.graph)) (λ n. alike-comp view other n refl (rate-other f.graph pipes f.streams kept.played n) (channels-other f.graph pipes f.streams kept.played n))) kept.histories;
      staging = staged-all f.graph other.graph f.staging (λ n. refl) kept.staging;
    }

  -- a pipeline
  module _ (id index sched period : ℕ) (few : length f.graph.pipes < 32) (right : is_period_allowed period ≡ true) (no_index : has_index f.graph index ≡ false) (unused : is_used f.graph id ≡ false) (there : has_hole f pipe_bytes ≡ true) where
    abbrev p : Pipe
    p = record { id = id; index = index; sched = sched; period = period; complete = false }

    tiled-pipe : IsTiled (heap_bytes f.heap) (heap_with_piece id (pipe_bytes) f.heap)
    tiled-pipe = carve-tiled (heap_bytes f.heap) id (pipe_bytes) f.heap kept.tiled (omega arith) there (no-piece f.graph f.heap id kept.pieces unused)

    -- the heap has as many bytes
    pub pipe-whole : heap_bytes (heap_with_piece id (pipe_bytes) f.heap) ≡ heap_bytes f.heap
    pipe-whole = tiled-pipe.whole

    pub kept-pipe : FirmwareInvariant (with_pipe id index sched period f)
    kept-pipe = kept-pipes (heap_with_piece id pipe_bytes f.heap) (placed (λ q. q.id) p f.graph.pipes)
        (omega (arith, few, length-placed (λ (q : Pipe). q.id) p f.graph.pipes))
        (pieces-pipe f.graph f.heap pipe_bytes kept.pieces p)
        (retiled (heap_bytes f.heap) (heap_with_piece id pipe_bytes f.heap) tiled-pipe)
        (complete-placed p f.graph.pipes)
        (HasDistinct-placed (λ q. q.id) p f.graph.pipes (no-pipe f.graph id unused) kept.wired.names)
        (all-placed (λ q. is_node f.graph q.id ≡ false) (λ q. q.id) p f.graph.pipes (unused-node f.graph id unused) kept.wired.alone)
        (all-placed (λ q. is_period_allowed q.period ≡ true) (λ q. q.id) p f.graph.pipes right kept.wired.periods)
        (Ascends-placed (λ q. q.id) p f.graph.pipes (no-pipe f.graph id unused) kept.ascending.pipes)
        (distinct-placed (λ q. q.id) (λ q. q.index) p f.graph.pipes no_index kept.indices)
        (Ascends-placed (λ q. q.id) (new_piece id pipe_bytes f.heap) f.heap.pieces (no-piece f.graph f.heap id kept.pieces unused) kept.ascending.pieces)

  -- a pipeline that is complete
  pub kept-complete : (id : ℕ) → FirmwareInvariant (record f { graph = with_pipes (map (completed id) f.graph.pipes) f.graph })
  kept-complete id = kept-pipes f.heap (map (completed id) f.graph.pipes)
      (omega (arith, kept.pipes, length-map f.graph.pipes (completed id)))
      (pieces-completed f.graph f.heap id kept.pieces)
      kept.tiled
      (complete-completed id f.graph.pipes)
      (subst (λ (ns : List ℕ). IsDistinct (λ m n. m == n) ns) (sym (ids-completed id f.graph.pipes)) kept.wired.names)
      (each-completed (λ n. is_node f.graph n ≡ false) id f.graph.pipes kept.wired.alone)
      (periods-completed id f.graph.pipes kept.wired.periods)
      (ascends-keys (λ (p : Pipe). p.id) (λ (p : Pipe). p.id) f.graph.pipes (map (completed id) f.graph.pipes) (sym (ids-completed id f.graph.pipes)) kept.ascending.pipes)
      (subst (λ (ns : List ℕ). IsDistinct (λ m n. m == n) ns) (sym (indices-completed id f.graph.pipes)) kept.indices)
      kept.ascending.pieces
