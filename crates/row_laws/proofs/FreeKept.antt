-- A component, a buffer or a pipeline less.
use Rattle.std.proofs.Common.{◌≡◌, refl, sym, ap, ◌∙◌, subst, ℕ, List, [], ◌∷◌, filter, Some, Bool, true, false, cond, not, ◌==◌, ◌||◌, arith}
use Rattle.std.proofs.lemmas.Bool.{true≢false, false_from_ne_true, or_parts, eqb-true}
use Rattle.std.specs.Prelude.{find, option_map, is_some}
use Rattle.std.specs.List.{list_any, AllByRecursion}
use Rattle.stream_law.specs.declared.graph.Comp.{Comp}
use Rattle.stream_law.specs.declared.graph.Edge.{Edge}
use Rattle.stream_law.specs.declared.graph.Pipe.{Pipe}
use Rattle.stream_law.specs.declared.stream.StreamView.{StreamView}
use Rattle.stream_law.specs.State.{FwState, PieceView, View, RingView, Staging, view_of}
use Rattle.stream_law.specs.Ways.{comp_of, components, live, rate_of, channels_of, agree}
use Rattle.stream_law.specs.Joins.{stays}
use Rattle.stream_law.specs.Seen.{flows, ring_seen, remembers}
use Rattle.stream_law.proofs.Placing.{Ascends-filter}
use Rattle.ipc3_model.specs.Allowed.{is_buffer_size}
use Rattle.mbox_link.specs.Step.{has_kind, is_host, kind_at, without_piece, without_comp, without_edge, without_buffer, without_pipe, touches, has_comp, has_edge, is_held, is_index_held}
use Rattle.row_laws.specs.Tiled.{heap_bytes}
use Rattle.row_laws.specs.Wired.{is_node}
use Rattle.row_laws.specs.Played.{AreStreamsPlayable}
use Rattle.row_laws.specs.Kept.{FirmwareInvariant, IsSettingOf, IsRampOf, IsStaged, has_piece}
use Rattle.row_laws.proofs.Fewer.{all-kept, all-filter, all-both, all-any, filter-every, length-filter, none-each, keys-left, not-true, distinct-filter}
use Rattle.row_laws.proofs.Growing.{all-by}
use Rattle.row_laws.proofs.SameWays.{played-same, agree-same, live-same, rate-same, channels-same, flows-same}
use Rattle.row_laws.proofs.Histories.{IsAlike, alike-comp, remembered-same, remembered-left, histories-by, histories-less, every}
use Rattle.row_laws.proofs.FewerPieces.{HasOther, pieces-less}
use Rattle.row_laws.proofs.FewerComps.{comp-other, streams-few, used-other, linked-comp_less, wired-comp_less, bare-comp, ways-comp, owned-comp, ready-comp, nodes-comp, echo-comp}
use Rattle.row_laws.proofs.FewerEdges.{source-left, sink-left, used-left, wired-edge_less, linked-edge_less, joins-left, bare-edge, stayed-edge, ways-edge, ready-edge}
use Rattle.row_laws.proofs.FewerPipes.{ways-pipe, echo-pipe, bare-pipe, ready-pipe, used-pipe, linked-pipe_less, wired-pipe_less}
use Rattle.row_laws.proofs.RingViews.{each-key, seen-each, seen-all, seen-same}
use Rattle.row_laws.proofs.Stagings.{staged-same, staged-all}
use Rattle.row_laws.proofs.Tiling.{give-tiled, retiled}

-- ids of which none is this one
others : {X : Type 0} (key : X → ℕ) (id : ℕ) (P : X → Type 0) (xs : List X) → ((x : X) → P x → (key x == id) ≡ true → ⊥) → AllByRecursion P xs → AllByRecursion (λ x. (key x == id) ≡ false) xs
others key id P xs f all = all-by P (λ x. (key x == id) ≡ false) (λ x p. false_from_ne_true (key x == id) (f x p)) xs all

none-any : (id : ℕ) (es : List Edge) → AllByRecursion (λ e. (e.buffer == id) ≡ false) es → list_any (λ e. e.buffer == id) es ≡ false
none-any id [] all = refl
none-any id (e ∷ es) all = ap (λ h. h || list_any (λ e. e.buffer == id) es) all.0 ∙ none-any id es all.1

module _ (f : FwState) (kept : FirmwareInvariant f) where
  abbrev view : View
  view = view_of f

  -- a component and a buffer are of two ids
  edges-apart : (id : ℕ) → has_comp f.graph id ≡ true → has_edge f.graph id ≡ true → ⊥
  edges-apart id comp edge = true≢false (sym edge ∙ none-any id f.graph.edges (others (λ (e : Edge). e.buffer) id (λ e. has_comp f.graph e.buffer ≡ false) f.graph.edges (λ e none same. true≢false (sym comp ∙ ap (has_comp f.graph) (sym (eqb-true e.buffer id same)) ∙ none)) kept.wired.apart))

  pub no-buffer : (id : ℕ) → has_comp f.graph id ≡ true → has_edge f.graph id ≡ false
  no-buffer id comp = false_from_ne_true (has_edge f.graph id) (edges-apart id comp)

  pub no-comp : (id : ℕ) → has_edge f.graph id ≡ true → has_comp f.graph id ≡ false
  no-comp id edge = false_from_ne_true (has_comp f.graph id) (λ comp. edges-apart id comp edge)

  -- the pieces of buffers, where none has this id
  edge-pieces : (id : ℕ) → has_edge f.graph id ≡ false → AllByRecursion (λ e. HasOther id f.heap e.buffer) f.graph.edges
  edge-pieces id none = all-both (λ e. (e.buffer == id) ≡ false) (λ e. has_piece f.heap e.buffer ≡ true) f.graph.edges (none-each (λ (e : Edge). e.buffer == id) f.graph.edges none) kept.pieces.edges

  comp-pieces : (id : ℕ) → has_comp f.graph id ≡ false → AllByRecursion (λ c. HasOther id f.heap c.id) f.graph.comps
  comp-pieces id none = all-both (λ c. (c.id == id) ≡ false) (λ c. has_piece f.heap c.id ≡ true) f.graph.comps (none-each (λ (c : Comp). c.id == id) f.graph.comps none) kept.pieces.comps

  -- and those of pipelines, which have no id of a component or a buffer
  pipe-pieces : (id : ℕ) → is_node f.graph id ≡ true → AllByRecursion (λ p. HasOther id f.heap p.id) f.graph.pipes
  pipe-pieces id node = all-both (λ p. (p.id == id) ≡ false) (λ p. has_piece f.heap p.id ≡ true) f.graph.pipes
      (others (λ (p : Pipe). p.id) id (λ p. is_node f.graph p.id ≡ false) f.graph.pipes (λ p none same. true≢false (sym node ∙ ap (is_node f.graph) (sym (eqb-true p.id id same)) ∙ none)) kept.wired.alone) kept.pieces.pipes

  -- a heap of which a piece is given back has as many bytes
  pub free-whole : (id : ℕ) → heap_bytes (without_piece id f.heap) ≡ heap_bytes f.heap
  free-whole id = (give-tiled (heap_bytes f.heap) id f.heap kept.tiled).whole

  -- ---- a component that no join is at

  module _ (id : ℕ) (there : has_comp f.graph id ≡ true) (free : list_any (touches id) f.graph.joins ≡ false) where
    abbrev comp-view : View
    comp-view = view_of (without_comp id f)

    abbrev left : StreamView → Bool
    left s = not (s.host == id)

    bare : AllByRecursion (λ s. left s ≡ false → is_some s.params ≡ false) f.streams
    bare = bare-comp f.graph id kept.wired kept.linked free f.streams kept.played.owned kept.played.each

    pub comp_free-live : (x : ℕ) → live comp-view x ≡ live view x
    comp_free-live = live-same f.graph comp-view.graph left f.streams kept.played bare (ways-comp f.graph id kept.wired kept.linked free f.streams)

    pub comp_free-channels : (x : ℕ) → channels_of comp-view x ≡ channels_of view x
    comp_free-channels = channels-same f.graph comp-view.graph left f.streams kept.played bare (ways-comp f.graph id kept.wired kept.linked free f.streams)

    pub comp_free-rate : (x : ℕ) → rate_of comp-view x ≡ rate_of view x
    comp_free-rate = rate-same f.graph comp-view.graph left f.streams kept.played bare (ways-comp f.graph id kept.wired kept.linked free f.streams)

    pub comp_free-flows : (b : ℕ) → flows comp-view b ≡ flows view b
    comp_free-flows b = flows-same f.graph comp-view.graph left f.streams kept.played bare (ways-comp f.graph id kept.wired kept.linked free f.streams) b refl refl

    comp-played : AreStreamsPlayable comp-view
    comp-played = played-same f.graph comp-view.graph left f.streams kept.played bare (ways-comp f.graph id kept.wired kept.linked free f.streams) (agree-same f.graph comp-view.graph left f.streams kept.played bare (ways-comp f.graph id kept.wired kept.linked free f.streams) (nodes-comp f.graph id kept.wired kept.linked free) (echo-comp f.graph id kept.wired kept.linked free)) (owned-comp f.graph id kept.wired kept.linked free f.streams kept.played.owned) (ready-comp f.graph id kept.wired kept.linked free f.streams kept.played.each)

    found : (n : ℕ) → (n == id) ≡ false → comp_of comp-view.graph n ≡ comp_of f.graph n
    found n other = comp-other f.graph id kept.wired kept.linked free n other

    pub kept-comp_free : FirmwareInvariant (without_comp id f)
    kept-comp_free = record {
      comps = omega (arith, kept.comps, length-filter (λ (x : Comp). not (x.id == id)) f.graph.comps);
      edges = kept.edges;
      pipes = kept.pipes;
      joins = kept.joins;
      streams = streams-few comp-view.graph (filter left f.streams) comp-played.hosts comp-played.owned;
      ascending = record { comps = Ascends-filter (λ (x : Comp). not (x.id == id)) (λ x. x.id) f.graph.comps kept.ascending.comps; edges = kept.ascending.edges; pipes = kept.ascending.pipes; streams = Ascends-filter left (λ s. s.host) f.streams kept.ascending.streams; pieces = Ascends-filter (λ (p : PieceView). not (p.id == id)) (λ p. p.id) f.heap.pieces kept.ascending.pieces; staging = Ascends-filter (λ (s : Staging). not (s.eq == id)) (λ s. s.eq) f.staging kept.ascending.staging };
      indices = kept.indices;
      sizes = kept.sizes;
      settings = all-filter (λ (x : Comp). not (x.id == id)) (λ x. IsSettingOf x.kind x.setting) f.graph.comps kept.settings;
      ramps = all-filter (λ (x : Comp). not (x.id == id)) (λ x. IsRampOf x.kind x.ramp) f.graph.comps kept.ramps;
      pieces = pieces-less id f.graph comp-view.graph f.heap kept.pieces kept.tiled.ids (used-other f.graph id kept.wired kept.linked free)
          (all-kept (λ (x : Comp). not (x.id == id)) (λ x. has_piece f.heap x.id ≡ true) (λ x. HasOther id f.heap x.id) (λ x e has. (not-true (x.id == id) e, has)) f.graph.comps kept.pieces.comps)
          (edge-pieces id (no-buffer id there))
          (pipe-pieces id (ap (λ h. h || has_edge f.graph id) there));
      tiled = retiled (heap_bytes f.heap) (without_piece id f.heap) (give-tiled (heap_bytes f.heap) id f.heap kept.tiled);
      wired = wired-comp_less f.graph id kept.wired kept.linked free;
      linked = linked-comp_less f.graph id kept.wired kept.linked free;
      played = comp-played;
      rings = kept.rings;
      seen = seen-same view comp-view f.rings (each-key (λ (r : RingView). r.buffer) comp_free-flows f.rings) kept.seen;
      histories = histories-less id view comp-view f.histories (remembered-left id view comp-view refl comp_free-live)
          (every (λ n. (n == id) ≡ false → IsAlike view comp-view n) (filter (remembers view) (components f.graph)) (λ n other. alike-comp view comp-view n (found n other) (comp_free-rate n) (comp_free-channels n))) kept.histories;
      staging = all-kept (λ (s : Staging). not (s.eq == id)) (IsStaged f.graph) (IsStaged comp-view.graph) (λ s other is. staged-same f.graph comp-view.graph s (ap (option_map (λ x. x.kind)) (found s.eq (not-true (s.eq == id) other))) is) f.staging kept.staging;
    }

  -- ---- a buffer that is on no way of a stream with parameters

  module _ (id : ℕ) (there : has_edge f.graph id ≡ true) (free : is_held f.graph f.streams id ≡ false) (stay : stays view (without_edge id f.graph) ≡ true) where
    abbrev edge-view : View
    edge-view = view_of (without_buffer id f)

    every-stream : (P : List StreamView → Type 0) → P (filter (λ s. true) f.streams) → P f.streams
    every-stream P p = subst P (filter-every f.streams) p

    pub buffer_free-live : (x : ℕ) → live edge-view x ≡ live view x
    buffer_free-live x = every-stream (λ ss. live (record { graph = edge-view.graph; streams = ss }) x ≡ live view x) (live-same f.graph edge-view.graph (λ s. true) f.streams kept.played (bare-edge f.graph id kept.wired kept.linked there f.streams) (ways-edge f.graph id kept.wired kept.linked there f.streams stay kept.played.owned) x)

    pub buffer_free-channels : (x : ℕ) → channels_of edge-view x ≡ channels_of view x
    buffer_free-channels x = every-stream (λ ss. channels_of (record { graph = edge-view.graph; streams = ss }) x ≡ channels_of view x) (channels-same f.graph edge-view.graph (λ s. true) f.streams kept.played (bare-edge f.graph id kept.wired kept.linked there f.streams) (ways-edge f.graph id kept.wired kept.linked there f.streams stay kept.played.owned) x)

    pub buffer_free-rate : (x : ℕ) → rate_of edge-view x ≡ rate_of view x
    buffer_free-rate x = every-stream (λ ss. rate_of (record { graph = edge-view.graph; streams = ss }) x ≡ rate_of view x) (rate-same f.graph edge-view.graph (λ s. true) f.streams kept.played (bare-edge f.graph id kept.wired kept.linked there f.streams) (ways-edge f.graph id kept.wired kept.linked there f.streams stay kept.played.owned) x)

    pub buffer_free-flows : (b : ℕ) → (b == id) ≡ false → flows edge-view b ≡ flows view b
    buffer_free-flows b far = every-stream (λ ss. flows (record { graph = edge-view.graph; streams = ss }) b ≡ flows view b) (flows-same f.graph edge-view.graph (λ s. true) f.streams kept.played (bare-edge f.graph id kept.wired kept.linked there f.streams) (ways-edge f.graph id kept.wired kept.linked there f.streams stay kept.played.owned) b (source-left f.graph id kept.wired kept.linked there b far) (sink-left f.graph id kept.wired kept.linked there b far))

    edge-played : AreStreamsPlayable edge-view
    edge-played = every-stream (λ ss. AreStreamsPlayable (record { graph = edge-view.graph; streams = ss })) (played-same f.graph edge-view.graph (λ s. true) f.streams kept.played (bare-edge f.graph id kept.wired kept.linked there f.streams) (ways-edge f.graph id kept.wired kept.linked there f.streams stay kept.played.owned) (subst (λ ss. agree (record { graph = edge-view.graph; streams = ss }) ≡ true) (sym (filter-every f.streams)) (stayed-edge f.graph id kept.wired kept.linked there f.streams stay).1) (all-by (λ s. has_kind is_host (kind_at f.graph s.host) ≡ true) (λ s. true ≡ true → has_kind is_host (kind_at edge-view.graph s.host) ≡ true) (λ s is kept. is) f.streams kept.played.owned) (ready-edge f.graph id kept.wired kept.linked there f.streams free stay kept.played.owned kept.played.each))

    abbrev fewer : List RingView
    fewer = filter (λ r. not (r.buffer == id)) f.rings

    edge-flows : AllByRecursion (λ r. flows edge-view r.buffer ≡ flows view r.buffer) fewer
    edge-flows = all-kept (λ (r : RingView). not (r.buffer == id)) (λ (r : RingView). Unit {0}) (λ r. flows edge-view r.buffer ≡ flows view r.buffer) (λ r far u. buffer_free-flows r.buffer (not-true (r.buffer == id) far)) f.rings (all-any (λ (r : RingView). Unit {0}) (λ r. tt) f.rings)

    pub kept-buffer_free : FirmwareInvariant (without_buffer id f)
    kept-buffer_free = record {
      comps = kept.comps;
      edges = omega (arith, kept.edges, length-filter (λ (e : Edge). not (e.buffer == id)) f.graph.edges);
      pipes = kept.pipes;
      joins = joins-left f.graph id kept.wired kept.linked there kept.joins;
      streams = kept.streams;
      ascending = record { comps = kept.ascending.comps; edges = Ascends-filter (λ (e : Edge). not (e.buffer == id)) (λ e. e.buffer) f.graph.edges kept.ascending.edges; pipes = kept.ascending.pipes; streams = kept.ascending.streams; pieces = Ascends-filter (λ (p : PieceView). not (p.id == id)) (λ p. p.id) f.heap.pieces kept.ascending.pieces; staging = kept.ascending.staging };
      indices = kept.indices;
      sizes = all-filter (λ (e : Edge). not (e.buffer == id)) (λ e. is_buffer_size e.size ≡ true) f.graph.edges kept.sizes;
      settings = kept.settings;
      ramps = kept.ramps;
      pieces = pieces-less id f.graph edge-view.graph f.heap kept.pieces kept.tiled.ids (used-left f.graph id kept.wired kept.linked there)
          (comp-pieces id (no-comp id there))
          (all-kept (λ (e : Edge). not (e.buffer == id)) (λ e. has_piece f.heap e.buffer ≡ true) (λ e. HasOther id f.heap e.buffer) (λ e kept has. (not-true (e.buffer == id) kept, has)) f.graph.edges kept.pieces.edges)
          (pipe-pieces id (ap (λ h. h || has_edge f.graph id) (no-comp id there) ∙ there));
      tiled = retiled (heap_bytes f.heap) (without_piece id f.heap) (give-tiled (heap_bytes f.heap) id f.heap kept.tiled);
      wired = wired-edge_less f.graph id kept.wired kept.linked there;
      linked = linked-edge_less f.graph id kept.wired kept.linked there;
      played = edge-played;
      rings = keys-left (λ (r : RingView). r.buffer) id f.rings ∙ ap (filter (λ n. not (n == id))) kept.rings ∙ sym (keys-left (λ (e : Edge). e.buffer) id f.graph.edges);
      seen = seen-same view edge-view fewer edge-flows (seen-all view fewer (all-filter (λ (r : RingView). not (r.buffer == id)) (λ r. ring_seen view r ≡ r) f.rings (seen-each view f.rings kept.seen)));
      histories = histories-by view edge-view f.histories (remembered-same view edge-view refl (all-any (λ (x : Comp). live edge-view x.id ≡ live view x.id) (λ x. buffer_free-live x.id) f.graph.comps))
          (every (IsAlike view edge-view) (filter (remembers view) (components f.graph)) (λ n. alike-comp view edge-view n refl (buffer_free-rate n) (buffer_free-channels n))) kept.histories;
      staging = staged-all f.graph edge-view.graph f.staging (λ n. refl) kept.staging;
    }

  -- ---- a pipeline of whose index nothing is on such a way

  module _ (id : ℕ) (p : Pipe) (found : find (λ q. q.id == id) f.graph.pipes ≡ Some p) (free : is_index_held f.graph f.streams p.index ≡ false) where
    abbrev pipe-view : View
    pipe-view = view_of (without_pipe id f)

    all-streams : (P : List StreamView → Type 0) → P (filter (λ s. true) f.streams) → P f.streams
    all-streams P q = subst P (filter-every f.streams) q

    no-node : is_node f.graph id ≡ false
    no-node = at f.graph.pipes found kept.wired.alone
      where
        at : (ps : List Pipe) → find (λ q. q.id == id) ps ≡ Some p → AllByRecursion (λ q. is_node f.graph q.id ≡ false) ps → is_node f.graph id ≡ false
        at [] e all = absurd (cc e)
        at (q ∷ ps) e all = by (q.id == id) refl e (at ps)
          where
            by : (t : Bool) → (q.id == id) ≡ t → cond t (Some q) (find (λ q. q.id == id) ps) ≡ Some p → (find (λ q. q.id == id) ps ≡ Some p → AllByRecursion (λ q. is_node f.graph q.id ≡ false) ps → is_node f.graph id ≡ false) → is_node f.graph id ≡ false
            by true same e rest = ap (is_node f.graph) (sym (eqb-true q.id id same)) ∙ all.0
            by false same e rest = rest e all.1

    pub pipe_free-nodes : (has_comp f.graph id ≡ false) × (has_edge f.graph id ≡ false)
    pipe_free-nodes = or_parts (has_comp f.graph id) (has_edge f.graph id) no-node

    pub pipe_free-flows : (b : ℕ) → flows pipe-view b ≡ flows view b
    pipe_free-flows b = all-streams (λ ss. flows (record { graph = pipe-view.graph; streams = ss }) b ≡ flows view b) (flows-same f.graph pipe-view.graph (λ s. true) f.streams kept.played (bare-pipe f.graph id p found kept.wired f.streams) (ways-pipe f.graph id p found kept.wired f.streams) b refl refl)

    pipe-live : (x : ℕ) → live pipe-view x ≡ live view x
    pipe-live x = all-streams (λ ss. live (record { graph = pipe-view.graph; streams = ss }) x ≡ live view x) (live-same f.graph pipe-view.graph (λ s. true) f.streams kept.played (bare-pipe f.graph id p found kept.wired f.streams) (ways-pipe f.graph id p found kept.wired f.streams) x)

    pub pipe_free-channels : (x : ℕ) → channels_of pipe-view x ≡ channels_of view x
    pipe_free-channels x = all-streams (λ ss. channels_of (record { graph = pipe-view.graph; streams = ss }) x ≡ channels_of view x) (channels-same f.graph pipe-view.graph (λ s. true) f.streams kept.played (bare-pipe f.graph id p found kept.wired f.streams) (ways-pipe f.graph id p found kept.wired f.streams) x)

    pub pipe_free-rate : (x : ℕ) → rate_of pipe-view x ≡ rate_of view x
    pipe_free-rate x = all-streams (λ ss. rate_of (record { graph = pipe-view.graph; streams = ss }) x ≡ rate_of view x) (rate-same f.graph pipe-view.graph (λ s. true) f.streams kept.played (bare-pipe f.graph id p found kept.wired f.streams) (ways-pipe f.graph id p found kept.wired f.streams) x)

    pipe-played : AreStreamsPlayable pipe-view
    pipe-played = all-streams (λ ss. AreStreamsPlayable (record { graph = pipe-view.graph; streams = ss })) (played-same f.graph pipe-view.graph (λ s. true) f.streams kept.played (bare-pipe f.graph id p found kept.wired f.streams) (ways-pipe f.graph id p found kept.wired f.streams) (agree-same f.graph pipe-view.graph (λ s. true) f.streams kept.played (bare-pipe f.graph id p found kept.wired f.streams) (ways-pipe f.graph id p found kept.wired f.streams) (λ x there. there) (echo-pipe f.graph id p found kept.wired)) (all-by (λ s. has_kind is_host (kind_at f.graph s.host) ≡ true) (λ s. true ≡ true → has_kind is_host (kind_at pipe-view.graph s.host) ≡ true) (λ s is kept. is) f.streams kept.played.owned) (ready-pipe f.graph id p found kept.wired f.streams free kept.played.each))

    pub kept-pipe_free : FirmwareInvariant (without_pipe id f)
    kept-pipe_free = record {
      comps = kept.comps;
      edges = kept.edges;
      pipes = omega (arith, kept.pipes, length-filter (λ (q : Pipe). not (q.id == id)) f.graph.pipes);
      joins = kept.joins;
      streams = kept.streams;
      ascending = record { comps = kept.ascending.comps; edges = kept.ascending.edges; pipes = Ascends-filter (λ (q : Pipe). not (q.id == id)) (λ q. q.id) f.graph.pipes kept.ascending.pipes; streams = kept.ascending.streams; pieces = Ascends-filter (λ (p : PieceView). not (p.id == id)) (λ p. p.id) f.heap.pieces kept.ascending.pieces; staging = kept.ascending.staging };
      indices = distinct-filter (λ (q : Pipe). q.index) (λ q. not (q.id == id)) f.graph.pipes kept.indices;
      sizes = kept.sizes;
      settings = kept.settings;
      ramps = kept.ramps;
      pieces = pieces-less id f.graph pipe-view.graph f.heap kept.pieces kept.tiled.ids (used-pipe f.graph id p found kept.wired)
          (comp-pieces id pipe_free-nodes.0)
          (edge-pieces id pipe_free-nodes.1)
          (all-kept (λ (q : Pipe). not (q.id == id)) (λ q. has_piece f.heap q.id ≡ true) (λ q. HasOther id f.heap q.id) (λ q e has. (not-true (q.id == id) e, has)) f.graph.pipes kept.pieces.pipes);
      tiled = retiled (heap_bytes f.heap) (without_piece id f.heap) (give-tiled (heap_bytes f.heap) id f.heap kept.tiled);
      wired = wired-pipe_less f.graph id p found kept.wired;
      linked = linked-pipe_less f.graph id p found kept.wired kept.linked;
      played = pipe-played;
      rings = kept.rings;
      seen = seen-same view pipe-view f.rings (each-key (λ (r : RingView). r.buffer) pipe_free-flows f.rings) kept.seen;
      histories = histories-by view pipe-view f.histories (remembered-same view pipe-view refl (all-any (λ (x : Comp). live pipe-view x.id ≡ live view x.id) (λ x. pipe-live x.id) f.graph.comps))
          (every (IsAlike view pipe-view) (filter (remembers view) (components f.graph)) (λ n. alike-comp view pipe-view n refl (pipe_free-rate n) (pipe_free-channels n))) kept.histories;
      staging = staged-all f.graph pipe-view.graph f.staging (λ n. refl) kept.staging;
    }
