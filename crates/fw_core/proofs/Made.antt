-- The rows that bring a component, a buffer or a pipeline.
use Rattle.std.proofs.Common.{◌≡◌, refl, sym, ap, ◌∙◌, subst, ℕ, ◌<◌, List, [], ◌∷◌, ◌++◌, map, length, Bool, true, false, cond, not, ◌||◌, ◌==◌, Option, None, Result, Ok, Err, ℤ, inl, inr, arith}
use Rattle.std.specs.Prelude.{nat_lt, nat_le, ◌⊎◌}
use Rattle.std.proofs.lemmas.List.{length-map}
use Rattle.std.specs.List.{AllByRecursion}
use Rattle.std.proofs.lemmas.Bool.{true≢false, eq-eqb, leb-true, ltb-true, or_parts}
use Rattle.sof_base.specs.declared.format.Params.{Params}
use Rattle.sof_base.specs.Holes.{rounded, fits, first_fit, carved}
use Rattle.stream_law.specs.declared.graph.Comp.{Comp}
use Rattle.stream_law.specs.declared.graph.Edge.{Edge}
use Rattle.stream_law.specs.declared.graph.Pipe.{Pipe}
use Rattle.stream_law.specs.declared.graph.Kind.{Kind}
use Rattle.stream_law.specs.declared.graph.Kind.TheVariants as kinds
use Rattle.stream_law.specs.declared.stream.StreamView.{StreamView}
use Rattle.stream_law.specs.declared.stream.Phase.{Phase}
use Rattle.stream_law.specs.declared.stream.Phase.TheVariants.{Idle, Prepared, Running, Paused}
use Rattle.stream_law.specs.State.{FwState, PieceView, RingView, Staging, view_of}
use Rattle.stream_law.specs.Placed.{placed, AreAbove, Ascends}
use Rattle.stream_law.proofs.Members.{IsIn, in-any}
use Rattle.stream_law.proofs.Placing.{AreAbove-below, map-placed}
use Rattle.mbox_link.specs.Step as rows
use Rattle.ipc3_model.specs.Allowed.{is_buffer_size, is_period_allowed}
use Rattle.row_laws.specs.Tiled.{heap_bytes}
use Rattle.row_laws.specs.Wired.{is_node}
use Rattle.row_laws.specs.Kept.{FirmwareInvariant, IsSettingOf, IsRampOf}
use Rattle.row_laws.proofs.RowKept.{comp_new-kept, buffer_new-kept, pipe_new-kept}
use Rattle.row_laws.proofs.Growing.{all-placed}
use Rattle.row_laws.proofs.NewKept.{unused-node}
use Rattle.row_laws.proofs.Pieced.{no-piece}
use Rattle.row_laws.proofs.Tiling.{carve-tiled}
use Rattle.fw_heap.specs.declared.run.Home.{Home}
use Rattle.fw_heap.specs.Regions.{RegionState, carves}
use Rattle.fw_heap.specs.Pieces.{PieceState}
use Rattle.fw_ring.specs.RingState.{RingState}
use Rattle.fw_units.specs.declared.component.Component.{Component}
use Rattle.fw_units.specs.declared.component.Unit as units
use Rattle.fw_units.specs.declared.component.Unit.TheVariants.{Host, Dai, Eq, Buffer, Pipeline}
use Rattle.fw_units.specs.Units.{comp_by, edge_by, pipe_by, kind_by, setting_by, ramp_by, piece_of, piece_by, pieces_by, ring_by, streams_by, staging_by, with_stream_by, with_staging_by, is_buffer, is_pipeline}
use Rattle.fw_components.specs.Tables.{Tables, view_by, graph_of, carved_pieces, rings_of, streams_of, histories_of}
use Rattle.fw_units.specs.Changes.{has_id, IsOfHome}
use Rattle.fw_components.specs.Changes.{IsNew, is_idle_phase, added, added_by}
use Rattle.fw_walks.proofs.Naming.{comp-named, edge-named, pipe-named}
use Rattle.fw_components.specs.States.{AreOf}
use Rattle.fw_schedule.specs.Ticks.{HasShapes}
use Rattle.fw_core.specs.Held.{state_in, IsPieceHeld}
use Rattle.fw_core.specs.Answers.{IsRow}
use Rattle.fw_core.proofs.RowLaws.{row-is, new-tests}
use Rattle.fw_core.proofs.Histories.{history, AreThere, there-all, histories-are}
use Rattle.fw_core.proofs.Changed.{state-is, same-comps}
use Rattle.fw_core.proofs.Freed.{placed-first}
use Rattle.fw_core.proofs.Shapes.{Fits, moves, frames, HasRamp, IsSame, shapes-are, unlit, comp_new-same, buffer_new-same, pipes-same}
use Rattle.fw_core.proofs.BothPlaced.{placed-both, in-placed}

-- ---- a piece more

-- pieces on those that come after
abbrev gather : List Component → List PieceView → List PieceView
gather [] base = base
gather (c ∷ cs) base = placed (λ p. p.id) (piece_by c) (gather cs base)

gather-split : (xs ys : List Component) → pieces_by (xs ++ ys) ≡ gather xs (pieces_by ys)
gather-split [] ys = refl
gather-split (x ∷ xs) ys = ap (placed (λ (p : PieceView). p.id) (piece_by x)) (gather-split xs ys)

gather-all : (xs : List Component) → pieces_by xs ≡ gather xs []
gather-all [] = refl
gather-all (x ∷ xs) = ap (placed (λ (p : PieceView). p.id) (piece_by x)) (gather-all xs)

module _ (c : Component) where
  abbrev put : List PieceView → List PieceView
  put ps = placed (λ (p : PieceView). p.id) (piece_by c) ps

  gather-base : (xs : List Component) (base : List PieceView) → has_id xs c.id ≡ false → gather xs (put base) ≡ put (gather xs base)
  gather-base [] base none = refl
  gather-base (x ∷ xs) base none =
      let parts = or_parts (x.id == c.id) (has_id xs c.id) none in
      ap (placed (λ (p : PieceView). p.id) (piece_by x)) (gather-base xs base parts.1) ∙ placed-both (λ (p : PieceView). p.id) (piece_by x) (piece_by c) parts.0 (gather xs base)

  gather-put : (xs : List Component) (base : List PieceView) → has_id xs c.id ≡ false → gather (placed (λ (x : Component). x.id) c xs) base ≡ put (gather xs base)
  gather-put [] base none = refl
  gather-put (x ∷ xs) base none =
      let parts = or_parts (x.id == c.id) (has_id xs c.id) none in
      by (nat_lt c.id x.id) parts.0 (gather-put xs base parts.1)
    where
      by : (h : Bool) → (x.id == c.id) ≡ false → gather (placed (λ (x : Component). x.id) c xs) base ≡ put (gather xs base) → gather (cond h (c ∷ x ∷ xs) (x ∷ placed (λ (x : Component). x.id) c xs)) base ≡ put (placed (λ (p : PieceView). p.id) (piece_by x) (gather xs base))
      by true apart rest = refl
      by false apart rest = ap (placed (λ (p : PieceView). p.id) (piece_by x)) rest ∙ placed-both (λ (p : PieceView). p.id) (piece_by x) (piece_by c) apart (gather xs base)

  pieces-first : (xs ys : List Component) → has_id xs c.id ≡ false → pieces_by (placed (λ (x : Component). x.id) c xs ++ ys) ≡ put (pieces_by (xs ++ ys))
  pieces-first xs ys none = gather-split (placed (λ (x : Component). x.id) c xs) ys ∙ gather-put xs (pieces_by ys) none ∙ ap put (sym (gather-split xs ys))

  pieces-last : (xs : List Component) → has_id xs c.id ≡ false → pieces_by (placed (λ (x : Component). x.id) c xs) ≡ put (pieces_by xs)
  pieces-last xs none = gather-all (placed (λ (x : Component). x.id) c xs) ∙ gather-put xs [] none ∙ ap put (sym (gather-all xs))

  pieces-behind : (xs ys zs : List Component) → has_id xs c.id ≡ false → pieces_by zs ≡ put (pieces_by ys) → pieces_by (xs ++ zs) ≡ put (pieces_by (xs ++ ys))
  pieces-behind xs ys zs none is = gather-split xs zs ∙ ap (gather xs) is ∙ gather-base xs (pieces_by ys) none ∙ ap put (sym (gather-split xs ys))

-- ---- a stream more

above-streams : (n : ℕ) (cs : List Component) → AreAbove (λ (c : Component). c.id) n cs → AreAbove (λ (s : StreamView). s.host) n (streams_by cs)
unfolding AreAbove
above-streams n [] all = tt
above-streams n (c ∷ cs) all = by c.unit (above-streams n cs all.1)
  where
    by : (u : units.Unit) → AreAbove (λ (s : StreamView). s.host) n (streams_by cs) → AreAbove (λ (s : StreamView). s.host) n (with_stream_by c.id u (streams_by cs))
    by (Host capture phase params piece) rest = (all.0, rest)
    by u rest = rest

-- one that brings no stream
streams-same : (c : Component) (cs : List Component) → ((ss : List StreamView) → with_stream_by c.id c.unit ss ≡ ss) → streams_by (placed (λ (x : Component). x.id) c cs) ≡ streams_by cs
streams-same c [] none = none []
streams-same c (y ∷ ys) none = by (nat_lt c.id y.id) (streams-same c ys none)
  where
    by : (h : Bool) → streams_by (placed (λ (x : Component). x.id) c ys) ≡ streams_by ys → streams_by (cond h (c ∷ y ∷ ys) (y ∷ placed (λ (x : Component). x.id) c ys)) ≡ streams_by (y ∷ ys)
    by true rest = none (streams_by (y ∷ ys))
    by false rest = ap (with_stream_by y.id y.unit) rest

-- one that brings its own
streams-more : (c : Component) (s : StreamView) (cs : List Component) → s.host ≡ c.id → ((ss : List StreamView) → with_stream_by c.id c.unit ss ≡ s ∷ ss) → Ascends (λ (x : Component). x.id) cs → streams_by (placed (λ (x : Component). x.id) c cs) ≡ placed (λ (s : StreamView). s.host) s (streams_by cs)
unfolding Ascends AreAbove
streams-more c s [] host one up = one []
streams-more c s (y ∷ ys) host one up = by (nat_lt c.id y.id) refl (streams-more c s ys host one up.1)
  where
    later : nat_lt c.id y.id ≡ false → (u : units.Unit) (ss : List StreamView) → with_stream_by y.id u (placed (λ (s : StreamView). s.host) s ss) ≡ placed (λ (s : StreamView). s.host) s (with_stream_by y.id u ss)
    later e (Host capture phase params piece) ss = sym (ap (λ h. cond h (s ∷ record { host = y.id; phase = phase; params = params } ∷ ss) (record { host = y.id; phase = phase; params = params } ∷ placed (λ (s : StreamView). s.host) s ss)) (ap (λ n. nat_lt n y.id) host ∙ e))
    later e u ss = refl

    by : (h : Bool) → nat_lt c.id y.id ≡ h → streams_by (placed (λ (x : Component). x.id) c ys) ≡ placed (λ (s : StreamView). s.host) s (streams_by ys) → streams_by (cond h (c ∷ y ∷ ys) (y ∷ placed (λ (x : Component). x.id) c ys)) ≡ placed (λ (s : StreamView). s.host) s (streams_by (y ∷ ys))
    by true e rest = one (streams_by (y ∷ ys)) ∙ sym (placed-first (λ (s : StreamView). s.host) s (streams_by (y ∷ ys)) (subst (λ n. AreAbove (λ (s : StreamView). s.host) n (streams_by (y ∷ ys))) (sym host) (above-streams c.id (y ∷ ys) (let h = ltb-true c.id y.id e in (h, AreAbove-below (λ (x : Component). x.id) c.id y.id ys h up.0)))))
    by false e rest = ap (with_stream_by y.id y.unit) rest ∙ later e y.unit (streams_by ys)

streams-new : (c : Component) (cs : List Component) → IsNew c.unit → is_buffer c.unit ≡ false → is_pipeline c.unit ≡ false → Ascends (λ (x : Component). x.id) cs → streams_by (placed (λ (x : Component). x.id) c cs) ≡ rows.with_host_stream c.id (kind_by c.unit) (streams_by cs)
streams-new c cs new plain other up = by c.unit refl new plain other
  where
    idle : (p : Phase) → is_idle_phase p ≡ true → p ≡ Idle
    idle Idle e = refl
    idle Prepared e = cc
    idle Running e = cc
    idle Paused e = cc

    fresh : StreamView
    fresh = record { host = c.id; phase = Idle; params = None }

    host : (capture : Bool) (phase : Phase) (params : Option Params) (piece : PieceState) → c.unit ≡ Host capture phase params piece → phase ≡ Idle → params ≡ None → streams_by (placed (λ (x : Component). x.id) c cs) ≡ placed (λ (s : StreamView). s.host) fresh (streams_by cs)
    host capture phase params piece is at none = streams-more c fresh cs refl (λ ss. ap (λ (u : units.Unit). with_stream_by c.id u ss) is ∙ (λ i. record { host = c.id; phase = at i; params = none i } ∷ ss)) up

    by : (u : units.Unit) → c.unit ≡ u → IsNew u → is_buffer u ≡ false → is_pipeline u ≡ false → streams_by (placed (λ (x : Component). x.id) c cs) ≡ rows.with_host_stream c.id (kind_by u) (streams_by cs)
    by (Host true phase params piece) is new plain other = host true phase params piece is (idle phase new.0) new.1
    by (Host false phase params piece) is new plain other = host false phase params piece is (idle phase new.0) new.1
    by (Buffer size ring source sink) is new plain other = cc
    by (Pipeline sched period complete piece) is new plain other = cc
    by (Dai true format piece) is new plain other = streams-same c cs (λ ss. ap (λ (u : units.Unit). with_stream_by c.id u ss) is)
    by (Dai false format piece) is new plain other = streams-same c cs (λ ss. ap (λ (u : units.Unit). with_stream_by c.id u ss) is)
    by unit is new plain other = streams-same c cs (λ ss. ap (λ (u : units.Unit). with_stream_by c.id u ss) is)

-- ---- nothing is staged

stages-none : (id : ℕ) (u : units.Unit) (ss : List Staging) → IsNew u → with_staging_by id u ss ≡ ss
stages-none id (Eq eq next remaining) ss new = ap (λ n. with_staging_by id (Eq eq next n) ss) new.1
stages-none id u ss new = refl

stages-new : (c : Component) (cs : List Component) → IsNew c.unit → staging_by (placed (λ (x : Component). x.id) c cs) ≡ staging_by cs
stages-new c [] new = stages-none c.id c.unit [] new
stages-new c (y ∷ ys) new = by (nat_lt c.id y.id) (stages-new c ys new)
  where
    by : (h : Bool) → staging_by (placed (λ (x : Component). x.id) c ys) ≡ staging_by ys → staging_by (cond h (c ∷ y ∷ ys) (y ∷ placed (λ (x : Component). x.id) c ys)) ≡ staging_by (y ∷ ys)
    by true rest = stages-none c.id c.unit (staging_by (y ∷ ys)) new
    by false rest = ap (with_staging_by y.id y.unit) rest

-- ---- rows that are done

-- a row whose tests pass
new-row : (used other full hole : Bool) (h : FwState) → used ≡ false → other ≡ false → full ≡ false → hole ≡ true → cond (used || other) (Err rows.busy) (cond (full || not hole) (Err rows.no_memory) (Ok h)) ≡ Ok h
new-row used other full hole h a b c d = λ i. cond (a i || b i) (Err rows.busy) (cond (c i || not (d i)) (Err rows.no_memory) (Ok h))

-- a carved heap has as many bytes
carve-whole : (f : FwState) (id bytes : ℕ) → FirmwareInvariant f → 0 < bytes → rows.has_hole f bytes ≡ true → rows.is_used f.graph id ≡ false → heap_bytes (rows.heap_with_piece id bytes f.heap) ≡ heap_bytes f.heap
carve-whole f id bytes kept some hole unused = (carve-tiled (heap_bytes f.heap) id bytes f.heap kept.tiled some hole (no-piece f.graph f.heap id kept.pieces unused)).whole

some-bytes : (k : Kind) → 0 < rows.comp_bytes k
some-bytes kinds.HostPlay = omega arith
some-bytes kind = omega arith

homes-parts : (home : Home) (xs ys : List Component) → AllByRecursion (IsOfHome home) (xs ++ ys) → AllByRecursion (IsOfHome home) xs × AllByRecursion (IsOfHome home) ys
homes-parts home [] ys all = (tt, all)
homes-parts home (x ∷ xs) ys all = let rest = homes-parts home xs ys all.1 in ((all.0, rest.0), rest.1)

homes-both : (home : Home) (xs ys : List Component) → AllByRecursion (IsOfHome home) xs → AllByRecursion (IsOfHome home) ys → AllByRecursion (IsOfHome home) (xs ++ ys)
homes-both home [] ys a b = b
homes-both home (x ∷ xs) ys a b = (a.0, homes-both home xs ys a.1 b)

-- the tables with one more of each sort
abbrev with_component : Component → Tables → Tables
with_component c t = record { comps = placed (λ x. x.id) c t.comps; buffers = t.buffers; pipes = t.pipes; joins = t.joins }

abbrev with_buffer : Component → Tables → Tables
with_buffer c t = record { comps = t.comps; buffers = placed (λ x. x.id) c t.buffers; pipes = t.pipes; joins = t.joins }

abbrev with_pipeline : Component → Tables → Tables
with_pipeline c t = record { comps = t.comps; buffers = t.buffers; pipes = placed (λ x. x.id) c t.pipes; joins = t.joins }

-- where a new one lies, in bytes
pub record IsCarved (bytes : ℕ) (r s : RegionState) (c : Component) : Type 0 where
  pub home : (piece_of c.unit).home ≡ r.home
  pub place : (piece_of c.unit).place ≡ first_fit (rounded bytes) r.holes
  pub size : (piece_of c.unit).size ≡ rounded bytes
  pub room : fits (rounded bytes) r.holes ≡ true
  pub left : s ≡ carves (rounded bytes) r

module _ (t : Tables) (r s : RegionState) (c : Component) (bytes : ℕ) (held : IsPieceHeld t r) (carved_so : IsCarved bytes r s c) (unused : rows.is_used (graph_of t) c.id ≡ false) where
  no-comp : has_id t.comps c.id ≡ false
  no-comp = comp-named t c.id ∙ (or_parts (rows.has_comp (graph_of t) c.id) (rows.has_edge (graph_of t) c.id) (or_parts (rows.has_comp (graph_of t) c.id || rows.has_edge (graph_of t) c.id) (rows.has_pipe (graph_of t) c.id) unused).0).0

  no-buffer : has_id t.buffers c.id ≡ false
  no-buffer = edge-named t c.id ∙ (or_parts (rows.has_comp (graph_of t) c.id) (rows.has_edge (graph_of t) c.id) (or_parts (rows.has_comp (graph_of t) c.id || rows.has_edge (graph_of t) c.id) (rows.has_pipe (graph_of t) c.id) unused).0).1

  no-pipeline : has_id t.pipes c.id ≡ false
  no-pipeline = pipe-named t c.id ∙ (or_parts (rows.has_comp (graph_of t) c.id || rows.has_edge (graph_of t) c.id) (rows.has_pipe (graph_of t) c.id) unused).1

  -- the heap of the row
  carved-holes : carved (rounded bytes) r.holes ≡ s.holes
  carved-holes = sym (ap (λ (x : RegionState). x.holes) carved_so.left)

  carved-piece : (u : Tables) → carved_pieces u ≡ put c (carved_pieces t) → placed (λ (p : PieceView). p.id) (record { id = c.id; place = first_fit (rounded bytes) r.holes; size = rounded bytes }) (carved_pieces t) ≡ carved_pieces u
  carved-piece u is = sym (is ∙ (λ i. placed (λ (p : PieceView). p.id) (record { id = c.id; place = carved_so.place i; size = carved_so.size i }) (carved_pieces t)))

  own-home : IsOfHome s.home c
  own-home = carved_so.home ∙ sym (ap (λ (x : RegionState). x.home) carved_so.left)

  old-homes : AreOf s.home t
  old-homes = subst (λ home. AreOf home t) (sym (ap (λ (x : RegionState). x.home) carved_so.left)) held.homes

  comp-homes : AreOf s.home (with_component c t)
  comp-homes = let a = homes-parts s.home t.comps (t.buffers ++ t.pipes) old-homes in homes-both s.home (placed (λ (x : Component). x.id) c t.comps) (t.buffers ++ t.pipes) (all-placed (IsOfHome s.home) (λ (x : Component). x.id) c t.comps own-home a.0) a.1

  buffer-homes : AreOf s.home (with_buffer c t)
  buffer-homes =
      let a = homes-parts s.home t.comps (t.buffers ++ t.pipes) old-homes in let b = homes-parts s.home t.buffers t.pipes a.1 in
      homes-both s.home t.comps (placed (λ (x : Component). x.id) c t.buffers ++ t.pipes) a.0 (homes-both s.home (placed (λ (x : Component). x.id) c t.buffers) t.pipes (all-placed (IsOfHome s.home) (λ (x : Component). x.id) c t.buffers own-home b.0) b.1)

  pipe-homes : AreOf s.home (with_pipeline c t)
  pipe-homes =
      let a = homes-parts s.home t.comps (t.buffers ++ t.pipes) old-homes in let b = homes-parts s.home t.buffers t.pipes a.1 in
      homes-both s.home t.comps (t.buffers ++ placed (λ (x : Component). x.id) c t.pipes) a.0 (homes-both s.home t.buffers (placed (λ (x : Component). x.id) c t.pipes) b.0 (all-placed (IsOfHome s.home) (λ (x : Component). x.id) c t.pipes own-home b.1))

  comp-pieces : carved_pieces (with_component c t) ≡ put c (carved_pieces t)
  comp-pieces = pieces-first c t.comps (t.buffers ++ t.pipes) no-comp

  buffer-pieces : carved_pieces (with_buffer c t) ≡ put c (carved_pieces t)
  buffer-pieces = pieces-behind c t.comps (t.buffers ++ t.pipes) (placed (λ (x : Component). x.id) c t.buffers ++ t.pipes) no-comp (pieces-first c t.buffers t.pipes no-buffer)

  pipe-pieces : carved_pieces (with_pipeline c t) ≡ put c (carved_pieces t)
  pipe-pieces = pieces-behind c t.comps (t.buffers ++ t.pipes) (t.buffers ++ placed (λ (x : Component). x.id) c t.pipes) no-comp (pieces-behind c t.buffers t.pipes (placed (λ (x : Component). x.id) c t.pipes) no-buffer (pieces-last c t.pipes no-pipeline))

  -- the histories of those that were there
  comp-there : AreThere (placed (λ (x : Component). x.id) c t.comps) (histories_of t)
  comp-there = there-all t.comps (placed (λ (x : Component). x.id) c t.comps) _ (λ d e in_d in_e same. by d e in_d (in-placed (λ (x : Component). x.id) c e t.comps in_e) same)
    where
      by : (d e : Component) → IsIn d t.comps → (e ≡ c) ⊎ IsIn e t.comps → e.id ≡ d.id → history e ≡ history d
      by d e in_d (inl is) same = absurd (true≢false (sym (in-any (λ x. x.id == c.id) t.comps d in_d (eq-eqb d.id c.id (sym same ∙ ap (λ (x : Component). x.id) is))) ∙ no-comp))
      by d e in_d (inr in_e) same = same-comps t r held d e in_d in_e same

  -- ---- COMP_NEW
  module _ (up : Ascends (λ (x : Component). x.id) t.comps) (new : IsNew c.unit) (plain : is_buffer c.unit ≡ false) (other : is_pipeline c.unit ≡ false) (size : bytes ≡ rows.comp_bytes (kind_by c.unit)) where
    comp-view : view_of (rows.with_comp c.id c.pipe (kind_by c.unit) (setting_by c.unit) (ramp_by c.unit) (state_in t r 0)) ≡ view_by (with_component c t)
    comp-view = λ i. record {
      graph = record { comps = sym (map-placed comp_by (λ (x : Component). x.id) (λ (x : Comp). x.id) (λ x. refl) c t.comps) i; edges = (graph_of t).edges; pipes = (graph_of t).pipes; joins = t.joins };
      streams = sym (streams-new c t.comps new plain other up) i;
    }

    comp-state : (clock : ℕ) → FirmwareInvariant (rows.with_comp c.id c.pipe (kind_by c.unit) (setting_by c.unit) (ramp_by c.unit) (state_in t r clock)) → rows.with_comp c.id c.pipe (kind_by c.unit) (setting_by c.unit) (ramp_by c.unit) (state_in t r clock) ≡ state_in (with_component c t) s clock
    comp-state clock kept =
        let g = rows.with_comp c.id c.pipe (kind_by c.unit) (setting_by c.unit) (ramp_by c.unit) (state_in t r clock) in
        state-is (with_component c t) s clock g
        (ap (λ n. carved (rounded n) r.holes) (sym size) ∙ carved-holes)
        (ap (λ n. placed (λ (p : PieceView). p.id) (record { id = c.id; place = first_fit (rounded n) r.holes; size = rounded n }) (carved_pieces t)) (sym size) ∙ carved-piece (with_component c t) comp-pieces)
        refl comp-view refl
        (histories-are g (with_component c t) kept comp-view comp-there)
        (sym (stages-new c t.comps new))

-- ---- each row

same-region : (r s : RegionState) (n : ℕ) → s ≡ carves n r → (s.home ≡ r.home) × (s.size ≡ r.size) × (s.usable ≡ r.usable)
same-region r s n is = (ap (λ (x : RegionState). x.home) is, ap (λ (x : RegionState). x.size) is, ap (λ (x : RegionState). x.usable) is)

-- COMP_NEW
pub comp-is : (t u : Tables) (r s : RegionState) (c : Component) (bytes : ℕ) → IsPieceHeld t r → IsCarved bytes r s c → rows.is_used (graph_of t) c.id ≡ false → Ascends (λ (x : Component). x.id) t.comps → IsNew c.unit → is_buffer c.unit ≡ false → is_pipeline c.unit ≡ false → bytes ≡ rows.comp_bytes (kind_by c.unit)
    → rows.is_complete (graph_of t) c.pipe ≡ false → nat_le 128 (length (graph_of t).comps) ≡ false → IsSettingOf (kind_by c.unit) (setting_by c.unit) → IsRampOf (kind_by c.unit) (ramp_by c.unit) → u ≡ added c t → IsRow {X = Unit {0}} (λ f. rows.comp_new f c.id c.pipe (kind_by c.unit) (setting_by c.unit) (ramp_by c.unit)) t u r s (Ok tt)
comp-is t u r s c bytes held so unused up new plain other size still few right ramps done =
    row-is (λ f. rows.comp_new f c.id c.pipe (kind_by c.unit) (setting_by c.unit) (ramp_by c.unit)) t u r s (Ok tt) held
    (λ clock. sym (made clock ∙ ap (λ (f : FwState). let o : Result FwState ℤ = Ok f in o) (state clock ∙ ap (λ (x : Tables). state_in x s clock) (sym is))))
    (comp_new-kept c.id c.pipe (kind_by c.unit) (setting_by c.unit) (ramp_by c.unit) right ramps)
    (λ f g kept e. let tests = new-tests (rows.is_used f.graph c.id) (rows.is_complete f.graph c.pipe) (nat_le 128 (length f.graph.comps)) (rows.has_hole f (rows.comp_bytes (kind_by c.unit))) (rows.with_comp c.id c.pipe (kind_by c.unit) (setting_by c.unit) (ramp_by c.unit) f) g e in
    ap (λ (x : FwState). heap_bytes x.heap) (sym tests.2) ∙ carve-whole f c.id (rows.comp_bytes (kind_by c.unit)) kept (some-bytes (kind_by c.unit)) tests.1 tests.0)
    (subst (AreOf s.home) (sym is) (comp-homes t r s c bytes held so unused)) (λ row. shapes row) (same-region r s (rounded bytes) so.left) tt
  where
    is : u ≡ with_component c t
    is = done ∙ (λ i. added_by (plain i) (other i) c t)

    gone : is_node (graph_of t) c.id ≡ false
    gone = unused-node (graph_of t) c.id unused

    shapes : rows.comp_new (state_in t r 0) c.id c.pipe (kind_by c.unit) (setting_by c.unit) (ramp_by c.unit) ≡ Ok (state_in u s 0) → HasShapes u
    shapes row =
        let same : (x : ℕ) → IsSame (view_by t) (view_by u) x = comp_new-same c.id c.pipe (kind_by c.unit) (setting_by c.unit) (ramp_by c.unit) (state_in t r 0) (state_in u s 0) (held.kept 0) row in
        shapes-are t u (λ x there. same x.id) (λ x there. same x.id)
        (subst (λ (x : Tables). AllByRecursion (Fits (view_by t) moves) x.comps) (sym is) (all-placed (Fits (view_by t) moves) (λ (x : Component). x.id) c t.comps (λ on. absurd (true≢false (sym on ∙ unlit (state_in t r 0) c.id (held.kept 0) gone))) held.shapes.comps))
        (subst (λ (x : Tables). AllByRecursion (Fits (view_by t) frames) x.buffers) (sym is) held.shapes.buffers)
        (subst (λ (x : Tables). AllByRecursion (HasRamp (view_by t)) x.comps) (sym is) (all-placed (HasRamp (view_by t)) (λ (x : Component). x.id) c t.comps (λ on. absurd (true≢false (sym on ∙ unlit (state_in t r 0) c.id (held.kept 0) gone))) held.shapes.ramps))

    made : (clock : ℕ) → rows.comp_new (state_in t r clock) c.id c.pipe (kind_by c.unit) (setting_by c.unit) (ramp_by c.unit) ≡ Ok (rows.with_comp c.id c.pipe (kind_by c.unit) (setting_by c.unit) (ramp_by c.unit) (state_in t r clock))
    made clock = new-row (rows.is_used (graph_of t) c.id) (rows.is_complete (graph_of t) c.pipe) (nat_le 128 (length (graph_of t).comps)) (rows.has_hole (state_in t r clock) (rows.comp_bytes (kind_by c.unit))) (rows.with_comp c.id c.pipe (kind_by c.unit) (setting_by c.unit) (ramp_by c.unit) (state_in t r clock)) unused still few (ap (λ n. fits (rounded n) r.holes) (sym size) ∙ so.room)

    state : (clock : ℕ) → rows.with_comp c.id c.pipe (kind_by c.unit) (setting_by c.unit) (ramp_by c.unit) (state_in t r clock) ≡ state_in (with_component c t) s clock
    state clock = comp-state t r s c bytes held so unused up new plain other size clock (comp_new-kept c.id c.pipe (kind_by c.unit) (setting_by c.unit) (ramp_by c.unit) right ramps (state_in t r clock) (rows.with_comp c.id c.pipe (kind_by c.unit) (setting_by c.unit) (ramp_by c.unit) (state_in t r clock)) (held.kept clock) (made clock))

-- BUFFER_NEW
abbrev pub new_buffer : ℕ → ℕ → ℕ → RingState → Component
new_buffer id pipe size ring = record { id = id; pipe = pipe; channels = 1; unit = Buffer size ring None None }

pub buffer-is : (t u : Tables) (r s : RegionState) (id pipe size : ℕ) (ring : RingState) → IsPieceHeld t r → IsCarved (rows.buffer_bytes size) r s (new_buffer id pipe size ring) → rows.is_used (graph_of t) id ≡ false → ring.frames ≡ []
    → rows.is_complete (graph_of t) pipe ≡ false → nat_le 128 (length (graph_of t).edges) ≡ false → is_buffer_size size ≡ true → u ≡ added (new_buffer id pipe size ring) t → IsRow {X = Unit {0}} (λ f. rows.buffer_new f id pipe size) t u r s (Ok tt)
buffer-is t u r s id pipe size ring held so unused empty still few right done =
    row-is (λ f. rows.buffer_new f id pipe size) t u r s (Ok tt) held
    (λ clock. sym (made clock ∙ ap (λ (f : FwState). let o : Result FwState ℤ = Ok f in o) (state clock ∙ ap (λ (x : Tables). state_in x s clock) (sym done))))
    (buffer_new-kept id pipe size right)
    (λ f g kept e. let tests = new-tests (rows.is_used f.graph id) (rows.is_complete f.graph pipe) (nat_le 128 (length f.graph.edges)) (rows.has_hole f (rows.buffer_bytes size)) (rows.with_buffer id pipe size f) g e in
    ap (λ (x : FwState). heap_bytes x.heap) (sym tests.2) ∙ carve-whole f id (rows.buffer_bytes size) kept (omega arith) tests.1 tests.0)
    (subst (AreOf s.home) (sym done) (buffer-homes t r s c (rows.buffer_bytes size) held so unused)) (λ row. shapes row) (same-region r s (rounded (rows.buffer_bytes size)) so.left) tt
  where
    c : Component
    c = new_buffer id pipe size ring

    shapes : rows.buffer_new (state_in t r 0) id pipe size ≡ Ok (state_in u s 0) → HasShapes u
    shapes row =
        let same : (x : ℕ) → IsSame (view_by t) (view_by u) x = buffer_new-same id pipe size (state_in t r 0) (state_in u s 0) (held.kept 0) row in
        shapes-are t u (λ x there. same x.id) (λ x there. same x.id)
        (subst (λ (x : Tables). AllByRecursion (Fits (view_by t) moves) x.comps) (sym done) held.shapes.comps)
        (subst (λ (x : Tables). AllByRecursion (Fits (view_by t) frames) x.buffers) (sym done) (all-placed (Fits (view_by t) frames) (λ (x : Component). x.id) c t.buffers (λ on. absurd (true≢false (sym on ∙ unlit (state_in t r 0) id (held.kept 0) (unused-node (graph_of t) id unused)))) held.shapes.buffers))
        (subst (λ (x : Tables). AllByRecursion (HasRamp (view_by t)) x.comps) (sym done) held.shapes.ramps)

    made : (clock : ℕ) → rows.buffer_new (state_in t r clock) id pipe size ≡ Ok (rows.with_buffer id pipe size (state_in t r clock))
    made clock = new-row (rows.is_used (graph_of t) id) (rows.is_complete (graph_of t) pipe) (nat_le 128 (length (graph_of t).edges)) (rows.has_hole (state_in t r clock) (rows.buffer_bytes size)) (rows.with_buffer id pipe size (state_in t r clock)) unused still few so.room

    view : (clock : ℕ) → view_of (rows.with_buffer id pipe size (state_in t r clock)) ≡ view_by (with_buffer c t)
    view clock = λ i. record {
      graph = record { comps = (graph_of t).comps; edges = sym (map-placed edge_by (λ (x : Component). x.id) (λ (e : Edge). e.buffer) (λ x. refl) c t.buffers) i; pipes = (graph_of t).pipes; joins = t.joins };
      streams = streams_of t;
    }

    rings : placed (λ (x : RingView). x.buffer) (record { buffer = id; frames = [] }) (rings_of t) ≡ rings_of (with_buffer c t)
    rings = sym (map-placed ring_by (λ (x : Component). x.id) (λ (x : RingView). x.buffer) (λ x. refl) c t.buffers ∙ (λ i. placed (λ (x : RingView). x.buffer) (record { buffer = id; frames = empty i }) (rings_of t)))

    state : (clock : ℕ) → rows.with_buffer id pipe size (state_in t r clock) ≡ state_in (with_buffer c t) s clock
    state clock =
        let g = rows.with_buffer id pipe size (state_in t r clock) in
        state-is (with_buffer c t) s clock g
        (carved-holes t r s c (rows.buffer_bytes size) held so unused)
        (carved-piece t r s c (rows.buffer_bytes size) held so unused (with_buffer c t) (buffer-pieces t r s c (rows.buffer_bytes size) held so unused))
        refl (view clock) rings
        (histories-are g (with_buffer c t) (buffer_new-kept id pipe size right (state_in t r clock) g (held.kept clock) (made clock)) (view clock) (there-all t.comps t.comps _ (same-comps t r held)))
        refl

-- PIPE_NEW
abbrev pub new_pipeline : ℕ → ℕ → ℕ → ℕ → PieceState → Component
new_pipeline id index sched period piece = record { id = id; pipe = index; channels = 1; unit = Pipeline sched period false piece }

pub pipe-is : (t u : Tables) (r s : RegionState) (id index sched period : ℕ) (piece : PieceState) → IsPieceHeld t r → IsCarved rows.pipe_bytes r s (new_pipeline id index sched period piece) → rows.is_used (graph_of t) id ≡ false
    → rows.has_index (graph_of t) index ≡ false → nat_le 32 (length (graph_of t).pipes) ≡ false → is_period_allowed period ≡ true → u ≡ added (new_pipeline id index sched period piece) t → IsRow {X = Unit {0}} (λ f. rows.pipe_new f id index sched period) t u r s (Ok tt)
pipe-is t u r s id index sched period piece held so unused still few right done =
    row-is (λ f. rows.pipe_new f id index sched period) t u r s (Ok tt) held
    (λ clock. sym (made clock ∙ ap (λ (f : FwState). let o : Result FwState ℤ = Ok f in o) (state clock ∙ ap (λ (x : Tables). state_in x s clock) (sym done))))
    (pipe_new-kept id index sched period right)
    (λ f g kept e. let tests = new-tests (rows.is_used f.graph id) (rows.has_index f.graph index) (nat_le 32 (length f.graph.pipes)) (rows.has_hole f rows.pipe_bytes) (rows.with_pipe id index sched period f) g e in
    ap (λ (x : FwState). heap_bytes x.heap) (sym tests.2) ∙ carve-whole f id rows.pipe_bytes kept (omega arith) tests.1 tests.0)
    (subst (AreOf s.home) (sym done) (pipe-homes t r s c rows.pipe_bytes held so unused)) (λ row. shapes row) (same-region r s (rounded rows.pipe_bytes) so.left) tt
  where
    c : Component
    c = new_pipeline id index sched period piece

    shapes : rows.pipe_new (state_in t r 0) id index sched period ≡ Ok (state_in u s 0) → HasShapes u
    shapes row =
        let tests = new-tests (rows.is_used (graph_of t) id) (rows.has_index (graph_of t) index) (nat_le 32 (length (graph_of t).pipes)) (rows.has_hole (state_in t r 0) rows.pipe_bytes) (rows.with_pipe id index sched period (state_in t r 0)) (state_in u s 0) row in
        let same : (x : ℕ) → IsSame (view_by t) (view_by u) x = pipes-same (state_in t r 0) (state_in u s 0) _ (held.kept 0) (ap view_of (sym tests.2)) in
        shapes-are t u (λ x there. same x.id) (λ x there. same x.id)
        (subst (λ (x : Tables). AllByRecursion (Fits (view_by t) moves) x.comps) (sym done) held.shapes.comps)
        (subst (λ (x : Tables). AllByRecursion (Fits (view_by t) frames) x.buffers) (sym done) held.shapes.buffers)
        (subst (λ (x : Tables). AllByRecursion (HasRamp (view_by t)) x.comps) (sym done) held.shapes.ramps)

    made : (clock : ℕ) → rows.pipe_new (state_in t r clock) id index sched period ≡ Ok (rows.with_pipe id index sched period (state_in t r clock))
    made clock = new-row (rows.is_used (graph_of t) id) (rows.has_index (graph_of t) index) (nat_le 32 (length (graph_of t).pipes)) (rows.has_hole (state_in t r clock) rows.pipe_bytes) (rows.with_pipe id index sched period (state_in t r clock)) unused still few so.room

    view : (clock : ℕ) → view_of (rows.with_pipe id index sched period (state_in t r clock)) ≡ view_by (with_pipeline c t)
    view clock = λ i. record {
      graph = record { comps = (graph_of t).comps; edges = (graph_of t).edges; pipes = sym (map-placed pipe_by (λ (x : Component). x.id) (λ (p : Pipe). p.id) (λ x. refl) c t.pipes) i; joins = t.joins };
      streams = streams_of t;
    }

    state : (clock : ℕ) → rows.with_pipe id index sched period (state_in t r clock) ≡ state_in (with_pipeline c t) s clock
    state clock =
        let g = rows.with_pipe id index sched period (state_in t r clock) in
        state-is (with_pipeline c t) s clock g
        (carved-holes t r s c rows.pipe_bytes held so unused)
        (carved-piece t r s c rows.pipe_bytes held so unused (with_pipeline c t) (pipe-pieces t r s c rows.pipe_bytes held so unused))
        refl (view clock) refl
        (histories-are g (with_pipeline c t) (pipe_new-kept id index sched period right (state_in t r clock) g (held.kept clock) (made clock)) (view clock) (there-all t.comps t.comps _ (same-comps t r held)))
        refl

-- fewer are there than the limit says
pub few-there : {X Y : Type 0} (n : ℕ) (f : X → Y) (xs ys : List X) → ys ≡ xs → length ys < n → nat_le n (length (map f xs)) ≡ false
few-there {X} {Y} n f xs ys same few = by (nat_le n (length (map f xs))) refl
  where
    by : (h : Bool) → nat_le n (length (map f xs)) ≡ h → h ≡ false
    by false e = refl
    by true e = let more = leb-true n (length (map f xs)) e in let size = length-map xs f in let here = ap length same in absurd (omega arith)
