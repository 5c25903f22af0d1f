-- A firmware at a stage makes one widget more, where some hole holds it.
use Rattle.std.proofs.Common.{◌≡◌, refl, sym, ap, subst, ◌∙◌, ℕ, ◌<◌, ◌≤◌, List, [], ◌∷◌, map, filter, length, Bool, true, false, cond, not, inl, inr, ◌==◌, ◌||◌, ◌&&◌, Some, None, Ok, Err, ℤ, arith}
use Rattle.std.specs.Prelude.{Option, Result, find, nat_le}
use Rattle.std.specs.Option.{option_map}
use Rattle.std.specs.List.{zip, list_any, AllByRecursion}
use Rattle.std.proofs.lemmas.Bool.{true≢false, eqb-true, or_from, and_parts, lt-leb, false_from_ne_true}
use Rattle.std.proofs.lemmas.List.{length-map}
use Rattle.sof_base.specs.Holes.{rounded, fits, first_fit}
use Rattle.stream_law.specs.declared.graph.Kind.{Kind}
use Rattle.stream_law.specs.declared.graph.Comp.{Comp}
use Rattle.stream_law.specs.declared.graph.Edge.{Edge}
use Rattle.stream_law.specs.declared.graph.Pipe.{Pipe}
use Rattle.stream_law.specs.declared.graph.Join.{Join}
use Rattle.stream_law.specs.declared.graph.Graph.{Graph}
use Rattle.stream_law.specs.declared.stream.StreamView.{StreamView}
use Rattle.stream_law.specs.State.{FwState, HeapView, PieceView}
use Rattle.stream_law.specs.Placed.{placed, AreAbove, Ascends}
use Rattle.stream_law.specs.Ways.{comp_of, edge_of, is_complete}
use Rattle.stream_law.proofs.Members.{IsIn, find-in, kept-in, filter-less}
use Rattle.stream_law.proofs.Placing.{map-placed}
use Rattle.ipc3_model.specs.declared.message.Message.{Message}
use Rattle.ipc3_model.specs.declared.message.CompWords.{CompWords}
use Rattle.mbox_link.specs.Step.{row, busy, no_memory, kind_of, first_setting, first_ramp, with_comp, with_buffer, with_pipe, with_host_stream, is_used, has_comp, has_edge, has_pipe, has_index, has_hole, heap_with_piece, comp_bytes, buffer_bytes, pipe_bytes}
use Rattle.tplg_plan.specs.declared.plans.Plan.{Plan}
use Rattle.tplg_plan.specs.declared.plans.StreamPlan.{StreamPlan}
use Rattle.tplg_plan.specs.declared.plans.WidgetPlan.{WidgetPlan}
use Rattle.tplg_plan.specs.Sound.{IsSound, pipe_at, NamesComponent, NamesBuffer, NamesPipeline, Names}
use Rattle.host_widgets.specs.declared.kept.Record.{Record}
use Rattle.host_widgets.specs.declared.kept.StreamRec.{StreamRec}
use Rattle.host_widgets.specs.Controls.{control_of}
use Rattle.host_widgets.specs.HostActs.{Make}
use Rattle.host_widgets.specs.ActMessages.{act_message}
use Rattle.host_widgets.specs.Acts.{widget_ids, widget_words, component_words, comp_message, buffer_message, pipe_message}
use Rattle.host_widgets.specs.Expected.{stream_view, stated_bytes}
use Rattle.host_widgets.specs.IdleStreams.{idle_view}
use Rattle.host_widgets.proofs.Joined.{source_by, sink_by, edge_with}
use Rattle.host_widgets.proofs.LookedUp.{any-lost, lost-map, found-is}
use Rattle.host_widgets.proofs.MakeStates.{message-comp, message-buffer, message-pipe, bytes-comp, bytes-buffer, bytes-pipe, kind-read, ramp-made}
use Rattle.host_widgets.proofs.NamedIds.{named-at}
use Rattle.host_widgets.proofs.PutsTaken.{setting_while, comp_while}
use Rattle.host_widgets.proofs.StreamPlaces.{streams-ascend}
use Rattle.host_widgets.specs.There.{There, there_in, silent_state}
use Rattle.host_widgets.proofs.RowsTold.{told}
use Rattle.host_widgets.proofs.HostStreams.{IsHostKind, stream-comp, comp-stream, no-stream, no-host}
use Rattle.host_widgets.proofs.Sublists.{all-placed, placed-left, none-placed, range-ascends, range-found, distinct-one}
use Rattle.host_widgets.proofs.StageStays.{from-map}
use Rattle.host_widgets.proofs.UpStages.{Stage, StreamPair, pipe_as, comps_left, edges_left, pipes_left, stage_graph, stage_streams, IsHeapAt, IsSized, at_stage, index_of_id}

-- ---- what is not there

-- nothing is found among what is left at a key that is not left
pub left-none : {X : Type 0} (key : X → ℕ) (p : ℕ → Bool) (id : ℕ) → p id ≡ false → (xs : List X) → find (λ x. key x == id) (filter (λ x. p (key x)) xs) ≡ None
left-none key p id gone [] = refl
left-none {X} key p id gone (x ∷ xs) = by (p (key x)) refl (left-none key p id gone xs)
  where
    by : (h : Bool) → p (key x) ≡ h → find (λ y. key y == id) (filter (λ y. p (key y)) xs) ≡ None → find (λ y. key y == id) (cond h (x ∷ filter (λ y. p (key y)) xs) (filter (λ y. p (key y)) xs)) ≡ None
    by true e rest =
        let apart : (key x == id) ≡ false = false_from_ne_true (key x == id) (λ same. true≢false (sym (ap p (sym (eqb-true (key x) id same)) ∙ e) ∙ gone)) in
        ap (λ (b : Bool). cond b (Some x) (find (λ y. key y == id) (filter (λ y. p (key y)) xs))) apart ∙ rest
    by false e rest = rest

-- where nothing is found, no key is this one
pub lost-each : {X : Type 0} (key : X → ℕ) (n : ℕ) (xs : List X) → find (λ x. key x == n) xs ≡ None → AllByRecursion (λ x. (key x == n) ≡ false) xs
lost-each key n [] lost = tt
lost-each {X} key n (x ∷ xs) lost = by (key x == n) refl lost (lost-each key n xs)
  where
    by : (h : Bool) → (key x == n) ≡ h → cond h (Some x) (find (λ y. key y == n) xs) ≡ None → (find (λ y. key y == n) xs ≡ None → AllByRecursion (λ y. (key y == n) ≡ false) xs) → AllByRecursion (λ y. (key y == n) ≡ false) (x ∷ xs)
    by true e lost go = absurd (cc lost)
    by false e lost go = (e, go lost)

pub none-passes : {X : Type 0} (p : X → Bool) (xs : List X) → ((x : X) → IsIn x xs → p x ≡ false) → list_any p xs ≡ false
none-passes p [] none = refl
none-passes p (x ∷ xs) none = or_from (p x) (list_any p xs) (none x (inl refl)) (none-passes p xs (λ y there. none y (inr there)))

-- a message that no test refuses is taken
denied : (a b h : Bool) (f : FwState) → a ≡ false → h ≡ false → ◌≡◌ {A = Result FwState ℤ} (cond a (Err busy) (cond (b || not h) (Err no_memory) (Ok f))) (Err no_memory)
denied a true h f is_a is_h = rw (is_a) refl
denied a false h f is_a is_h = rw (is_a, is_h) refl

granted : (a b h : Bool) (f : FwState) → a ≡ false → b ≡ false → h ≡ true → ◌≡◌ {A = Result FwState ℤ} (cond a (Err busy) (cond (b || not h) (Err no_memory) (Ok f))) (Ok f)
granted a b h f is_a is_b is_h = rw (is_a, is_b, is_h) refl

-- a stream's host is no other component's id
pub zip-above : (n : ℕ) (ss : List StreamPlan) (rs : List StreamRec) → AreAbove (λ (s : StreamPlan). s.host) n ss → AreAbove (λ (p : StreamPair). p.0.host) n (zip ss rs)
unfolding AreAbove
zip-above n [] rs above = tt
zip-above n (s ∷ ss) [] above = tt
zip-above n (s ∷ ss) (r ∷ rs) above = (above.0, zip-above n ss rs above.1)

pub zip-ascends : (ss : List StreamPlan) (rs : List StreamRec) → Ascends (λ (s : StreamPlan). s.host) ss → Ascends (λ (p : StreamPair). p.0.host) (zip ss rs)
unfolding Ascends
zip-ascends [] rs up = tt
zip-ascends (s ∷ ss) [] up = tt
zip-ascends (s ∷ ss) (r ∷ rs) up = (zip-above s.host ss rs up.0, zip-ascends ss rs up.1)

-- one widget more
abbrev pub with_id : ℕ → Stage → Stage
with_id id st = record { has = λ x. (x == id) || st.has x; joins = st.joins; todo = st.todo; done = st.done }

module _ (plan : Plan) (sound : IsSound plan) (kept : Record) (st : Stage) (h : HeapView) (id : ℕ) (low : id < length plan.widgets) (new : st.has id ≡ false) where
  abbrev g : Graph
  g = plan.graph

  abbrev k : Graph
  k = stage_graph plan kept st

  abbrev w : WidgetPlan
  w = widget_words plan id

  abbrev f : FwState
  f = silent_state (at_stage plan kept st h)

  abbrev pairs : List StreamPair
  pairs = zip plan.streams kept.streams

  -- ---- the id is new

  no-comp : has_comp k id ≡ false
  no-comp = any-lost (λ (x : Comp). x.id == id) k.comps (lost-map (λ (x : Comp). x.id) (λ (x : Comp). x.id) (comp_while plan kept st.todo) (λ (x : Comp). refl) (comps_left plan st) id (left-none (λ (x : Comp). x.id) st.has id new g.comps))

  no-edge : has_edge k id ≡ false
  no-edge = any-lost (λ (x : Edge). x.buffer == id) k.edges (lost-map (λ (x : Edge). x.buffer) (λ (x : Edge). x.buffer) (edge_with st.joins) (λ (x : Edge). refl) (edges_left plan st) id (left-none (λ (x : Edge). x.buffer) st.has id new g.edges))

  no-pipe : has_pipe k id ≡ false
  no-pipe = any-lost (λ (x : Pipe). x.id == id) k.pipes (lost-map (λ (x : Pipe). x.id) (λ (x : Pipe). x.id) (pipe_as st.done) (λ (x : Pipe). refl) (pipes_left plan st) id (left-none (λ (x : Pipe). x.id) st.has id new g.pipes))

  unused : is_used k id ≡ false
  unused = or_from (has_comp k id || has_edge k id) (has_pipe k id) (or_from (has_comp k id) (has_edge k id) no-comp no-edge) no-pipe

  -- a list of what is left has room for what is not
  room : {X Y : Type 0} (key : X → ℕ) (make : X → Y) (limit : ℕ) (xs : List X) (x : X) → find (λ y. key y == id) xs ≡ Some x → length xs ≤ limit → nat_le limit (length (map make (filter (λ y. st.has (key y)) xs))) ≡ false
  room {X} key make limit xs x found most =
      let r = find-in (λ (y : X). key y == id) xs x found in
      let less = filter-less (λ (y : X). st.has (key y)) xs x r.0 (ap st.has (eqb-true (key x) id r.1) ∙ new) in
      let long : length (map make (filter (λ (y : X). st.has (key y)) xs)) ≡ length (filter (λ (y : X). st.has (key y)) xs) = length-map (filter (λ (y : X). st.has (key y)) xs) make in
      lt-leb limit (length (map make (filter (λ (y : X). st.has (key y)) xs))) (omega (arith, less, long, most))

  -- ---- what of the rest stays

  comps-stay : comp_of g id ≡ None → comps_left plan (with_id id st) ≡ comps_left plan st
  comps-stay none = sym (none-placed (λ (x : Comp). x.id) (λ (x : Comp). st.has x.id) id g.comps (lost-each (λ (x : Comp). x.id) id g.comps none))

  edges-stay : edge_of g id ≡ None → edges_left plan (with_id id st) ≡ edges_left plan st
  edges-stay none = sym (none-placed (λ (x : Edge). x.buffer) (λ (x : Edge). st.has x.buffer) id g.edges (lost-each (λ (x : Edge). x.buffer) id g.edges none))

  pipes-stay : pipe_at g id ≡ None → pipes_left plan (with_id id st) ≡ pipes_left plan st
  pipes-stay none = sym (none-placed (λ (x : Pipe). x.id) (λ (x : Pipe). st.has x.id) id g.pipes (lost-each (λ (x : Pipe). x.id) id g.pipes none))

  abbrev left_pairs : Stage → List StreamPair
  left_pairs s = filter (λ (p : StreamPair). s.has p.0.host) pairs

  streams-stay : find (λ (p : StreamPair). p.0.host == id) pairs ≡ None → left_pairs (with_id id st) ≡ left_pairs st
  streams-stay none = sym (none-placed (λ (p : StreamPair). p.0.host) (λ (p : StreamPair). st.has p.0.host) id pairs (lost-each (λ (p : StreamPair). p.0.host) id pairs none))

  -- ---- the heap

  pub piece-more : IsHeapAt plan st h → IsHeapAt plan (with_id id st) (heap_with_piece id (stated_bytes plan id) h)
  piece-more at = record {
    pieces =
        map-placed (λ (p : PieceView). p.id) (λ (p : PieceView). p.id) (λ x. x) (λ (p : PieceView). refl) (record { id = id; place = first_fit (rounded (stated_bytes plan id)) h.holes; size = rounded (stated_bytes plan id) }) h.pieces
        ∙ ap (placed (λ x. x) id) at.pieces
        ∙ placed-left (λ x. x) st.has id (widget_ids plan) id (range-ascends 0 (length plan.widgets)) (range-found 0 (length plan.widgets) id (omega arith) (omega (arith, low))) new;
    sizes = all-placed (IsSized plan) (λ (p : PieceView). p.id) (record { id = id; place = first_fit (rounded (stated_bytes plan id)) h.holes; size = rounded (stated_bytes plan id) }) h.pieces refl at.sizes;
  }

  -- ---- the row

  module _ (incomplete : (p : Pipe) → IsIn p g.pipes → p.index ≡ index_of_id plan id → st.has p.id ≡ true → st.done p.id ≡ false) where
    not-complete : is_complete k w.pipe ≡ false
    not-complete = none-passes (λ (p : Pipe). p.index == w.pipe && p.complete) k.pipes (λ q there. one q (from-map (pipe_as st.done) (pipes_left plan st) q there))
      where
        one : (q : Pipe) → (p : Pipe) × IsIn p (pipes_left plan st) × (q ≡ pipe_as st.done p) → (q.index == w.pipe && q.complete) ≡ false
        one q (p, there, is) = false_from_ne_true (q.index == w.pipe && q.complete) (λ holds. done p (in_left p there) (and_parts (p.index == w.pipe) (st.done p.id) (ap (λ (x : Pipe). x.index == w.pipe && x.complete) (sym is) ∙ holds)))
          where
            in_left : (p : Pipe) → IsIn p (pipes_left plan st) → IsIn p g.pipes × (st.has p.id ≡ true)
            in_left p there = kept-in (λ (x : Pipe). st.has x.id) g.pipes p there

            done : (p : Pipe) → IsIn p g.pipes × (st.has p.id ≡ true) → ((p.index == w.pipe) ≡ true) × (st.done p.id ≡ true) → ⊥
            done p a b = true≢false (sym b.1 ∙ incomplete p a.0 (eqb-true p.index w.pipe b.0) a.1)

    -- no other pipeline has its index
    no-index : (x : NamesPipeline g id w) → has_index k w.pipe ≡ false
    no-index x = none-passes (λ (q : Pipe). q.index == w.pipe) k.pipes (λ q there. one q (from-map (pipe_as st.done) (pipes_left plan st) q there))
      where
        one : (q : Pipe) → (r : Pipe) × IsIn r (pipes_left plan st) × (q ≡ pipe_as st.done r) → (q.index == w.pipe) ≡ false
        one q (r, there, is) = false_from_ne_true (q.index == w.pipe) (λ holds.
            let a = kept-in (λ (y : Pipe). st.has y.id) g.pipes r there in
            let index : r.index ≡ x.pipe.index = ap (λ (y : Pipe). y.index) (sym is) ∙ eqb-true q.index w.pipe holds ∙ x.is.index in
            let one : r ≡ x.pipe = distinct-one (λ (y : Pipe). y.index) g.pipes r x.pipe sound.indices a.0 (find-in (λ (y : Pipe). y.id == id) g.pipes x.pipe x.there).0 index in
            true≢false (sym a.1 ∙ ap (λ (y : Pipe). st.has y.id) one ∙ ap st.has (found-is (λ (y : Pipe). y.id) g.pipes id x.pipe x.there) ∙ new))

    -- a widget that no hole holds is refused so
    pub make-refused : fits (rounded (stated_bytes plan id)) h.holes ≡ false → told (row f (act_message plan (Make id))) ≡ Err no_memory
    make-refused none = by (named-at plan sound id low)
      where
        IsRefused : Message → Type 0
        IsRefused m = told (row f m) ≡ Err no_memory

        comp : (x : NamesComponent g id w) → IsRefused (comp_message id (control_of plan id) w x.comp)
        comp x =
            let words : CompWords = component_words x.comp.kind (control_of plan id) w in
            let bytes : comp_bytes (kind_of words w.frame_fmt) ≡ stated_bytes plan id = ap comp_bytes (kind-read x.comp.kind (control_of plan id) w x.is.format) ∙ sym (bytes-comp plan 0 sound id x) in
            ap told (denied (is_used k id || is_complete k w.pipe) (nat_le 128 (length k.comps)) (has_hole f (comp_bytes (kind_of words w.frame_fmt))) (with_comp id w.pipe (kind_of words w.frame_fmt) (first_setting words) (first_ramp words) f)
            (or_from (is_used k id) (is_complete k w.pipe) unused not-complete) (ap (λ (b : ℕ). fits (rounded b) h.holes) bytes ∙ none))

        buffer : (x : NamesBuffer g id w) → IsRefused (buffer_message id w x.edge)
        buffer x = ap told (denied (is_used k id || is_complete k w.pipe) (nat_le 128 (length k.edges)) (has_hole f (buffer_bytes x.edge.size)) (with_buffer id w.pipe x.edge.size f)
            (or_from (is_used k id) (is_complete k w.pipe) unused not-complete) (ap (λ (b : ℕ). fits (rounded b) h.holes) (sym (bytes-buffer plan 0 sound id x)) ∙ none))

        pipe : (x : NamesPipeline g id w) → IsRefused (pipe_message id w x.pipe.sched x.pipe.period)
        pipe x = ap told (denied (is_used k id || has_index k w.pipe) (nat_le 32 (length k.pipes)) (has_hole f pipe_bytes) (with_pipe id w.pipe x.pipe.sched x.pipe.period f)
            (or_from (is_used k id) (has_index k w.pipe) unused (no-index x)) (ap (λ (b : ℕ). fits (rounded b) h.holes) (sym (bytes-pipe plan 0 sound id x)) ∙ none))

        by : Names g id w → IsRefused (act_message plan (Make id))
        by (inl x) = subst IsRefused (sym (message-comp plan 0 sound id x)) (comp x)
        by (inr (inl x)) = subst IsRefused (sym (message-buffer plan 0 sound id x)) (buffer x)
        by (inr (inr x)) = subst IsRefused (sym (message-pipe plan 0 sound id x)) (pipe x)

  module _ (hole : fits (rounded (stated_bytes plan id)) h.holes ≡ true)
      (incomplete : (p : Pipe) → IsIn p g.pipes → p.index ≡ index_of_id plan id → st.has p.id ≡ true → st.done p.id ≡ false)
      (setting : (c : Comp) → comp_of g id ≡ Some c → setting_while plan kept st.todo c ≡ first_setting (component_words c.kind (control_of plan c.id) (widget_words plan c.id)))
      (loose : (j : Join) → IsIn j st.joins → (st.has j.source ≡ true) × (st.has j.sink ≡ true))
      (idle : (p : StreamPair) → IsIn p pairs → p.0.host ≡ id → stream_view p ≡ idle_view id)
      (same_length : length kept.streams ≡ length plan.streams) (fresh_done : st.done id ≡ false) where
    -- no join is at an id that is not there
    no-source : find (λ (j : Join). j.source == id) st.joins ≡ None
    no-source = lost st.joins (λ j there. there)
      where
        lost : (js : List Join) → ((j : Join) → IsIn j js → IsIn j st.joins) → find (λ (j : Join). j.source == id) js ≡ None
        lost [] within = refl
        lost (j ∷ js) within =
            let apart : (j.source == id) ≡ false = false_from_ne_true (j.source == id) (λ same. true≢false (sym (loose j (within j (inl refl))).0 ∙ ap st.has (eqb-true j.source id same) ∙ new)) in
            ap (λ (b : Bool). cond b (Some j) (find (λ (j : Join). j.source == id) js)) apart ∙ lost js (λ i there. within i (inr there))

    no-sink : find (λ (j : Join). j.sink == id) st.joins ≡ None
    no-sink = lost st.joins (λ j there. there)
      where
        lost : (js : List Join) → ((j : Join) → IsIn j js → IsIn j st.joins) → find (λ (j : Join). j.sink == id) js ≡ None
        lost [] within = refl
        lost (j ∷ js) within =
            let apart : (j.sink == id) ≡ false = false_from_ne_true (j.sink == id) (λ same. true≢false (sym (loose j (within j (inl refl))).1 ∙ ap st.has (eqb-true j.sink id same) ∙ new)) in
            ap (λ (b : Bool). cond b (Some j) (find (λ (j : Join). j.sink == id) js)) apart ∙ lost js (λ i there. within i (inr there))

    abbrev after : There
    after = at_stage plan kept (with_id id st) (heap_with_piece id (stated_bytes plan id) h)

    abbrev IsMade : Message → Type 0
    IsMade m = told (row f m) ≡ Ok after

    -- ---- a component

    make-comp : (x : NamesComponent g id w) → IsMade (comp_message id (control_of plan id) w x.comp)
    make-comp x =
        ap told (granted (is_used k id || is_complete k w.pipe) (nat_le 128 (length k.comps)) (has_hole f (comp_bytes (kind_of words w.frame_fmt))) (with_comp id w.pipe (kind_of words w.frame_fmt) (first_setting words) (first_ramp words) f)
        (or_from (is_used k id) (is_complete k w.pipe) unused (not-complete incomplete))
        (room (λ (y : Comp). y.id) (comp_while plan kept st.todo) 128 g.comps c x.there sound.comps)
        (ap (λ (b : ℕ). fits (rounded b) h.holes) bytes ∙ hole))
        ∙ (λ i. Ok (there_in (with_comp id (x.is.pipe i) (kind i) (first_setting words) (ramp i) f)))
        ∙ (λ i. Ok (record {
          heap = heap_with_piece id (sym (bytes-comp plan 0 sound id x) i) h;
          graph = record { comps = comps i; edges = map (edge_with st.joins) (sym (edges-stay x.no_edge) i); pipes = map (pipe_as st.done) (sym (pipes-stay x.no_pipe) i); joins = st.joins };
          streams = streams i;
        }))
      where
        c : Comp
        c = x.comp

        words : CompWords
        words = component_words c.kind (control_of plan id) w

        same : c.id ≡ id
        same = found-is (λ (y : Comp). y.id) g.comps id c x.there

        kind : kind_of words w.frame_fmt ≡ c.kind
        kind = kind-read c.kind (control_of plan id) w x.is.format

        ramp : first_ramp words ≡ c.ramp
        ramp = ramp-made c.kind (control_of plan id) w ∙ sym x.is.ramp

        bytes : comp_bytes (kind_of words w.frame_fmt) ≡ stated_bytes plan id
        bytes = ap comp_bytes kind ∙ sym (bytes-comp plan 0 sound id x)

        made : Comp
        made = record { id = id; kind = c.kind; pipe = c.pipe; setting = first_setting words; ramp = c.ramp }

        made-is : made ≡ comp_while plan kept st.todo c
        made-is =
            (λ i. record { id = sym same i; kind = c.kind; pipe = c.pipe; setting = first_setting (component_words c.kind (control_of plan (sym same i)) (widget_words plan (sym same i))); ramp = c.ramp })
            ∙ (λ i. record { id = c.id; kind = c.kind; pipe = c.pipe; setting = sym (setting c x.there) i; ramp = c.ramp })

        comps : placed (λ (y : Comp). y.id) made k.comps ≡ map (comp_while plan kept st.todo) (comps_left plan (with_id id st))
        comps =
            ap (λ (m : Comp). placed (λ (y : Comp). y.id) m k.comps) made-is
            ∙ sym (map-placed (comp_while plan kept st.todo) (λ (y : Comp). y.id) (λ (y : Comp). y.id) (λ (y : Comp). refl) c (comps_left plan st))
            ∙ ap (map (comp_while plan kept st.todo)) (placed-left (λ (y : Comp). y.id) (λ (y : Comp). st.has y.id) id g.comps c sound.comps_ascend x.there (ap st.has same ∙ new))

        streams : with_host_stream id c.kind (stage_streams plan kept st) ≡ stage_streams plan kept (with_id id st)
        streams = by (find (λ (p : StreamPair). p.0.host == id) pairs) refl
          where
            kind_streams : Kind → List StreamView
            kind_streams kind = with_host_stream id kind (stage_streams plan kept st)

            put : (p : StreamPair) → find (λ (q : StreamPair). q.0.host == id) pairs ≡ Some p → placed (λ (s : StreamView). s.host) (idle_view id) (stage_streams plan kept st) ≡ stage_streams plan kept (with_id id st)
            put p found =
                let r = find-in (λ (q : StreamPair). q.0.host == id) pairs p found in
                let host : p.0.host ≡ id = eqb-true p.0.host id r.1 in
                ap (λ (v : StreamView). placed (λ (s : StreamView). s.host) v (stage_streams plan kept st)) (sym (idle p r.0 host))
                ∙ sym (map-placed stream_view (λ (q : StreamPair). q.0.host) (λ (s : StreamView). s.host) (λ (q : StreamPair). refl) p (left_pairs st))
                ∙ ap (map stream_view) (placed-left (λ (q : StreamPair). q.0.host) (λ (q : StreamPair). st.has q.0.host) id pairs p (zip-ascends plan.streams kept.streams (streams-ascend plan sound)) found (ap st.has host ∙ new))

            at_kind : (p : StreamPair) → find (λ (q : StreamPair). q.0.host == id) pairs ≡ Some p → IsHostKind c.kind → kind_streams c.kind ≡ stage_streams plan kept (with_id id st)
            at_kind p found (inl e) = ap kind_streams e ∙ put p found
            at_kind p found (inr e) = ap kind_streams e ∙ put p found

            by : (o : Option StreamPair) → find (λ (p : StreamPair). p.0.host == id) pairs ≡ o → with_host_stream id c.kind (stage_streams plan kept st) ≡ stage_streams plan kept (with_id id st)
            by None none = no-host plan sound kept id c.kind (stage_streams plan kept st) (λ kind. let r = comp-stream plan sound kept same_length id c x.there kind in absurd (cc (sym none ∙ r.1))) ∙ ap (map stream_view) (sym (streams-stay none))
            by (Some p) found =
                let r = find-in (λ (q : StreamPair). q.0.host == id) pairs p found in
                let d = stream-comp plan sound kept p r.0 in
                let one : d.0 ≡ c = cc (sym d.1 ∙ ap (comp_of g) (eqb-true p.0.host id r.1) ∙ x.there) in
                at_kind p found (subst (λ (y : Comp). IsHostKind y.kind) one d.2)

    -- ---- a buffer

    make-buffer : (x : NamesBuffer g id w) → IsMade (buffer_message id w x.edge)
    make-buffer x =
        ap told (granted (is_used k id || is_complete k w.pipe) (nat_le 128 (length k.edges)) (has_hole f (buffer_bytes e.size)) (with_buffer id w.pipe e.size f)
        (or_from (is_used k id) (is_complete k w.pipe) unused (not-complete incomplete))
        (room (λ (y : Edge). y.buffer) (edge_with st.joins) 128 g.edges e x.there sound.edges)
        (ap (λ (b : ℕ). fits (rounded b) h.holes) (sym (bytes-buffer plan 0 sound id x)) ∙ hole))
        ∙ (λ i. Ok (there_in (with_buffer id (x.is.pipe i) e.size f)))
        ∙ (λ i. Ok (record {
          heap = heap_with_piece id (sym (bytes-buffer plan 0 sound id x) i) h;
          graph = record { comps = map (comp_while plan kept st.todo) (sym (comps-stay x.no_comp) i); edges = edges i; pipes = map (pipe_as st.done) (sym (pipes-stay x.no_pipe) i); joins = st.joins };
          streams = map stream_view (sym (streams-stay (no-stream plan sound kept id x.no_comp)) i);
        }))
      where
        e : Edge
        e = x.edge

        same : e.buffer ≡ id
        same = found-is (λ (y : Edge). y.buffer) g.edges id e x.there

        made : Edge
        made = record { buffer = id; pipe = e.pipe; size = e.size; source = None; sink = None }

        made-is : made ≡ edge_with st.joins e
        made-is =
            (λ i. record { buffer = id; pipe = e.pipe; size = e.size; source = option_map (λ (j : Join). j.source) (sym no-sink i); sink = option_map (λ (j : Join). j.sink) (sym no-source i) })
            ∙ (λ i. record { buffer = sym same i; pipe = e.pipe; size = e.size; source = source_by st.joins (sym same i); sink = sink_by st.joins (sym same i) })

        edges : placed (λ (y : Edge). y.buffer) made k.edges ≡ map (edge_with st.joins) (edges_left plan (with_id id st))
        edges =
            ap (λ (m : Edge). placed (λ (y : Edge). y.buffer) m k.edges) made-is
            ∙ sym (map-placed (edge_with st.joins) (λ (y : Edge). y.buffer) (λ (y : Edge). y.buffer) (λ (y : Edge). refl) e (edges_left plan st))
            ∙ ap (map (edge_with st.joins)) (placed-left (λ (y : Edge). y.buffer) (λ (y : Edge). st.has y.buffer) id g.edges e sound.edges_ascend x.there (ap st.has same ∙ new))

    -- ---- a pipeline

    module _ (x : NamesPipeline g id w) where
      abbrev p : Pipe
      p = x.pipe

      same-pipe : p.id ≡ id
      same-pipe = found-is (λ (y : Pipe). y.id) g.pipes id p x.there

      make-pipe : IsMade (pipe_message id w p.sched p.period)
      make-pipe =
          ap told (granted (is_used k id || has_index k w.pipe) (nat_le 32 (length k.pipes)) (has_hole f pipe_bytes) (with_pipe id w.pipe p.sched p.period f)
          (or_from (is_used k id) (has_index k w.pipe) unused (no-index incomplete x))
          (room (λ (y : Pipe). y.id) (pipe_as st.done) 32 g.pipes p x.there sound.pipes)
          (ap (λ (b : ℕ). fits (rounded b) h.holes) (sym (bytes-pipe plan 0 sound id x)) ∙ hole))
          ∙ (λ i. Ok (there_in (with_pipe id (x.is.index i) p.sched p.period f)))
          ∙ (λ i. Ok (record {
            heap = heap_with_piece id (sym (bytes-pipe plan 0 sound id x) i) h;
            graph = record { comps = map (comp_while plan kept st.todo) (sym (comps-stay x.no_comp) i); edges = map (edge_with st.joins) (sym (edges-stay x.no_edge) i); pipes = pipes i; joins = st.joins };
            streams = map stream_view (sym (streams-stay (no-stream plan sound kept id x.no_comp)) i);
          }))
        where
          made : Pipe
          made = record { id = id; index = p.index; sched = p.sched; period = p.period; complete = false }

          made-is : made ≡ pipe_as st.done p
          made-is =
              (λ i. record { id = id; index = p.index; sched = p.sched; period = p.period; complete = sym fresh_done i })
              ∙ (λ i. record { id = sym same-pipe i; index = p.index; sched = p.sched; period = p.period; complete = st.done (sym same-pipe i) })

          pipes : placed (λ (y : Pipe). y.id) made k.pipes ≡ map (pipe_as st.done) (pipes_left plan (with_id id st))
          pipes =
              ap (λ (m : Pipe). placed (λ (y : Pipe). y.id) m k.pipes) made-is
              ∙ sym (map-placed (pipe_as st.done) (λ (y : Pipe). y.id) (λ (y : Pipe). y.id) (λ (y : Pipe). refl) p (pipes_left plan st))
              ∙ ap (map (pipe_as st.done)) (placed-left (λ (y : Pipe). y.id) (λ (y : Pipe). st.has y.id) id g.pipes p sound.pipes_ascend x.there (ap st.has same-pipe ∙ new))

    -- ---- whatever its id names

    pub make-told : told (row f (act_message plan (Make id))) ≡ Ok after
    make-told = by (named-at plan sound id low)
      where
        by : Names g id w → IsMade (act_message plan (Make id))
        by (inl x) = subst IsMade (sym (message-comp plan 0 sound id x)) (make-comp x)
        by (inr (inl x)) = subst IsMade (sym (message-buffer plan 0 sound id x)) (make-buffer x)
        by (inr (inr x)) = subst IsMade (sym (message-pipe plan 0 sound id x)) (make-pipe x)
