-- A firmware at a stage lets one widget go: a pipeline, then a buffer whose pipeline is gone, and then a component that no join is at.
use Rattle.std.proofs.Common.{◌≡◌, refl, sym, ap, ◌∙◌, ℕ, List, [], ◌∷◌, map, filter, Bool, true, false, cond, not, inl, inr, ◌⊎◌, ◌==◌, ◌||◌, ◌&&◌, Some, None, Ok, Err}
use Rattle.std.specs.Prelude.{Option, find}
use Rattle.std.specs.Option.{option_map, option_map_or}
use Rattle.std.specs.List.{zip, list_any, AllByRecursion}
use Rattle.std.proofs.lemmas.Bool.{true≢false, false≢true, eqb-true, or_right, or_from, and_parts, false_from_ne_true}
use Rattle.stream_law.specs.declared.graph.Comp.{Comp}
use Rattle.stream_law.specs.declared.graph.Edge.{Edge}
use Rattle.stream_law.specs.declared.graph.Pipe.{Pipe}
use Rattle.stream_law.specs.declared.graph.Join.{Join}
use Rattle.stream_law.specs.declared.graph.Graph.{Graph}
use Rattle.stream_law.specs.declared.stream.StreamView.{StreamView}
use Rattle.stream_law.specs.State.{FwState, HeapView, PieceView, view_of}
use Rattle.stream_law.specs.Ways.{comp_of, edge_of, is_complete}
use Rattle.stream_law.specs.Joins.{stays}
use Rattle.stream_law.proofs.Members.{IsIn, in-all, kept-in}
use Rattle.ipc3_model.specs.declared.message.Message.TheVariants.{BufferFree, PipeFree}
use Rattle.mbox_link.specs.Step.{row, is_used, has_comp, has_edge, has_pipe, without_piece, index_of, index_by, has_complete_pipe, touches, without_comp, is_held, without_edge, without_buffer, without_pipe, is_index_held, free_pipe, no_device, busy, invalid}
use Rattle.tplg_plan.specs.declared.plans.Plan.{Plan}
use Rattle.tplg_plan.specs.Sound.{IsSound, pipe_at, FillsBuffer, DrainsBuffer}
use Rattle.host_widgets.specs.declared.kept.Record.{Record}
use Rattle.host_widgets.specs.Acts.{widget_ids}
use Rattle.host_widgets.specs.Expected.{stream_view}
use Rattle.host_widgets.proofs.Joined.{edge_with, never-both}
use Rattle.host_widgets.proofs.LookedUp.{any-found, found-map, found-is}
use Rattle.host_widgets.proofs.NamedIds.{IsPipeline, component-found, buffer-found, pipeline-found, each-edge}
use Rattle.host_widgets.proofs.PutsTaken.{comp_while}
use Rattle.host_widgets.specs.There.{silent_state}
use Rattle.host_widgets.proofs.Between.{side-of}
use Rattle.host_widgets.proofs.HostStreams.{pairs, no-stream}
use Rattle.host_widgets.proofs.PartsBetween.{found-left}
use Rattle.host_widgets.proofs.RowsTold.{told}
use Rattle.host_widgets.proofs.StageBetween.{comp-at, edge-at}
use Rattle.host_widgets.proofs.StageJoins.{has-comp, has-edge, no-comp, used-comp, used-edge}
use Rattle.host_widgets.proofs.StageMakes.{lost-each, none-passes}
use Rattle.host_widgets.proofs.StageStays.{from-map}
use Rattle.host_widgets.proofs.Sublists.{filter-same, filter-both, filter-map, all-filter}
use Rattle.host_widgets.proofs.UpStages.{Stage, StreamPair, pipe_as, comps_left, edges_left, pipes_left, stage_graph, stage_streams, IsHeapAt, IsSized, at_stage}
use Rattle.host_widgets.specs.HostActs.{Unmake}
use Rattle.host_widgets.specs.ActMessages.{unmake_by, act_message}

-- ---- lists

-- dropping a key that is not there changes nothing
dropped-none : {X : Type 0} (key : X → ℕ) (p : X → Bool) (n : ℕ) (xs : List X) → AllByRecursion (λ x. (key x == n) ≡ false) xs → filter (λ x. p x && not (key x == n)) xs ≡ filter p xs
dropped-none {X} key p n xs none = filter-same (λ x. p x && not (key x == n)) p xs (each xs none)
  where
    right : (b : Bool) → (b && true) ≡ b
    right true = refl
    right false = refl

    each : (ys : List X) → AllByRecursion (λ y. (key y == n) ≡ false) ys → AllByRecursion (λ y. (p y && not (key y == n)) ≡ p y) ys
    each [] none = tt
    each (y ∷ ys) none = (ap (λ (b : Bool). p y && not b) none.0 ∙ right (p y), each ys none.1)

-- what passes is found among what is left, where all that passes is left
find-left : {X : Type 0} (p q : X → Bool) (xs : List X) → ((x : X) → IsIn x xs → p x ≡ true → q x ≡ true) → find p (filter q xs) ≡ find p xs
find-left p q [] keeps = refl
find-left {X} p q (x ∷ xs) keeps = by (p x) refl (q x) refl (find-left p q xs (λ y there. keeps y (inr there)))
  where
    by : (h : Bool) → p x ≡ h → (m : Bool) → q x ≡ m → find p (filter q xs) ≡ find p xs → find p (cond m (x ∷ filter q xs) (filter q xs)) ≡ cond h (Some x) (find p xs)
    by true e true e' rest = ap (λ (b : Bool). cond b (Some x) (find p (filter q xs))) e
    by true e false e' rest = absurd (true≢false (sym (keeps x (inl refl) e) ∙ e'))
    by false e true e' rest = ap (λ (b : Bool). cond b (Some x) (find p (filter q xs))) e ∙ rest
    by false e false e' rest = rest

-- one widget less, and no join at it
abbrev pub without_id : ℕ → Stage → Stage
without_id id st = record { has = λ x. st.has x && not (x == id); joins = filter (λ j. not (touches id j)) st.joins; todo = st.todo; done = st.done }

module _ (plan : Plan) (sound : IsSound plan) (kept : Record) (st : Stage) (whole : (j : Join) → IsIn j st.joins → IsIn j plan.graph.joins) (h : HeapView) (id : ℕ) (there : st.has id ≡ true) where
  abbrev g : Graph
  g = plan.graph

  abbrev k : Graph
  k = stage_graph plan kept st

  abbrev f : FwState
  f = silent_state (at_stage plan kept st h)

  abbrev after : Stage
  after = without_id id st

  abbrev js : List Join
  js = st.joins

  -- ---- the heap

  pub piece-less : IsHeapAt plan st h → IsHeapAt plan after (without_piece id h)
  piece-less at = record {
    pieces =
        sym (filter-map (λ (p : PieceView). p.id) (λ (x : ℕ). not (x == id)) h.pieces)
        ∙ ap (filter (λ (x : ℕ). not (x == id))) at.pieces
        ∙ filter-both (λ (x : ℕ). not (x == id)) st.has (widget_ids plan);
    sizes = all-filter (IsSized plan) (λ (p : PieceView). not (p.id == id)) h.pieces at.sizes;
  }

  -- ---- what of the rest stays

  comps-stay : comp_of g id ≡ None → comps_left plan after ≡ comps_left plan st
  comps-stay none = dropped-none (λ (x : Comp). x.id) (λ (x : Comp). st.has x.id) id g.comps (lost-each (λ (x : Comp). x.id) id g.comps none)

  edges-stay : edge_of g id ≡ None → edges_left plan after ≡ edges_left plan st
  edges-stay none = dropped-none (λ (x : Edge). x.buffer) (λ (x : Edge). st.has x.buffer) id g.edges (lost-each (λ (x : Edge). x.buffer) id g.edges none)

  pipes-stay : pipe_at g id ≡ None → pipes_left plan after ≡ pipes_left plan st
  pipes-stay none = dropped-none (λ (x : Pipe). x.id) (λ (x : Pipe). st.has x.id) id g.pipes (lost-each (λ (x : Pipe). x.id) id g.pipes none)

  streams-stay : comp_of g id ≡ None → stage_streams plan kept after ≡ stage_streams plan kept st
  streams-stay none = ap (map stream_view) (dropped-none (λ (p : StreamPair). p.0.host) (λ (p : StreamPair). st.has p.0.host) id (pairs plan sound kept) (lost-each (λ (p : StreamPair). p.0.host) id (pairs plan sound kept) (no-stream plan sound kept id none)))

  -- no join is at what is no component and no buffer, and none at a component that no join is at
  joins-stay : ((j : Join) → IsIn j js → touches id j ≡ false) → filter (λ j. not (touches id j)) js ≡ js
  joins-stay apart = apart-all js (λ j here. here)
    where
      apart-all : (xs : List Join) → ((j : Join) → IsIn j xs → IsIn j js) → filter (λ j. not (touches id j)) xs ≡ xs
      apart-all [] within = refl
      apart-all (x ∷ xs) within =
          ap (λ (b : Bool). cond (not b) (x ∷ filter (λ j. not (touches id j)) xs) (filter (λ j. not (touches id j)) xs)) (apart x (within x (inl refl)))
          ∙ ap (λ (ys : List Join). x ∷ ys) (apart-all xs (λ j here. within j (inr here)))

  -- ---- a pipeline

  module _ (p : Pipe) (found : pipe_at g id ≡ Some p) where
    same-pipe : p.id ≡ id
    same-pipe = found-is (λ (x : Pipe). x.id) g.pipes id p found

    now-pipe : find (λ (x : Pipe). x.id == id) k.pipes ≡ Some (pipe_as st.done p)
    now-pipe = found-map (λ (x : Pipe). x.id) (λ (x : Pipe). x.id) (pipe_as st.done) (λ (x : Pipe). refl) (pipes_left plan st) id p
        (found-left (λ (x : Pipe). x.id == id) (λ (x : Pipe). st.has x.id) g.pipes p found (ap st.has same-pipe ∙ there))

    pipe-used : is_used k id ≡ true
    pipe-used = or_right (has_comp k id || has_edge k id) (has_pipe k id) (any-found (λ (x : Pipe). x.id == id) k.pipes (pipe_as st.done p) now-pipe)

    never-touched : (j : Join) → IsIn j js → touches id j ≡ false
    never-touched j here = or_from (j.source == id) (j.sink == id)
        (false_from_ne_true (j.source == id) (λ e. (by (side-of plan sound [] j (whole j here))).0 (eqb-true j.source id e)))
        (false_from_ne_true (j.sink == id) (λ e. (by (side-of plan sound [] j (whole j here))).1 (eqb-true j.sink id e)))
      where
        never-comp : (a : ℕ) (c : Comp) → comp_of g a ≡ Some c → a ≡ id → ⊥
        never-comp a c at e = cc (sym (pipeline-found plan sound id p found).no_comp ∙ ap (comp_of g) (sym e) ∙ at)

        never-edge : (b : ℕ) (x : Edge) → edge_of g b ≡ Some x → b ≡ id → ⊥
        never-edge b x at e = cc (sym (pipeline-found plan sound id p found).no_edge ∙ ap (edge_of g) (sym e) ∙ at)

        by : FillsBuffer g j ⊎ DrainsBuffer g j → (j.source ≡ id → ⊥) × (j.sink ≡ id → ⊥)
        by (inl (c, e, comp, edge, is)) = (never-comp j.source c comp, never-edge j.sink e edge)
        by (inr (e, c, edge, comp, is)) = (never-edge j.source e edge, never-comp j.sink c comp)

    pipes-less : filter (λ (q : Pipe). not (q.id == id)) k.pipes ≡ map (pipe_as st.done) (pipes_left plan after)
    pipes-less =
        filter-map (pipe_as st.done) (λ (q : Pipe). not (q.id == id)) (pipes_left plan st)
        ∙ ap (map (pipe_as st.done)) (filter-both (λ (q : Pipe). not (q.id == id)) (λ (q : Pipe). st.has q.id) g.pipes)

    pub free-pipe-told : is_index_held k (stage_streams plan kept st) p.index ≡ false → told (row f (act_message plan (Unmake id))) ≡ Ok (at_stage plan kept after (without_piece id h))
    free-pipe-told held =
        ap (λ m. told (row f m)) message
        ∙ ap told taken
        ∙ (λ i. Ok (record {
          heap = without_piece id h;
          graph = record {
            comps = map (comp_while plan kept st.todo) (sym (comps-stay named.no_comp) i);
            edges = map (edge_with (sym kept-joins i)) (sym (edges-stay named.no_edge) i);
            pipes = pipes-less i;
            joins = sym kept-joins i;
          };
          streams = sym (streams-stay named.no_comp) i;
        }))
      where
        named : IsPipeline plan sound id p
        named = pipeline-found plan sound id p found

        kept-joins : filter (λ j. not (touches id j)) js ≡ js
        kept-joins = joins-stay never-touched

        message : act_message plan (Unmake id) ≡ PipeFree id
        message = λ i. unmake_by (named.no_comp i) (named.no_edge i) id

        taken : row f (PipeFree id) ≡ Ok (without_pipe id f)
        taken =
            ap (λ (b : Bool). cond (not b) (Err no_device) (free_pipe f id (find (λ (x : Pipe). x.id == id) k.pipes))) pipe-used
            ∙ ap (free_pipe f id) now-pipe
            ∙ ap (λ (b : Bool). cond b (Err invalid) (Ok (without_pipe id f))) held

  -- ---- a buffer or a component, once its pipeline is gone

  module _ (index : ℕ) (named : index_of k id ≡ Some index) (gone : (p : Pipe) → IsIn p g.pipes → p.index ≡ index → st.has p.id ≡ true → ⊥) where
    incomplete : has_complete_pipe k id ≡ false
    incomplete = ap (λ (o : Option ℕ). option_map_or (is_complete k) o false) named ∙ none-passes (λ (p : Pipe). p.index == index && p.complete) k.pipes (λ q here. one q (from-map (pipe_as st.done) (pipes_left plan st) q here))
      where
        one : (q : Pipe) → (p : Pipe) × IsIn p (pipes_left plan st) × (q ≡ pipe_as st.done p) → (q.index == index && q.complete) ≡ false
        one q (p, here, is) = false_from_ne_true (q.index == index && q.complete) (λ holds.
            let r = kept-in (λ (x : Pipe). st.has x.id) g.pipes p here in
            gone p r.0 (ap (λ (x : Pipe). x.index) (sym is) ∙ eqb-true q.index index (and_parts (q.index == index) q.complete holds).0) r.1)

    -- ---- a buffer

    module _ (e : Edge) (found : edge_of g id ≡ Some e) where
      -- another buffer has the sides that it had
      other-edge : (x : Edge) → edge_of g x.buffer ≡ Some x → (x.buffer == id) ≡ false → edge_with js x ≡ edge_with after.joins x
      other-edge x at apart = λ i. record { buffer = x.buffer; pipe = x.pipe; size = x.size; source = option_map (λ (j : Join). j.source) (sym sinks i); sink = option_map (λ (j : Join). j.sink) (sym sources i) }
        where
          -- no join is at two buffers
          not-both : (j : Join) → IsIn j js → ((j.source ≡ x.buffer) × (j.sink ≡ id)) ⊎ ((j.sink ≡ x.buffer) × (j.source ≡ id)) → ⊥
          not-both j here both = by (side-of plan sound [] j (whole j here)) both
            where
              by : FillsBuffer g j ⊎ DrainsBuffer g j → ((j.source ≡ x.buffer) × (j.sink ≡ id)) ⊎ ((j.sink ≡ x.buffer) × (j.source ≡ id)) → ⊥
              by (inl (c, y, comp, edge, is)) (inl (s, t)) = never-both plan sound x.buffer c x (ap (comp_of g) (sym s) ∙ comp) at
              by (inl (c, y, comp, edge, is)) (inr (s, t)) = never-both plan sound id c e (ap (comp_of g) (sym t) ∙ comp) found
              by (inr (y, c, edge, comp, is)) (inl (s, t)) = never-both plan sound id c e (ap (comp_of g) (sym t) ∙ comp) found
              by (inr (y, c, edge, comp, is)) (inr (s, t)) = never-both plan sound x.buffer c x (ap (comp_of g) (sym s) ∙ comp) at

          other : (n : ℕ) → n ≡ x.buffer → (n == id) ≡ false
          other n same = ap (λ (m : ℕ). m == id) same ∙ apart

          sinks : find (λ (j : Join). j.sink == x.buffer) after.joins ≡ find (λ (j : Join). j.sink == x.buffer) js
          sinks = find-left (λ (j : Join). j.sink == x.buffer) (λ (j : Join). not (touches id j)) js (λ j here is.
              ap not (or_from (j.source == id) (j.sink == id) (false_from_ne_true (j.source == id) (λ s. not-both j here (inr (eqb-true j.sink x.buffer is, eqb-true j.source id s)))) (other j.sink (eqb-true j.sink x.buffer is))))

          sources : find (λ (j : Join). j.source == x.buffer) after.joins ≡ find (λ (j : Join). j.source == x.buffer) js
          sources = find-left (λ (j : Join). j.source == x.buffer) (λ (j : Join). not (touches id j)) js (λ j here is.
              ap not (or_from (j.source == id) (j.sink == id) (other j.source (eqb-true j.source x.buffer is)) (false_from_ne_true (j.sink == id) (λ s. not-both j here (inl (eqb-true j.source x.buffer is, eqb-true j.sink id s))))))

      edges-less : filter (λ (x : Edge). not (x.buffer == id)) k.edges ≡ map (edge_with after.joins) (edges_left plan after)
      edges-less =
          filter-map (edge_with js) (λ (x : Edge). not (x.buffer == id)) (edges_left plan st)
          ∙ ap (map (edge_with js)) (filter-both (λ (x : Edge). not (x.buffer == id)) (λ (x : Edge). st.has x.buffer) g.edges)
          ∙ same (edges_left plan after) (λ x here. here)
        where
          same : (xs : List Edge) → ((x : Edge) → IsIn x xs → IsIn x (edges_left plan after)) → map (edge_with js) xs ≡ map (edge_with after.joins) xs
          same [] within = refl
          same (x ∷ xs) within =
              let r = kept-in (λ (y : Edge). st.has y.buffer && not (y.buffer == id)) g.edges x (within x (inl refl)) in
              let kept_apart = (and_parts (st.has x.buffer) (not (x.buffer == id)) r.1).1 in
              ap (λ (y : Edge). y ∷ map (edge_with js) xs) (other-edge x (in-all (λ (y : Edge). edge_of g y.buffer ≡ Some y) g.edges x (each-edge plan sound) r.0) (not-true (x.buffer == id) kept_apart))
              ∙ ap (λ (ys : List Edge). edge_with after.joins x ∷ ys) (same xs (λ y here. within y (inr here)))
            where
              not-true : (b : Bool) → not b ≡ true → b ≡ false
              not-true true is = absurd (false≢true is)
              not-true false is = refl

      -- the graph without the buffer and its joins is that of the next stage
      pub buffer-gone : without_edge id k ≡ stage_graph plan kept after
      buffer-gone = λ i. record {
        comps = map (comp_while plan kept st.todo) (sym (comps-stay (buffer-found plan sound id e found).no_comp) i);
        edges = edges-less i;
        pipes = map (pipe_as st.done) (sym (pipes-stay (buffer-found plan sound id e found).no_pipe) i);
        joins = after.joins;
      }

      pub free-buffer-told : is_held k (stage_streams plan kept st) id ≡ false → stays (view_of f) (without_edge id k) ≡ true → told (row f (act_message plan (Unmake id))) ≡ Ok (at_stage plan kept after (without_piece id h))
      free-buffer-told held stay =
          ap (λ m. told (row f m)) message
          ∙ ap told (taken (is_used k id) (has_complete_pipe k id) (has_edge k id) (is_held k (stage_streams plan kept st) id) (stays (view_of f) (without_edge id k)) (used-edge plan sound kept st whole id e found there) incomplete (has-edge plan sound kept st whole id e found there) held stay)
          ∙ (λ i. Ok (record { heap = without_piece id h; graph = buffer-gone i; streams = sym (streams-stay (buffer-found plan sound id e found).no_comp) i }))
        where
          message : act_message plan (Unmake id) ≡ BufferFree id
          message = (λ i. unmake_by ((buffer-found plan sound id e found).no_comp i) (edge_of g id) id) ∙ ap (λ (o : Option Edge). unmake_by None o id) found

          taken : (a b c d s : Bool) → a ≡ true → b ≡ false → c ≡ true → d ≡ false → s ≡ true → cond (not a) (Err no_device) (cond b (Err busy) (cond (not c || d || not s) (Err invalid) (Ok (without_buffer id f)))) ≡ Ok (without_buffer id f)
          taken a b c d s is_a is_b is_c is_d is_s = rw (is_a, is_b, is_c, is_d, is_s) refl

    -- ---- a component

    module _ (c : Comp) (found : comp_of g id ≡ Some c) (apart : (j : Join) → IsIn j js → touches id j ≡ false) where
      comps-less : filter (λ (x : Comp). not (x.id == id)) k.comps ≡ map (comp_while plan kept st.todo) (comps_left plan after)
      comps-less =
          filter-map (comp_while plan kept st.todo) (λ (x : Comp). not (x.id == id)) (comps_left plan st)
          ∙ ap (map (comp_while plan kept st.todo)) (filter-both (λ (x : Comp). not (x.id == id)) (λ (x : Comp). st.has x.id) g.comps)

      streams-less : filter (λ (s : StreamView). not (s.host == id)) (stage_streams plan kept st) ≡ stage_streams plan kept after
      streams-less =
          filter-map stream_view (λ (s : StreamView). not (s.host == id)) (filter (λ (p : StreamPair). st.has p.0.host) (zip plan.streams kept.streams))
          ∙ ap (map stream_view) (filter-both (λ (p : StreamPair). not (p.0.host == id)) (λ (p : StreamPair). st.has p.0.host) (zip plan.streams kept.streams))

      pub free-comp-told : told (row f (act_message plan (Unmake id))) ≡ Ok (at_stage plan kept after (without_piece id h))
      free-comp-told =
          ap (λ m. told (row f m)) (ap (λ (o : Option Comp). unmake_by o (edge_of g id) id) found)
          ∙ ap told (taken (is_used k id) (has_complete_pipe k id) (has_comp k id) (list_any (touches id) js) (used-comp plan sound kept st whole id c found there) incomplete (has-comp plan sound kept st whole id c found there) (none-passes (touches id) js apart))
          ∙ (λ i. Ok (record {
            heap = without_piece id h;
            graph = record {
              comps = comps-less i;
              edges = map (edge_with (sym kept-joins i)) (sym (edges-stay (component-found plan sound id c found).no_edge) i);
              pipes = map (pipe_as st.done) (sym (pipes-stay (component-found plan sound id c found).no_pipe) i);
              joins = sym kept-joins i;
            };
            streams = streams-less i;
          }))
        where
          kept-joins : filter (λ j. not (touches id j)) js ≡ js
          kept-joins = joins-stay apart

          taken : (a b d t : Bool) → a ≡ true → b ≡ false → d ≡ true → t ≡ false → cond (not a) (Err no_device) (cond b (Err busy) (cond (not d || t) (Err invalid) (Ok (without_comp id f)))) ≡ Ok (without_comp id f)
          taken a b d t is_a is_b is_d is_t = rw (is_a, is_b, is_d, is_t) refl

  -- ---- the index of what an id names

  pub edge-named : (e : Edge) → edge_of g id ≡ Some e → index_of k id ≡ Some e.pipe
  edge-named e found =
      ap (λ (o : Option Comp). index_by o (edge_of k id) (find (λ (p : Pipe). p.id == id) k.pipes)) (no-comp plan sound kept st whole id (buffer-found plan sound id e found).no_comp)
      ∙ ap (λ (o : Option Edge). index_by None o (find (λ (p : Pipe). p.id == id) k.pipes)) (edge-at plan sound kept st id e found there)

  pub comp-named : (c : Comp) → comp_of g id ≡ Some c → index_of k id ≡ Some c.pipe
  comp-named c found = ap (λ (o : Option Comp). index_by o (edge_of k id) (find (λ (p : Pipe). p.id == id) k.pipes)) (comp-at plan sound kept st id c found there)
