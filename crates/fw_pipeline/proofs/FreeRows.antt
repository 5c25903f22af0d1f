-- The rows of messages that free a component, a buffer or a pipeline.
use Rattle.std.proofs.Common.{◌≡◌, refl, sym, ap, ◌∙◌, ℕ, List, [], ◌∷◌, ◌++◌, filter, Bool, true, false, cond, not, ◌==◌, ◌&&◌, ◌||◌, inl, inr, ◌⊎◌, Option, Some, None, option_map, Result, Ok, Err, ℤ}
use Rattle.std.specs.Prelude.{find}
use Rattle.std.specs.List.{list_any, AllByRecursion}
use Rattle.std.proofs.lemmas.List.Folds.{list_any-append}
use Rattle.std.proofs.lemmas.Bool.{true≢false, false_from_ne_true, or_cases, and_parts, eqb-true}
use Rattle.stream_law.specs.declared.graph.Comp.{Comp}
use Rattle.stream_law.specs.declared.graph.Edge.{Edge}
use Rattle.stream_law.specs.declared.graph.Pipe.{Pipe}
use Rattle.stream_law.specs.declared.graph.Join.{Join}
use Rattle.stream_law.specs.declared.stream.StreamView.{StreamView}
use Rattle.stream_law.specs.State.{FwState, view_of}
use Rattle.stream_law.specs.Joins.{stays}
use Rattle.stream_law.proofs.Members.{in-all, any-in, in-any, find-in}
use Rattle.mbox_link.specs.Step.{no_device, busy, invalid, is_used, has_comp, has_edge, has_complete_pipe, touches, without_edge, without_comp, comp_free, is_held, without_buffer, buffer_free, is_index_held, without_pipe, free_pipe, pipe_free, index_by, index_of}
use Rattle.fw_heap.specs.declared.run.Home.{Home}
use Rattle.fw_units.specs.declared.component.Component.{Component}
use Rattle.fw_units.specs.declared.component.Unit as units
use Rattle.fw_units.specs.declared.component.Unit.TheVariants.{Host, Buffer}
use Rattle.fw_units.specs.Units.{streams_by, with_stream_by, comp_by, edge_by, pipe_by}
use Rattle.fw_components.specs.Tables.{Tables, all_of, graph_of}
use Rattle.fw_units.specs.Changes.{has_id, IsOfHome}
use Rattle.fw_components.specs.Changes.{is_there, found, IsFoundOf, tables_without, without_by}
use Rattle.fw_components.specs.Kept.{IsKept, AreIdsApart}
use Rattle.fw_pipeline.specs.Rows.{first_there}
use Rattle.fw_walks.proofs.Naming.{used-named, find-map}

-- ---- rows whose tests pass

pub comp_free-row : (f : FwState) (id : ℕ) → is_used f.graph id ≡ true → has_complete_pipe f.graph id ≡ false → has_comp f.graph id ≡ true → list_any (touches id) f.graph.joins ≡ false → comp_free f id ≡ Ok (without_comp id f)
comp_free-row f id used still there free = ap (λ (p : Bool × Bool × Bool × Bool). let r : Result FwState ℤ = cond (not p.0) (Err no_device) (cond p.1 (Err busy) (cond (not p.2 || p.3) (Err invalid) (Ok (without_comp id f)))) in r) (λ i. (used i, still i, there i, free i))

pub buffer_free-row : (f : FwState) (id : ℕ) → is_used f.graph id ≡ true → has_complete_pipe f.graph id ≡ false → has_edge f.graph id ≡ true → is_held f.graph f.streams id ≡ false → stays (view_of f) (without_edge id f.graph) ≡ true → buffer_free f id ≡ Ok (without_buffer id f)
buffer_free-row f id used still there free stay =
    ap (λ (p : Bool × Bool × Bool × Bool). let r : Result FwState ℤ = cond (not p.0) (Err no_device) (cond p.1 (Err busy) (cond ((not p.2 || p.3) || not (stays (view_of f) (without_edge id f.graph))) (Err invalid) (Ok (without_buffer id f)))) in r) (λ i. (used i, still i, there i, free i))
    ∙ ap (λ h. let r : Result FwState ℤ = cond (not h) (Err invalid) (Ok (without_buffer id f)) in r) stay

pub pipe_free-row : (f : FwState) (id index : ℕ) → is_used f.graph id ≡ true → option_map (λ (p : Pipe). p.index) (find (λ p. p.id == id) f.graph.pipes) ≡ Some index → is_index_held f.graph f.streams index ≡ false → pipe_free f id ≡ Ok (without_pipe id f)
pipe_free-row f id index used is free = by (find (λ p. p.id == id) f.graph.pipes) refl is
  where
    by : (o : Option Pipe) → find (λ p. p.id == id) f.graph.pipes ≡ o → option_map (λ (p : Pipe). p.index) o ≡ Some index → pipe_free f id ≡ Ok (without_pipe id f)
    by None at is = absurd (cc is)
    by (Some p) at is =
        let same : p.index ≡ index = cc is in
        ap (λ (q : Bool × Option Pipe). cond (not q.0) (Err no_device) (free_pipe f id q.1)) (λ i. (used i, at i))
        ∙ ap (λ h. let r : Result FwState ℤ = cond h (Err invalid) (Ok (without_pipe id f)) in r) (ap (is_index_held f.graph f.streams) same ∙ free)

pub index-named : (pipes : List Pipe) (id index : ℕ) → option_map (λ (p : Pipe). p.index) (find (λ p. p.id == id) pipes) ≡ Some index → list_any (λ p. p.id == id) pipes ≡ true
index-named pipes id index is = by (find (λ p. p.id == id) pipes) refl is
  where
    by : (o : Option Pipe) → find (λ p. p.id == id) pipes ≡ o → option_map (λ (p : Pipe). p.index) o ≡ Some index → list_any (λ p. p.id == id) pipes ≡ true
    by None at is = absurd (cc is)
    by (Some p) at is = let r = find-in (λ p. p.id == id) pipes p at in in-any (λ p. p.id == id) pipes p r.0 r.1

-- ---- what may be removed

pub there-all : (t : Tables) (id : ℕ) → is_used (graph_of t) id ≡ true → is_there t id ≡ true
there-all t id used =
    list_any-append (λ c. c.id == id) t.comps (t.buffers ++ t.pipes)
    ∙ ap (λ h. has_id t.comps id || h) (list_any-append (λ c. c.id == id) t.buffers t.pipes)
    ∙ turned (has_id t.comps id) (has_id t.buffers id) (has_id t.pipes id)
    ∙ used-named t id ∙ used
  where
    turned : (a b c : Bool) → (a || (b || c)) ≡ ((a || b) || c)
    turned true b c = refl
    turned false b c = refl

pub found-of : (home : Home) (t : Tables) (id : ℕ) → AllByRecursion (IsOfHome home) (all_of t) → IsFoundOf home (found t id)
found-of home t id all = by (found t id) refl
  where
    by : (o : Option Component) → found t id ≡ o → IsFoundOf home o
    by None at = tt
    by (Some c) at = in-all (IsOfHome home) (all_of t) c all (find-in (λ c. c.id == id) (all_of t) c at).0

-- an id of one list is of none that is apart
pub apart-gone : (cs ds : List Component) (id : ℕ) → AreIdsApart cs ds → has_id ds id ≡ true → has_id cs id ≡ false
apart-gone cs ds id apart there =
    let d = any-in (λ d. d.id == id) ds there in
    ap (has_id cs) (sym (eqb-true d.0.id id d.2)) ∙ in-all (λ (d : Component). has_id cs d.id ≡ false) ds d.0 apart d.1

-- no join is at what is neither a component nor a buffer
pub pipe-alone : (t : Tables) (id : ℕ) → IsKept t → has_id t.comps id ≡ false → has_id t.buffers id ≡ false → list_any (touches id) t.joins ≡ false
pipe-alone t id kept no_comp no_buffer = false_from_ne_true _ (λ e. let j = any-in (touches id) t.joins e in at j.0 (or_cases (j.0.source == id) (j.0.sink == id) j.2) (or_cases (has_id t.comps j.0.source && has_id t.buffers j.0.sink) (has_id t.buffers j.0.source && has_id t.comps j.0.sink) (in-all _ t.joins j.0 kept.linked.between j.1)))
  where
    none : (cs : List Component) (x : ℕ) → has_id cs id ≡ false → (x == id) ≡ true → has_id cs x ≡ true → ⊥
    none cs x gone same there = true≢false (sym there ∙ ap (has_id cs) (eqb-true x id same) ∙ gone)

    at : (j : Join) → ((j.source == id) ≡ true) ⊎ ((j.sink == id) ≡ true) → ((has_id t.comps j.source && has_id t.buffers j.sink) ≡ true) ⊎ ((has_id t.buffers j.source && has_id t.comps j.sink) ≡ true) → ⊥
    at j (inl from) (inl e) = none t.comps j.source no_comp from (and_parts (has_id t.comps j.source) _ e).0
    at j (inl from) (inr e) = none t.buffers j.source no_buffer from (and_parts (has_id t.buffers j.source) _ e).0
    at j (inr to) (inl e) = none t.buffers j.sink no_buffer to (and_parts (has_id t.comps j.source) (has_id t.buffers j.sink) e).1
    at j (inr to) (inr e) = none t.comps j.sink no_comp to (and_parts (has_id t.buffers j.source) (has_id t.comps j.sink) e).1

-- ---- what is left is seen

stream-gone : (id host : ℕ) (unit : units.Unit) (h : Bool) → (host == id) ≡ h → (ss : List StreamView) → filter (λ s. not (s.host == id)) (with_stream_by host unit ss) ≡ cond (not h) (with_stream_by host unit (filter (λ s. not (s.host == id)) ss)) (filter (λ s. not (s.host == id)) ss)
stream-gone id host (Host capture phase params piece) h is ss = by h is
  where
    by : (h : Bool) → (host == id) ≡ h → cond (not (host == id)) (record { host = host; phase = phase; params = params } ∷ filter (λ s. not (s.host == id)) ss) (filter (λ s. not (s.host == id)) ss) ≡ cond (not h) (record { host = host; phase = phase; params = params } ∷ filter (λ s. not (s.host == id)) ss) (filter (λ s. not (s.host == id)) ss)
    by h is = ap (λ h. cond (not h) (record { host = host; phase = phase; params = params } ∷ filter (λ s. not (s.host == id)) ss) (filter (λ s. not (s.host == id)) ss)) is
stream-gone id host (Buffer size ring source sink) true is ss = refl
stream-gone id host (Buffer size ring source sink) false is ss = refl
stream-gone id host u true is ss = refl
stream-gone id host u false is ss = refl

pub streams-gone : (id : ℕ) (cs : List Component) → streams_by (filter (λ c. not (c.id == id)) cs) ≡ filter (λ s. not (s.host == id)) (streams_by cs)
streams-gone id [] = refl
streams-gone id (c ∷ cs) = by (c.id == id) refl (streams-gone id cs)
  where
    by : (h : Bool) → (c.id == id) ≡ h → streams_by (filter (λ c. not (c.id == id)) cs) ≡ filter (λ s. not (s.host == id)) (streams_by cs) → streams_by (cond (not (c.id == id)) (c ∷ filter (λ c. not (c.id == id)) cs) (filter (λ c. not (c.id == id)) cs)) ≡ filter (λ s. not (s.host == id)) (with_stream_by c.id c.unit (streams_by cs))
    by true is rest = ap (λ h. streams_by (cond (not h) (c ∷ filter (λ c. not (c.id == id)) cs) (filter (λ c. not (c.id == id)) cs))) is ∙ rest ∙ sym (stream-gone id c.id c.unit true is (streams_by cs))
    by false is rest = ap (λ h. streams_by (cond (not h) (c ∷ filter (λ c. not (c.id == id)) cs) (filter (λ c. not (c.id == id)) cs))) is ∙ ap (with_stream_by c.id c.unit) rest ∙ sym (stream-gone id c.id c.unit false is (streams_by cs))

module _ (t : Tables) (id : ℕ) where
  pub comp-left : has_id t.comps id ≡ true → tables_without id t ≡ record { comps = filter (λ c. not (c.id == id)) t.comps; buffers = t.buffers; pipes = t.pipes; joins = t.joins }
  comp-left there = ap (λ h. without_by h (has_id t.buffers id) id t) there

  pub buffer-left : has_id t.comps id ≡ false → has_id t.buffers id ≡ true → tables_without id t ≡ record { comps = t.comps; buffers = filter (λ c. not (c.id == id)) t.buffers; pipes = t.pipes; joins = filter (λ j. not (touches id j)) t.joins }
  buffer-left none there = ap (λ (p : Bool × Bool). without_by p.0 p.1 id t) (λ i. (none i, there i))

  pub pipe-left : has_id t.comps id ≡ false → has_id t.buffers id ≡ false → tables_without id t ≡ record { comps = t.comps; buffers = t.buffers; pipes = filter (λ c. not (c.id == id)) t.pipes; joins = t.joins }
  pipe-left none no_buffer = ap (λ (p : Bool × Bool). without_by p.0 p.1 id t) (λ i. (none i, no_buffer i))

-- ---- indices

module _ (t : Tables) (id : ℕ) where
  by-tables : (c : Option Component) (b : Option Component) (p : Option Component) → first_there (option_map (λ (x : Component). x.pipe) c) (first_there (option_map (λ (x : Component). x.pipe) b) (option_map (λ (x : Component). x.pipe) p)) ≡ index_by (option_map comp_by c) (option_map edge_by b) (option_map pipe_by p)
  by-tables (Some c) b p = refl
  by-tables None (Some b) p = refl
  by-tables None None (Some p) = refl
  by-tables None None None = refl

  pub index-tables : first_there (option_map (λ (x : Component). x.pipe) (find (λ c. c.id == id) t.comps)) (first_there (option_map (λ (x : Component). x.pipe) (find (λ c. c.id == id) t.buffers)) (option_map (λ (x : Component). x.pipe) (find (λ c. c.id == id) t.pipes))) ≡ index_of (graph_of t) id
  index-tables =
      by-tables (find (λ c. c.id == id) t.comps) (find (λ c. c.id == id) t.buffers) (find (λ c. c.id == id) t.pipes)
      ∙ ap (λ (p : Option Comp × Option Edge × Option Pipe). index_by p.0 p.1 p.2) (λ i. (
        sym (find-map (λ (x : Comp). x.id == id) comp_by t.comps) i,
        sym (find-map (λ (e : Edge). e.buffer == id) edge_by t.buffers) i,
        sym (find-map (λ (p : Pipe). p.id == id) pipe_by t.pipes) i,
      ))
