-- That what is up is there, as a stage.
use Rattle.std.proofs.Common.{◌≡◌, refl, sym, ap, ◌∙◌, ℕ, List, map, filter, true, false, ◌==◌, Some}
use Rattle.std.specs.Prelude.{Option}
use Rattle.std.specs.Option.{option_map_or}
use Rattle.std.specs.List.{zip, flat_map}
use Rattle.std.proofs.lemmas.Bool.{eq-eqb}
use Rattle.sof_base.specs.Holes.{rounded}
use Rattle.stream_law.specs.declared.graph.Comp.{Comp}
use Rattle.stream_law.specs.declared.graph.Edge.{Edge}
use Rattle.stream_law.specs.declared.graph.Pipe.{Pipe}
use Rattle.stream_law.specs.declared.graph.Join.{Join}
use Rattle.stream_law.specs.declared.graph.Graph.{Graph}
use Rattle.stream_law.specs.State.{PieceView, View}
use Rattle.stream_law.specs.Ways.{comp_of, edge_of}
use Rattle.stream_law.specs.Order.{is_among}
use Rattle.stream_law.proofs.Keyed.{map-same}
use Rattle.stream_law.proofs.Members.{IsIn, in-all, in-each, in-kept, kept-in}
use Rattle.tplg_plan.specs.declared.plans.Plan.{Plan}
use Rattle.tplg_plan.specs.Sound.{IsSound, pipe_at}
use Rattle.host_widgets.specs.declared.kept.Record.{Record}
use Rattle.host_widgets.specs.Expected.{stream_view, stated_bytes}
use Rattle.host_widgets.specs.ViewOf.{set_comp}
use Rattle.host_widgets.proofs.Joined.{edge_with}
use Rattle.host_widgets.proofs.LookedUp.{map-all}
use Rattle.host_widgets.proofs.NamedIds.{each-comp, each-edge, each-pipe, pipeline-found}
use Rattle.host_widgets.specs.UpState.{UpState}
use Rattle.host_widgets.specs.There.{There}
use Rattle.host_widgets.specs.Up.{is_join_at, buffer_joins, is_host_up, up_view}
use Rattle.host_dynamic.specs.UpStates.{IsThere}
use Rattle.host_widgets.proofs.Needs.{flat-in, in-flat, among-in}
use Rattle.host_widgets.proofs.HostStreams.{stream-comp}
use Rattle.host_widgets.proofs.StageBetween.{comp-index, edge-index, edge-full}
use Rattle.host_widgets.proofs.Sublists.{filter-same, filter-map, maps-all}
use Rattle.host_widgets.proofs.UpContext.{own-index, comp-up-by}
use Rattle.host_widgets.proofs.UpStages.{Stage, StreamPair, pipe_as, comps_left, edges_left, pipes_left, stage_graph, stage_streams, IsStage, up_stage}
use Rattle.host_widgets.specs.Indices.{join_index}

module _ (plan : Plan) (sound : IsSound plan) (kept : Record) (up : List ℕ) where
  abbrev g : Graph
  g = plan.graph

  abbrev st : Stage
  st = up_stage plan up

  abbrev js : List Join
  js = flat_map (buffer_joins g) up

  comps-are : filter (λ (c : Comp). is_among up c.pipe) (map (set_comp plan kept) g.comps) ≡ map (set_comp plan kept) (comps_left plan st)
  comps-are =
      filter-map (set_comp plan kept) (λ (c : Comp). is_among up c.pipe) g.comps
      ∙ ap (map (set_comp plan kept)) (filter-same (λ (c : Comp). is_among up c.pipe) (λ (c : Comp). st.has c.id) g.comps
      (in-each (λ (c : Comp). is_among up c.pipe ≡ st.has c.id) g.comps (λ c there.
      ap (is_among up) (sym (comp-index plan sound c.id c (in-all (λ (x : Comp). comp_of g x.id ≡ Some x) g.comps c (each-comp plan sound) there))))))

  -- each edge that is up has both its sides
  edges-are : filter (λ (e : Edge). is_among up e.pipe) g.edges ≡ map (edge_with js) (edges_left plan st)
  edges-are =
      filter-same (λ (e : Edge). is_among up e.pipe) (λ (e : Edge). st.has e.buffer) g.edges
      (in-each (λ (e : Edge). is_among up e.pipe ≡ st.has e.buffer) g.edges (λ e there. ap (is_among up) (sym (edge-index plan sound e.buffer e (named e there)))))
      ∙ sym (map-same (edge_with js) (edges_left plan st) (in-each (λ (e : Edge). edge_with js e ≡ e) (edges_left plan st) (λ e there.
      let r = kept-in (λ (x : Edge). st.has x.buffer) g.edges e there in
      edge-full plan sound js whole e.buffer e (named e r.0) (λ j here at. listed j e.pipe here at (ap (is_among up) (sym (edge-index plan sound e.buffer e (named e r.0))) ∙ r.1)))))
    where
      named : (e : Edge) → IsIn e g.edges → edge_of g e.buffer ≡ Some e
      named e there = in-all (λ (x : Edge). edge_of g x.buffer ≡ Some x) g.edges e (each-edge plan sound) there

      whole : (j : Join) → IsIn j js → IsIn j g.joins
      whole j there = let r = flat-in (buffer_joins g) up j there in (kept-in (is_join_at g r.0) g.joins j r.2).0

      listed : (j : Join) (i : ℕ) → IsIn j g.joins → join_index g j ≡ Some i → is_among up i ≡ true → IsIn j js
      listed j i there at in_up = in-flat (buffer_joins g) up i j (among-in up i in_up)
          (in-kept (is_join_at g i) g.joins j there (ap (λ (o : Option ℕ). option_map_or (λ k. k == i) o false) at ∙ eq-eqb i i refl))

  -- and each pipeline is complete
  pipes-are : filter (λ (p : Pipe). is_among up p.index) g.pipes ≡ map (pipe_as st.done) (pipes_left plan st)
  pipes-are =
      filter-same (λ (p : Pipe). is_among up p.index) (λ (p : Pipe). st.has p.id) g.pipes
      (in-each (λ (p : Pipe). is_among up p.index ≡ st.has p.id) g.pipes (λ p there. ap (is_among up) (sym (own-index plan sound p there))))
      ∙ sym (map-same (pipe_as st.done) (pipes_left plan st) (in-each (λ (p : Pipe). pipe_as st.done p ≡ p) (pipes_left plan st) (λ p there.
      let r = kept-in (λ (x : Pipe). st.has x.id) g.pipes p there in
      let is = (pipeline-found plan sound p.id p (in-all (λ (x : Pipe). pipe_at g x.id ≡ Some x) g.pipes p (each-pipe plan sound) r.0)).is in
      (λ i. record { id = p.id; index = p.index; sched = p.sched; period = p.period; complete = sym is.complete i }))))

  streams-are : map stream_view (filter (is_host_up plan up) (zip plan.streams kept.streams)) ≡ stage_streams plan kept st
  streams-are = ap (map stream_view) (filter-same (is_host_up plan up) (λ (p : StreamPair). st.has p.0.host) (zip plan.streams kept.streams)
      (in-each (λ (p : StreamPair). is_host_up plan up p ≡ st.has p.0.host) (zip plan.streams kept.streams) (λ p there.
      let c = stream-comp plan sound kept p there in comp-up-by plan sound up p.0.host c.0 c.1)))

  graph-is : (up_view plan kept up).graph ≡ stage_graph plan kept st
  graph-is = λ i. record { comps = comps-are i; edges = edges-are i; pipes = pipes-are i; joins = js }

module _ (plan : Plan) (sound : IsSound plan) (s : UpState) where
  pub there-stage : IsThere plan s → IsStage plan s.kept (up_stage plan s.up) s.there
  there-stage is = record {
    is = λ i. record {
      heap = s.there.heap;
      graph = (ap (λ (v : View). v.graph) is.view ∙ graph-is plan sound s.kept s.up) i;
      streams = (ap (λ (v : View). v.streams) is.view ∙ streams-are plan sound s.kept s.up) i;
    };
    heap = record { pieces = is.pieces; sizes = maps-all (λ (p : PieceView). p.size) (λ (p : PieceView). rounded (stated_bytes plan p.id)) s.there.heap.pieces is.sizes };
  }

  pub stage-there : IsStage plan s.kept (up_stage plan s.up) s.there → IsThere plan s
  stage-there at = record {
    view = λ i. record {
      graph = (ap (λ (t : There). t.graph) at.is ∙ sym (graph-is plan sound s.kept s.up)) i;
      streams = (ap (λ (t : There). t.streams) at.is ∙ sym (streams-are plan sound s.kept s.up)) i;
    };
    pieces = at.heap.pieces;
    sizes = map-all (λ (p : PieceView). p.size) (λ (p : PieceView). rounded (stated_bytes plan p.id)) s.there.heap.pieces at.heap.sizes;
  }
