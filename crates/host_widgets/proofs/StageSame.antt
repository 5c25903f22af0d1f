-- Stages that have the same of a plan are one to the firmware.
use Rattle.std.proofs.Common.{arith, ◌+◌, ◌≡◌, ap, ◌∙◌, ℕ, ◌<◌, List, [], ◌∷◌, map, length, true}
use Rattle.std.specs.List.{zip, AllByRecursion}
use Rattle.stream_law.specs.declared.graph.Comp.{Comp}
use Rattle.stream_law.specs.declared.graph.Edge.{Edge}
use Rattle.stream_law.specs.declared.graph.Pipe.{Pipe}
use Rattle.stream_law.specs.declared.graph.Graph.{Graph}
use Rattle.stream_law.specs.State.{HeapView}
use Rattle.stream_law.proofs.Members.{IsIn, in-each, kept-in}
use Rattle.tplg_plan.specs.declared.plans.Plan.{Plan}
use Rattle.tplg_plan.specs.Sound.{IsSound}
use Rattle.host_widgets.specs.declared.kept.Record.{Record}
use Rattle.host_widgets.specs.Acts.{widget_ids}
use Rattle.host_widgets.specs.Expected.{stream_view}
use Rattle.host_widgets.proofs.Joined.{edge_with}
use Rattle.host_widgets.proofs.LookedUp.{map-all}
use Rattle.host_widgets.proofs.NamedIds.{component-found}
use Rattle.host_widgets.proofs.PutsTaken.{comp_while}
use Rattle.host_widgets.proofs.HostStreams.{stream-comp}
use Rattle.host_widgets.proofs.Sublists.{filter-same, range-low}
use Rattle.host_widgets.proofs.UpStages.{Stage, StreamPair, pipe_as, comps_left, edges_left, pipes_left, stage_streams, IsHeapAt, at_stage}

module _ (plan : Plan) (sound : IsSound plan) (kept : Record) (a b : Stage) (has : (id : ℕ) → id < length plan.widgets → a.has id ≡ b.has id) where
  abbrev g : Graph
  g = plan.graph

  comps-same : comps_left plan a ≡ comps_left plan b
  comps-same = filter-same (λ (c : Comp). a.has c.id) (λ (c : Comp). b.has c.id) g.comps (each g.comps sound.comps_below)
    where
      each : (cs : List Comp) → AllByRecursion (λ (c : Comp). c.id < length plan.widgets) cs → AllByRecursion (λ (c : Comp). a.has c.id ≡ b.has c.id) cs
      each [] low = tt
      each (c ∷ cs) low = (has c.id low.0, each cs low.1)

  edges-same : edges_left plan a ≡ edges_left plan b
  edges-same = filter-same (λ (e : Edge). a.has e.buffer) (λ (e : Edge). b.has e.buffer) g.edges (each g.edges sound.edges_below)
    where
      each : (es : List Edge) → AllByRecursion (λ (e : Edge). e.buffer < length plan.widgets) es → AllByRecursion (λ (e : Edge). a.has e.buffer ≡ b.has e.buffer) es
      each [] low = tt
      each (e ∷ es) low = (has e.buffer low.0, each es low.1)

  pipes-same : pipes_left plan a ≡ pipes_left plan b
  pipes-same = filter-same (λ (p : Pipe). a.has p.id) (λ (p : Pipe). b.has p.id) g.pipes (each g.pipes sound.pipes_below)
    where
      each : (ps : List Pipe) → AllByRecursion (λ (p : Pipe). p.id < length plan.widgets) ps → AllByRecursion (λ (p : Pipe). a.has p.id ≡ b.has p.id) ps
      each [] low = tt
      each (p ∷ ps) low = (has p.id low.0, each ps low.1)

  streams-same : stage_streams plan kept a ≡ stage_streams plan kept b
  streams-same = ap (map stream_view) (filter-same (λ (p : StreamPair). a.has p.0.host) (λ (p : StreamPair). b.has p.0.host) (zip plan.streams kept.streams)
      (in-each (λ (p : StreamPair). a.has p.0.host ≡ b.has p.0.host) (zip plan.streams kept.streams) (λ p there.
      let c = stream-comp plan sound kept p there in has p.0.host (component-found plan sound p.0.host c.0 c.1).low)))

  pub heap-same : (h : HeapView) → IsHeapAt plan a h → IsHeapAt plan b h
  heap-same h at = record {
    pieces = at.pieces ∙ filter-same a.has b.has (widget_ids plan) (in-each (λ (id : ℕ). a.has id ≡ b.has id) (widget_ids plan) (λ id there. has id (let low : id < 0 + length plan.widgets = range-low 0 (length plan.widgets) id there in omega (arith, low))));
    sizes = at.sizes;
  }

  pub at-same : ((c : Comp) → IsIn c g.comps → a.has c.id ≡ true → comp_while plan kept a.todo c ≡ comp_while plan kept b.todo c) → a.joins ≡ b.joins → ((p : Pipe) → IsIn p g.pipes → a.has p.id ≡ true → a.done p.id ≡ b.done p.id) →
      (h : HeapView) → at_stage plan kept a h ≡ at_stage plan kept b h
  at-same set joins done h =
      (λ i. record {
        heap = h;
        graph = record { comps = comps i; edges = map (edge_with (joins i)) (edges_left plan a); pipes = pipes i; joins = joins i };
        streams = stage_streams plan kept a;
      })
      ∙ (λ i. record {
        heap = h;
        graph = record { comps = map (comp_while plan kept b.todo) (comps-same i); edges = map (edge_with b.joins) (edges-same i); pipes = map (pipe_as b.done) (pipes-same i); joins = b.joins };
        streams = streams-same i;
      })
    where
      comps : map (comp_while plan kept a.todo) (comps_left plan a) ≡ map (comp_while plan kept b.todo) (comps_left plan a)
      comps = map-all (comp_while plan kept a.todo) (comp_while plan kept b.todo) (comps_left plan a) (in-each (λ (c : Comp). comp_while plan kept a.todo c ≡ comp_while plan kept b.todo c) (comps_left plan a) (λ c there.
          let r = kept-in (λ (x : Comp). a.has x.id) g.comps c there in set c r.0 r.1))

      pipes : map (pipe_as a.done) (pipes_left plan a) ≡ map (pipe_as b.done) (pipes_left plan a)
      pipes = map-all (pipe_as a.done) (pipe_as b.done) (pipes_left plan a) (in-each (λ (p : Pipe). pipe_as a.done p ≡ pipe_as b.done p) (pipes_left plan a) (λ p there.
          let r = kept-in (λ (x : Pipe). a.has x.id) g.pipes p there in (λ i. record { id = p.id; index = p.index; sched = p.sched; period = p.period; complete = done p r.0 r.1 i })))
