-- After a boot nothing is there, and a record serves as if each of its streams were closed.
use Rattle.std.proofs.Common.{◌≡◌, refl, sym, ap, ◌∙◌, ℕ, List, [], ◌∷◌, map, filter, true, false, is_some}
use Rattle.std.specs.List.{zip, AllByRecursion}
use Rattle.std.proofs.lemmas.Bool.{false≢true}
use Rattle.std.proofs.lemmas.List.{length-map}
use Rattle.stream_law.specs.declared.graph.Comp.{Comp}
use Rattle.stream_law.specs.declared.graph.Edge.{Edge}
use Rattle.stream_law.specs.declared.graph.Pipe.{Pipe}
use Rattle.stream_law.specs.Order.{is_among}
use Rattle.stream_law.specs.Ways.{agree, splits}
use Rattle.stream_law.proofs.Members.{IsIn, in-each}
use Rattle.mbox_link.specs.Step.{fresh}
use Rattle.tplg_plan.specs.declared.plans.Plan.{Plan}
use Rattle.tplg_plan.specs.declared.plans.StreamPlan.{StreamPlan}
use Rattle.host_widgets.specs.declared.kept.StreamRec.{StreamRec}
use Rattle.host_widgets.specs.declared.kept.Record.{Record}
use Rattle.host_widgets.specs.Acts.{widget_ids}
use Rattle.host_widgets.specs.Expected.{stream_view}
use Rattle.host_widgets.specs.Host.{AreControls}
use Rattle.host_widgets.specs.HostRecord.{closed}
use Rattle.host_widgets.specs.Indices.{index_at}
use Rattle.host_widgets.specs.Need.{HasAt, end_index, is_joined_to}
use Rattle.host_widgets.specs.There.{booted}
use Rattle.host_widgets.specs.ViewOf.{graph_by, record_view}
use Rattle.host_widgets.proofs.HostStreams.{in-zip}
use Rattle.host_widgets.proofs.Joined.{edge_with}
use Rattle.host_widgets.proofs.PutsTaken.{comp_while}
use Rattle.host_widgets.proofs.Records.{closed-agree}
use Rattle.host_widgets.proofs.StageStays.{from-map}
use Rattle.host_widgets.proofs.Sublists.{filter-none}
use Rattle.host_widgets.proofs.UpContext.{IsServing}
use Rattle.host_widgets.proofs.UpStages.{IsStage, StreamPair, pipe_as, up_stage}

-- nothing passes a test that none passes
none-pass : {X : Type 0} (xs : List X) → AllByRecursion (λ (x : X). false ≡ false) xs
none-pass [] = tt
none-pass (x ∷ xs) = (refl, none-pass xs)

none-kept : {X : Type 0} (xs : List X) → filter (λ (x : X). false) xs ≡ []
none-kept xs = filter-none (λ x. false) xs (none-pass xs)

module _ (plan : Plan) where
  pub empty-stage : (kept : Record) (heap : ℕ) → IsStage plan kept (up_stage plan []) (booted heap)
  empty-stage kept heap = record {
    is = λ i. record {
      heap = (fresh heap).heap;
      graph = record {
        comps = map (comp_while plan kept []) (sym (none-kept plan.graph.comps) i);
        edges = map (edge_with []) (sym (none-kept plan.graph.edges) i);
        pipes = map (pipe_as (λ id. true)) (sym (none-kept plan.graph.pipes) i);
        joins = [];
      };
      streams = map stream_view (sym (none-kept (zip plan.streams kept.streams)) i);
    };
    heap = record { pieces = sym (none-kept (widget_ids plan)); sizes = tt };
  }

  -- ---- with each stream closed

  abbrev pub rested : List StreamRec
  rested = map (λ (x : StreamPlan). closed) plan.streams

  abbrev pub bare_of : Record → Record
  bare_of kept = record { power = kept.power; streams = rested; controls = kept.controls }

  bare-pair : (p : StreamPair) → IsIn p (zip plan.streams rested) → p.1 ≡ closed
  bare-pair p there = (from-map (λ (x : StreamPlan). closed) plan.streams p.1 (in-zip plan.streams rested p there).1).2

  module _ (kept : Record) where
    bare-shapes : agree (record_view plan (bare_of kept)) ≡ true
    unfolding agree
    bare-shapes = closed-agree (graph_by plan (bare_of kept)) plan.streams (map stream_view (zip plan.streams rested))

    pub bare-serves : AreControls plan.controls kept.controls → IsServing plan (bare_of kept) []
    bare-serves controls = record {
      long = length-map plan.streams (λ (x : StreamPlan). closed);
      controls = controls;
      shapes = bare-shapes;
      brought = record {
        schedulers = in-each (λ (p : Pipe). is_among [] p.index ≡ true → HasAt (is_among []) (index_at plan.graph p.sched)) plan.graph.pipes (λ p there none. absurd (false≢true none));
        ends = in-each (λ (e : Edge). is_among [] e.pipe ≡ true → HasAt (is_among []) (end_index plan.graph e.source) × HasAt (is_among []) (end_index plan.graph e.sink)) plan.graph.edges (λ e there none. absurd (false≢true none));
        split = in-each (λ (c : Comp). splits c.kind ≡ true → is_among [] c.pipe ≡ true → (x : ℕ) → is_joined_to plan.graph c.id x ≡ true → HasAt (is_among []) (index_at plan.graph x)) plan.graph.comps (λ c there kind none x to. absurd (false≢true none));
      };
      held = λ p there some. absurd (false≢true (ap (λ (r : StreamRec). is_some r.params) (sym (bare-pair p there)) ∙ some));
      rests = λ p there down. ap (λ (r : StreamRec). stream_view (p.0, r)) (bare-pair p there);
    }
