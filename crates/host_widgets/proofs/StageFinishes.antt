-- A firmware at a stage completes one pipeline more.
use Rattle.std.proofs.Common.{◌≡◌, refl, ap, ◌∙◌, ℕ, List, [], ◌∷◌, map, Bool, true, false, cond, not, ◌==◌, ◌||◌, Some, Ok, Err}
use Rattle.std.specs.Prelude.{find}
use Rattle.std.specs.List.{AllByRecursion}
use Rattle.std.proofs.lemmas.Bool.{or_right}
use Rattle.stream_law.specs.declared.graph.Comp.{Comp}
use Rattle.stream_law.specs.declared.graph.Pipe.{Pipe}
use Rattle.stream_law.specs.declared.graph.Join.{Join}
use Rattle.stream_law.specs.declared.graph.Graph.{Graph}
use Rattle.stream_law.specs.State.{FwState, HeapView}
use Rattle.stream_law.specs.Ways.{comp_of}
use Rattle.stream_law.proofs.Members.{IsIn}
use Rattle.mbox_link.specs.Step.{row, is_used, has_comp, has_edge, has_pipe, completed, complete_pipe, no_device, busy, invalid}
use Rattle.ipc3_model.specs.declared.message.Message.TheVariants.{PipeComplete}
use Rattle.tplg_plan.specs.declared.plans.Plan.{Plan}
use Rattle.tplg_plan.specs.Sound.{IsSound, pipe_at}
use Rattle.host_widgets.specs.declared.kept.Record.{Record}
use Rattle.host_widgets.proofs.Joined.{edge_with}
use Rattle.host_widgets.proofs.LookedUp.{any-found, found-map, found-is, map-twice}
use Rattle.host_widgets.proofs.PutsTaken.{comp_while}
use Rattle.host_widgets.specs.There.{silent_state}
use Rattle.host_widgets.proofs.PartsBetween.{found-left}
use Rattle.host_widgets.proofs.RowsTold.{told}
use Rattle.host_widgets.proofs.StageJoins.{has-comp, used-comp}
use Rattle.host_widgets.proofs.UpStages.{Stage, pipe_as, comps_left, edges_left, pipes_left, stage_graph, stage_streams, at_stage}

-- one pipeline more is complete
abbrev pub with_done : ℕ → Stage → Stage
with_done id st = record { has = st.has; joins = st.joins; todo = st.todo; done = λ x. (x == id) || st.done x }

module _ (plan : Plan) (sound : IsSound plan) (kept : Record) (st : Stage) (whole : (i : Join) → IsIn i st.joins → IsIn i plan.graph.joins) (h : HeapView) (id : ℕ) (p : Pipe) (found : pipe_at plan.graph id ≡ Some p) (there : st.has id ≡ true) (undone : st.done id ≡ false)
    (c : Comp) (sched : comp_of plan.graph p.sched ≡ Some c) (sched_there : st.has p.sched ≡ true) where
  abbrev k : Graph
  k = stage_graph plan kept st

  abbrev f : FwState
  f = silent_state (at_stage plan kept st h)

  same : p.id ≡ id
  same = found-is (λ (x : Pipe). x.id) plan.graph.pipes id p found

  now-pipe : find (λ (x : Pipe). x.id == id) k.pipes ≡ Some (pipe_as st.done p)
  now-pipe = found-map (λ (x : Pipe). x.id) (λ (x : Pipe). x.id) (pipe_as st.done) (λ (x : Pipe). refl) (pipes_left plan st) id p
      (found-left (λ (x : Pipe). x.id == id) (λ (x : Pipe). st.has x.id) plan.graph.pipes p found (ap st.has same ∙ there))

  used : is_used k id ≡ true
  used = or_right (has_comp k id || has_edge k id) (has_pipe k id) (any-found (λ (x : Pipe). x.id == id) k.pipes (pipe_as st.done p) now-pipe)

  one : (q : Pipe) → completed id (pipe_as st.done q) ≡ pipe_as (with_done id st).done q
  one q = by (q.id == id)
    where
      by : (b : Bool) → cond b (record (pipe_as st.done q) { complete = true }) (pipe_as st.done q) ≡ record (pipe_as st.done q) { complete = b || st.done q.id }
      by true = refl
      by false = refl

  each : (qs : List Pipe) → AllByRecursion (λ (q : Pipe). completed id (pipe_as st.done q) ≡ pipe_as (with_done id st).done q) qs
  each [] = tt
  each (q ∷ qs) = (one q, each qs)

  taken : row f (PipeComplete id) ≡ Ok (record f { graph = record { comps = k.comps; edges = k.edges; pipes = map (completed id) k.pipes; joins = k.joins } })
  taken =
      ap (λ (b : Bool). cond (not b) (Err no_device) (complete_pipe f id (find (λ (x : Pipe). x.id == id) k.pipes))) used
      ∙ ap (complete_pipe f id) now-pipe
      ∙ by (is_used k p.sched) (st.done p.id) (has_comp k p.sched) (used-comp plan sound kept st whole p.sched c sched sched_there) (ap st.done same ∙ undone) (has-comp plan sound kept st whole p.sched c sched sched_there)
    where
      left : FwState
      left = record f { graph = record { comps = k.comps; edges = k.edges; pipes = map (completed id) k.pipes; joins = k.joins } }

      by : (a b d : Bool) → a ≡ true → b ≡ false → d ≡ true → cond (not a) (Err no_device) (cond b (Err busy) (cond (not d) (Err invalid) (Ok left))) ≡ Ok left
      by a b d is_a is_b is_d = rw (is_a, is_b, is_d) refl

  pub finish-told : told (row f (PipeComplete id)) ≡ Ok (at_stage plan kept (with_done id st) h)
  finish-told =
      ap told taken
      ∙ (λ i. Ok (record {
        heap = h;
        graph = record { comps = map (comp_while plan kept st.todo) (comps_left plan st); edges = map (edge_with st.joins) (edges_left plan st); pipes = map-twice (completed id) (pipe_as st.done) (pipe_as (with_done id st).done) (pipes_left plan st) (each (pipes_left plan st)) i; joins = st.joins };
        streams = stage_streams plan kept st;
      }))
