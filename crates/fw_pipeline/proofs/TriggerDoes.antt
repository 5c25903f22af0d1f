-- What a trigger that is not refused does.
use Rattle.std.proofs.Common.{◌≡◌, sym, ap, ◌∙◌, ℕ, List, Bool, true, not, map, ◌==◌, ◌&&◌, Option, Some, None, Ok, Result, ℤ}
use Rattle.std.specs.Prelude.{find, option_map}
use Rattle.sof_base.specs.declared.format.Params.{Params}
use Rattle.stream_law.specs.declared.stream.Phase.{Phase}
use Rattle.stream_law.specs.declared.stream.StreamView.{StreamView}
use Rattle.stream_law.specs.State.{FwState, View}
use Rattle.stream_law.specs.Ways.{live}
use Rattle.stream_law.specs.Seen.{seen, ring_seen}
use Rattle.stream_law.proofs.Placing.{Ascends-distinct}
use Rattle.mbox_link.specs.Step.{has_kind, is_stream_phase, is_host, kind_at, is_used, set_stream}
use Rattle.fw_heap.specs.declared.run.Home.{Home}
use Rattle.fw_units.specs.Units.{streams_by}
use Rattle.fw_components.specs.Tables.{Tables, view_by, graph_of, streams_of, rings_of}
use Rattle.fw_units.specs.Changes.{set_at}
use Rattle.fw_components.specs.Kept.{IsKept}
use Rattle.fw_places.specs.Walks.{is_marked}
use Rattle.fw_pipeline.specs.declared.phases.Trigger.{Trigger}
use Rattle.fw_pipeline.specs.Rows.{view_after, with_view}
use Rattle.fw_components.specs.States.{AreOf, with_tables}
use Rattle.fw_pipeline.specs.Settling.{begins_by}
use Rattle.fw_pipeline.specs.Triggers.{triggered, leaves, phase_after, params_after, params_of, settled_in, begins, IsBegun, BecomeEach, IsTriggered}
use Rattle.fw_pipeline.proofs.TriggerRows.{changed_by, trigger-done, streams-ascend, streams-changed}
use Rattle.fw_pipeline.proofs.Triggered.{seen-set, seen-last, is-triggered}
use Rattle.fw_pipeline.proofs.StateAfter.{state-seen, homes-stay}

pub record Does (what : Trigger) (host : ℕ) (t u : Tables) : Type 0 where
  pub done : IsTriggered what host t u
  pub answer : (f : FwState) → Ok (view_by u) ≡ view_after (triggered what (with_view (view_by t) f) host)
  pub state : (f : FwState) → map (ring_seen (view_by t)) (rings_of t) ≡ rings_of t → Ok (with_tables u f) ≡ triggered what (with_tables t f) host
  pub homes : (home : Home) → AreOf home t → AreOf home u

-- the tables once the host is set
abbrev pub set_tables : ℕ → Phase → Option Params → Tables → Tables
set_tables host phase params t = record { comps = map (set_at host phase params) t.comps; buffers = t.buffers; pipes = t.pipes; joins = t.joins }

module _ (what : Trigger) (host : ℕ) (p : Params) (t t1 t2 t3 : Tables) (kept : IsKept t) (used : is_used (graph_of t) host ≡ true)
    (left : (has_kind is_host (kind_at (graph_of t) host) && is_stream_phase (leaves what) (option_map (λ s. s.phase) (find (λ s. s.host == host) (streams_of t)))) ≡ true)
    (given : Some p ≡ params_of (view_by t) host)
    (set : t1 ≡ set_tables host (phase_after what) (params_after what (Some p)) t)
    (streams : streams_by (map (set_at host (phase_after what) (params_after what (Some p))) t.comps) ≡ map (set_stream host (phase_after what) (params_after what (Some p))) (streams_by t.comps))
    (ids : List ℕ) (before after : List Bool) (was : (x : ℕ) → is_marked ids before x ≡ live (view_by t) x) (now : (x : ℕ) → is_marked ids after x ≡ live (view_by t1) x)
    (comps : BecomeEach (λ c d. IsBegun p.channels p.rate (begins_by ids before after c.id) c d) t1.comps t2.comps)
    (buffers : BecomeEach (λ c d. IsBegun p.channels p.rate (begins_by ids before after c.id) c d) t1.buffers t2.buffers)
    (pipes : t2.pipes ≡ t1.pipes) (joins : t2.joins ≡ t1.joins)
    (ended : t3 ≡ record { comps = t2.comps; buffers = map (settled_in (view_by t2)) t2.buffers; pipes = t2.pipes; joins = t2.joins }) where
  tests : (x : ℕ) → begins_by ids before after x ≡ begins (view_by t) (view_by t1) x
  tests x = ap (λ (q : Bool × Bool). q.0 && not q.1) (λ i. (now x i, was x i))

  is : IsTriggered what host t t3
  is = is-triggered what host p t t1 t2 t3 kept given set (seen-set what host p t t1 set streams) (begins_by ids before after) tests comps buffers pipes joins ended

  view : view_by t3 ≡ record { graph = graph_of t; streams = map (changed_by what host) (streams_of t) }
  view =
      seen-last what host p t t1 t2 t3 kept given set (seen-set what host p t t1 set streams) (begins_by ids before after) tests comps buffers pipes joins ended
      ∙ ap (λ (ss : List StreamView). let v : View = record { graph = graph_of t; streams = ss } in v) (streams-changed (streams_of t) (Ascends-distinct (λ (s : StreamView). s.host) (streams_of t) (streams-ascend t.comps kept.named.comps)) host what (Some p) given)

  pub trigger-does : Does what host t t3
  trigger-does = record {
    done = is;
    answer = λ f. ap (λ (v : View). let r : Result View ℤ = Ok v in r) view ∙ sym (ap view_after (trigger-done what (with_view (view_by t) f) host used left));
    state = λ f settled.
        ap (λ (g : FwState). let r : Result FwState ℤ = Ok g in r) (
        state-seen what host t t3 kept is (ap (λ (v : View). v.graph) view) f settled
        ∙ ap (λ (v : View). seen v None (with_tables t f)) view)
        ∙ sym (trigger-done what (with_tables t f) host used left);
    homes = homes-stay what host t t3 kept is (ap (λ (v : View). v.graph) view);
  }
