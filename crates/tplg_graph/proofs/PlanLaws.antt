-- What is so of the plan of a well-formed topology.
use Rattle.std.proofs.Common.{◌≡◌, sym, subst, suc, Result, Ok, Err, OnOk, IfOk}
use Rattle.tplg_model.specs.declared.block.Topology.{Topology}
use Rattle.tplg_plan.specs.declared.plans.Plan.{Plan}
use Rattle.tplg_rules.specs.declared.plan_fault.PlanFault.{PlanFault}
use Rattle.stream_law.specs.Ways.{components}
use Rattle.tplg_widgets.specs.Entries.{entries_of, interpreted}
use Rattle.tplg_widgets.specs.PcmList.{pcms_of}
use Rattle.tplg_widgets.specs.Ends.{joins_of}
use Rattle.tplg_graph.specs.PlanOf.{plan_of}
use Rattle.tplg_plan.specs.HeapNeed.{IsSmall, need_on}
use Rattle.tplg_graph.specs.TopologyNeed.{need_of}
use Rattle.tplg_walks.specs.Cycles.{Reaches}
use Rattle.tplg_graph.specs.Orderable.{IsOrderable, IsAcyclic}
use Rattle.tplg_rules.specs.WellFormed.{IsWellFormed}
use Rattle.tplg_graph.proofs.GraphSize.{small}
use Rattle.tplg_graph.proofs.GraphNeed.{graph-need}
use Rattle.tplg_graph.proofs.OrderableEnds.{all-known}
use Rattle.tplg_graph.proofs.OrderableIds.{comps-distinct, comps-below}
use Rattle.tplg_graph.proofs.Known.{known-source, known-sink, joined-source}
use Rattle.tplg_graph.proofs.JoinedWalks.{walk-joined}

-- a fact on a well-formed topology's plan
pub on-plan : (t : Topology) (r : Result Plan PlanFault) (P : Plan → Type 0) → OnOk r (IsWellFormed t) → IfOk r (λ p. p ≡ plan_of t) → (IsWellFormed t → P (plan_of t)) → IfOk r P
on-plan t (Ok p) P a e f = subst P (sym e) (f a)
on-plan t (Err x) P a e f = tt

pub is-small : (t : Topology) → IsWellFormed t → IsSmall (plan_of t).graph
is-small t w = small (entries_of t) (interpreted (entries_of t)) (pcms_of t) (joins_of t) w.0

-- rule 8 is the eighth
pub is-need : (t : Topology) → IsWellFormed t → need_on (plan_of t).graph ≡ need_of t
is-need t w = graph-need (entries_of t) (joins_of t) w.1.1.1.1.1.1.1.0

pub is-orderable : (t : Topology) → IsOrderable (plan_of t).graph
is-orderable t = record {
  distinct = comps-distinct (interpreted (entries_of t)) (joins_of t);
  ends = record {
    sources = λ buffer a h. known-source (plan_of t).graph buffer a (all-known t) h;
    sinks = λ buffer a h. known-sink (plan_of t).graph buffer a (all-known t) h;
  };
}

-- rule 14 is after the thirteenth
pub is-acyclic : (t : Topology) → IsWellFormed t → IsAcyclic (plan_of t).graph
is-acyclic t w (c, n, walk) =
    let ps = interpreted (entries_of t) in
    let r : Reaches (plan_of t).graph.edges c c = (n, walk-joined (plan_of t).graph (suc n) c c walk) in
    let known = joined-source (components (plan_of t).graph) (plan_of t).graph.edges c r.1.0 (all-known t) r.1.1 in
    w.1.1.1.1.1.1.1.1.1.1.1.1.1.0 c (comps-below ps (joins_of t) c known) r
