-- How many components, buffers and pipelines a graph has, where rule 1 holds.
use Rattle.std.proofs.Common.{ap, ◌≤◌, List, length, count_by, arith, lit<}
use Rattle.std.proofs.lemmas.Bool.{leb-true}
use Rattle.stream_law.specs.declared.graph.Join.{Join}
use Rattle.tplg_widgets.specs.declared.entry.Entry.{Entry}
use Rattle.tplg_widgets.specs.declared.pcm_caps.PcmCaps.{PcmCaps}
use Rattle.tplg_widgets.specs.Entries.{is_buffer_entry, is_component, is_scheduler}
use Rattle.tplg_graph.specs.PlanLists.{pipeline_of, pipes_on}
use Rattle.tplg_walks.specs.Rules.{HoldsAll}
use Rattle.tplg_rules.specs.RuleTable.{counts_rule}
use Rattle.tplg_graph.specs.PlanOf.{graph_on}
use Rattle.tplg_plan.specs.HeapNeed.{IsSmall}
use Rattle.tplg_widgets.proofs.Indexed.{by-index, length-indexed}
use Rattle.tplg_widgets.proofs.ListLengths.{cond-none, length-components, length-edges}

pub length-pipes : (es ps : List Entry) → length (pipes_on es ps) ≤ count_by is_scheduler ps
length-pipes es ps = let n = ap length (by-index (pipeline_of es) ps) in omega (arith, n, length-indexed (pipeline_of es) is_scheduler (λ i p h. cond-none (is_scheduler p) _ h) 0 ps)

-- at most 128 components, 128 buffers and 32 pipelines
pub small : (es ps : List Entry) (pcms : List PcmCaps) (js : List Join) → HoldsAll (counts_rule ps pcms) → IsSmall (graph_on es ps js)
small es ps pcms js counts = record {
  comps = let c = leb-true (count_by is_component ps) 128 (counts 1 (lit< tt)) in omega (arith, c, length-components ps js);
  edges = let b = leb-true (count_by is_buffer_entry ps) 128 (counts 2 (lit< tt)) in omega (arith, b, length-edges ps js);
  pipes = let s = leb-true (count_by is_scheduler ps) 32 (counts 0 (lit< tt)) in omega (arith, s, length-pipes es ps);
}
