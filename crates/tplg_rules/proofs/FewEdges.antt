-- How many edges there are where rule 1 holds.
use Rattle.std.proofs.Common.{◌≤◌, List, [], ◌∷◌, length, count_by, arith, lit<}
use Rattle.std.proofs.lemmas.Bool.{leb-true}
use Rattle.stream_law.specs.declared.graph.Join.{Join}
use Rattle.tplg_widgets.specs.declared.entry.Entry.{Entry}
use Rattle.tplg_widgets.specs.declared.pcm_caps.PcmCaps.{PcmCaps}
use Rattle.tplg_widgets.specs.Entries.{is_buffer_entry}
use Rattle.tplg_widgets.specs.GraphLists.{edges_on}
use Rattle.tplg_walks.specs.Rules.{AllHold}
use Rattle.tplg_rules.specs.RuleTable.{counts_rule}
use Rattle.tplg_widgets.proofs.ListLengths.{length-edges}

pub few-edges : (ps : List Entry) (pcms : List PcmCaps) (js : List Join) → AllHold (counts_rule ps pcms ∷ []) → length (edges_on ps js) ≤ 128
few-edges ps pcms js counts = let b = leb-true (count_by is_buffer_entry ps) 128 (counts.0 2 (lit< tt)) in omega (arith, b, length-edges ps js)
