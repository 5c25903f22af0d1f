-- A topology is well-formed where all fourteen rules hold.
use Rattle.std.specs.Prelude.{ℕ, List, [], ◌∷◌, ◌++◌, length}
use Rattle.stream_law.specs.declared.graph.Comp.{Comp}
use Rattle.stream_law.specs.declared.graph.Edge.{Edge}
use Rattle.stream_law.specs.declared.graph.Join.{Join}
use Rattle.tplg_model.specs.declared.block.Topology.{Topology}
use Rattle.tplg_widgets.specs.declared.entry.Entry.{Entry}
use Rattle.tplg_widgets.specs.declared.pcm_caps.PcmCaps.{PcmCaps}
use Rattle.tplg_widgets.specs.declared.route_end.Ends.{Ends}
use Rattle.tplg_widgets.specs.Entries.{interpreted}
use Rattle.tplg_widgets.specs.GraphLists.{components_on, edges_on}
use Rattle.tplg_walks.specs.Rules.{AllHold, BreaksOf}
use Rattle.tplg_walks.specs.Rules.{Rule as A_rule}
use Rattle.tplg_rules.specs.RuleTable.{counts_rule, names_rule, ends_rule, routes_rule, buffers_rule, components_rule, indices_rule, scheds_rule, periods_rule, dais_rule, hosts_rule, sizes_rule, controls_rule}
use Rattle.tplg_walks.specs.Cycles.{cycles_rule, ways_rule}
use Rattle.tplg_widgets.specs.WiringValue.{WiringValue, wiring_of}

-- rules 2 to 4, over the widgets and the ends of routes
abbrev pub front_rules : List Entry → List Ends → List A_rule
front_rules es rs = names_rule es ∷ ends_rule rs ∷ routes_rule rs ∷ []

-- rules 5 to 7, over the widgets, the interpreted ones and the real routes
abbrev pub join_rules : List Entry → List Entry → List Join → List A_rule
join_rules es ps js = buffers_rule es js ∷ components_rule es js ∷ indices_rule es ps ∷ []

-- rules 8 to 10
abbrev pub token_rules : List Entry → List Join → List A_rule
token_rules es js = scheds_rule es ∷ periods_rule es ∷ dais_rule es js ∷ []

-- rules 11 to 13, over the PCMs too
abbrev pub record_rules : List Entry → List PcmCaps → List A_rule
record_rules es pcms = hosts_rule es pcms ∷ sizes_rule es ∷ controls_rule es ∷ []

-- both parts of rule 14, over the components and the edges
abbrev pub walk_rules : List Entry → List Comp → List Edge → List A_rule
walk_rules ps comps edges = cycles_rule (length ps) edges ∷ ways_rule (length ps) comps edges ∷ []

-- both parts of rule 14, over the real routes
abbrev pub way_rules : List Entry → List Join → List A_rule
way_rules ps js = walk_rules ps (components_on ps js) (edges_on ps js)

-- rules 2 to 13
abbrev pub middle_rules : List Entry → List Entry → List PcmCaps → List Ends → List Join → List A_rule
middle_rules es ps pcms rs js = front_rules es rs ++ (join_rules es ps js ++ (token_rules es js ++ record_rules es pcms))

-- rules 2 to 14
abbrev pub later_rules : List Entry → List Entry → List PcmCaps → List Ends → List Join → List A_rule
later_rules es ps pcms rs js = middle_rules es ps pcms rs js ++ way_rules ps js

-- all, in number order
abbrev pub rules_on : List Entry → List Entry → List PcmCaps → List Ends → List Join → List A_rule
rules_on es ps pcms rs js = counts_rule ps pcms ∷ later_rules es ps pcms rs js

abbrev pub rules_by : WiringValue → List A_rule
rules_by w = rules_on w.widgets (interpreted w.widgets) w.pcms w.ends w.joins

-- the rules of a topology in number order
abbrev pub rules_of : Topology → List A_rule
rules_of t = rules_by (wiring_of t)

abbrev pub IsWellFormed : Topology → Type 0
IsWellFormed t = AllHold (rules_of t)

-- the first rule that fails in number order has this number, and fails first at this item
abbrev pub Breaks : Topology → ℕ → ℕ → Type 0
Breaks t rule item = BreaksOf (rules_of t) rule item
