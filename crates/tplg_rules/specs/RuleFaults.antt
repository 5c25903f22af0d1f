-- How a fault tells the first rule that is broken.
use Rattle.std.specs.Prelude.{◌≡◌, ℕ, List, ◌⊎◌, Result, Ok, Err}
use Rattle.tplg_rules.specs.declared.plan_fault.PlanFault.{PlanFault}
use Rattle.tplg_rules.specs.declared.plan_fault.PlanFault.TheVariants as fault
use Rattle.tplg_widgets.specs.Entries.{interpreted}
use Rattle.tplg_walks.specs.Rules.{BreaksOf, Rule as A_rule}
use Rattle.tplg_widgets.specs.WiringValue.{WiringValue}
use Rattle.tplg_rules.specs.WellFormed.{way_rules, middle_rules}

-- over what is read of a topology
abbrev pub middle_by : WiringValue → List A_rule
middle_by w = middle_rules w.widgets (interpreted w.widgets) w.pcms w.ends w.joins

abbrev pub ways_by : WiringValue → List A_rule
ways_by w = way_rules (interpreted w.widgets) w.joins

-- a fault but want of memory names what is broken
abbrev pub IsFaultOf : List A_rule → PlanFault → Type 0
IsFaultOf rs (fault.Rule rule item) = BreaksOf rs rule item
IsFaultOf rs fault.OutOfMemory = Unit {0}

-- where a rule is broken, it is named, or there was no memory
abbrev pub Tells : {X : Type 0} → ℕ → ℕ → Result X PlanFault → Type 0
Tells rule item (Ok x) = ⊥
Tells rule item (Err e) = (e ≡ fault.Rule rule item) ⊎ (e ≡ fault.OutOfMemory)
