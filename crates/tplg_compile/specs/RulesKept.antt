-- Which rules a topology keeps.
use Rattle.std.specs.Prelude.{ℕ}
use Rattle.tplg_model.specs.declared.block.Topology.{Topology}
use Rattle.tplg_rules.specs.WellFormed.{IsWellFormed, Breaks}
use Rattle.tplg_rules.specs.declared.plan_fault.PlanFault.{PlanFault}
use Rattle.tplg_rules.specs.declared.plan_fault.PlanFault.TheVariants as plan
use Rattle.tplg_compile.specs.declared.source_fault.SourceFault.{SourceFault}
use Rattle.tplg_compile.specs.declared.source_fault.SourceFault.TheVariants.{Rule, OutOfMemory}

-- a topology keeps all rules
unfoldable pub KeepsRules : Topology → Type 0
KeepsRules t = IsWellFormed t

-- it breaks this rule first, and first at this item
unfoldable pub BreaksRule : Topology → ℕ → ℕ → Type 0
BreaksRule t rule item = Breaks t rule item

-- a fault that names the first rule that a topology breaks
abbrev pub IsRuleFault : Topology → SourceFault → Type 0
IsRuleFault t (Rule rule item) = BreaksRule t rule item
IsRuleFault t f = ⊥

-- the fault that is answered for a planner's fault
abbrev pub rule_told : PlanFault → SourceFault
rule_told (plan.Rule rule item) = Rule rule item
rule_told plan.OutOfMemory = OutOfMemory
