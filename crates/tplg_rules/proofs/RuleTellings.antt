-- What an answer tells of rules that are all kept, and of one that is broken.
use Rattle.std.proofs.Common.{◌≡◌, refl, ℕ, List, Result, Ok, Err, OnOk, IfErr, inl, inr}
use Rattle.tplg_rules.specs.declared.plan_fault.PlanFault.{PlanFault}
use Rattle.tplg_rules.specs.declared.plan_fault.PlanFault.TheVariants as fault
use Rattle.tplg_walks.specs.Rules.{AllHold, BreaksOf}
use Rattle.tplg_walks.specs.Rules.{Rule as A_rule}
use Rattle.tplg_rules.specs.RuleFaults.{IsFaultOf, Tells}
use Rattle.tplg_rules.proofs.RuleLaws.{none_breaks, one_breaks}

-- where all rules hold, want of memory is the one fault
pub kept : {X : Type 0} (rs : List A_rule) (r : Result X PlanFault) → IfErr r (IsFaultOf rs) → AllHold rs → IfErr r (λ e. e ≡ fault.OutOfMemory)
kept rs (Ok x) f all = tt
kept rs (Err (fault.Rule rule item)) f all = absurd (none_breaks rs rule item all f)
kept rs (Err fault.OutOfMemory) f all = refl

-- where a rule is broken, it is told
pub broken : {X : Type 0} (rs : List A_rule) (r : Result X PlanFault) → OnOk r (AllHold rs) → IfErr r (IsFaultOf rs) → (rule item : ℕ) → BreaksOf rs rule item → Tells rule item r
broken rs (Ok x) a f rule item b = none_breaks rs rule item a b
broken rs (Err (fault.Rule s j)) a f rule item b = let same = one_breaks rs s j rule item f b in inl (λ i. fault.Rule (same.0 i) (same.1 i))
broken rs (Err fault.OutOfMemory) a f rule item b = inr refl
