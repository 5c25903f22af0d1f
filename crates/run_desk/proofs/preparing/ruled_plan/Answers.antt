use Rattle.std.proofs.Common.{IfErr, Some, subst, ◌∙◌}
use Rattle.tplg_rules.specs.WellFormed.{rules_of}
use Rattle.tplg_rules.specs.RuleFaults.{IsFaultOf}
use Rattle.tplg_rules.proofs.RuleTests.{breaks_some}
use Rattle.run_desk.proofs.preparing.ruled_plan.Goals as goal

pub returns-in-Err-Rule-clause-plan : goal.returns-in-Err-Rule-clause-plan
returns-in-Err-Rule-clause-plan c =
    let t = c.args.topology.now in
    breaks_some t c.in-Err-Rule.rule c.in-Err-Rule.item (subst (λ e. IsFaultOf (rules_of t) e) c.in-Err-Rule.field-0-is (subst (λ r. IfErr r (IsFaultOf (rules_of t))) c.in-Err-Rule.is c.plan.ensures.err))
    ∙ (λ i. Some (c.in-Err-Rule.rule-is i, c.in-Err-Rule.item-is i))
