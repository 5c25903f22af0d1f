use Rattle.std.proofs.Common.{subst, OnOk, IfErr}
use Rattle.tplg_widgets.specs.WiringValue.{WiringValue}
use Rattle.tplg_walks.specs.Rules.{AllHold}
use Rattle.tplg_rules.specs.WellFormed.{rules_by}
use Rattle.tplg_rules.specs.RuleFaults.{IsFaultOf}
use Rattle.tplg_graph.proofs.planning.plan_in_form.Goals as goal

pub returns-clause-ok : goal.returns-clause-ok
returns-clause-ok c = subst (λ (w : WiringValue). OnOk c.plan_ruled.result (AllHold (rules_by w))) c.in_ok-wiring.ensures c.plan_ruled.ensures.ok

pub returns-clause-err : goal.returns-clause-err
returns-clause-err c = subst (λ (w : WiringValue). IfErr c.plan_ruled.result (IsFaultOf (rules_by w))) c.in_ok-wiring.ensures c.plan_ruled.ensures.err
