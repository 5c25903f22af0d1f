use Rattle.tplg_rules.specs.RuleTest.{rule_number, items_of, holds_at, rule_by}
use Rattle.tplg_rules.proofs.RuleLaws.{first-found}
use Rattle.tplg_rules.proofs.RuleFaults.{told-ok, told-err}
use Rattle.std.proofs.Common.{◌≡◌, IsOk, MatchOption, subst, Err}
use Rattle.tplg_rules.specs.declared.plan_fault.PlanFault.TheVariants as fault
use Rattle.tplg_rules.proofs.rule_table.check.Goals as goal

pub returns-clause-ok : goal.returns-clause-ok
returns-clause-ok c = told-ok (rule_by c.args.rule c.args.wiring.now) c.first_failing.result c.fault_at.result (first-found (rule_number c.args.rule) (items_of c.args.rule c.args.wiring.now) (holds_at c.args.rule c.args.wiring.now) c.first_failing.result c.first_failing.ensures) (subst (λ n. MatchOption c.first_failing.result (IsOk c.fault_at.result) (λ i. c.fault_at.result ≡ Err (fault.Rule n i))) c.number.ensures c.fault_at.ensures)

pub returns-clause-err : goal.returns-clause-err
returns-clause-err c = told-err (rule_by c.args.rule c.args.wiring.now) c.first_failing.result c.fault_at.result (first-found (rule_number c.args.rule) (items_of c.args.rule c.args.wiring.now) (holds_at c.args.rule c.args.wiring.now) c.first_failing.result c.first_failing.ensures) (subst (λ n. MatchOption c.first_failing.result (IsOk c.fault_at.result) (λ i. c.fault_at.result ≡ Err (fault.Rule n i))) c.number.ensures c.fault_at.ensures)
