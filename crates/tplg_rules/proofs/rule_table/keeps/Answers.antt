use Rattle.tplg_rules.specs.RuleTest.{rule_number, items_of, holds_at}
use Rattle.tplg_rules.proofs.RuleLaws.{kept}
use Rattle.tplg_rules.proofs.rule_table.keeps.Goals as goal

pub returns : goal.returns
returns c = kept (rule_number c.args.rule) (items_of c.args.rule c.args.wiring.now) (holds_at c.args.rule c.args.wiring.now) c.first_failing.result c.is_none.result c.is_none.ensures c.first_failing.ensures
