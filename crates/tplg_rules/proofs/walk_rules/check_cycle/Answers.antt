use Rattle.tplg_walks.specs.Cycles.{cycles_rule}
use Rattle.tplg_rules.proofs.RuleFaults.{told-ok, told-err}
use Rattle.tplg_rules.proofs.walk_rules.check_cycle.Goals as goal

pub returns-clause-ok : goal.returns-clause-ok
returns-clause-ok c = told-ok (cycles_rule c.args.ids c.args.edges.now) c.failing_cycle.result c.fault_at.result c.failing_cycle.ensures c.fault_at.ensures

pub returns-clause-err : goal.returns-clause-err
returns-clause-err c = told-err (cycles_rule c.args.ids c.args.edges.now) c.failing_cycle.result c.fault_at.result c.failing_cycle.ensures c.fault_at.ensures
