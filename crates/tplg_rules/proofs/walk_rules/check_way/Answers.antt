use Rattle.tplg_walks.specs.Cycles.{ways_rule}
use Rattle.tplg_rules.proofs.RuleFaults.{told-ok, told-err}
use Rattle.tplg_rules.proofs.walk_rules.check_way.Goals as goal

pub returns-clause-ok : goal.returns-clause-ok
returns-clause-ok c = told-ok (ways_rule c.args.ids c.args.comps.now c.args.edges.now) c.failing_way.result c.fault_at.result c.failing_way.ensures c.fault_at.ensures

pub returns-clause-err : goal.returns-clause-err
returns-clause-err c = told-err (ways_rule c.args.ids c.args.comps.now c.args.edges.now) c.failing_way.result c.fault_at.result c.failing_way.ensures c.fault_at.ensures
