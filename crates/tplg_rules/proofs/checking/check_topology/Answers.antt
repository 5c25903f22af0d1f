use Rattle.tplg_rules.specs.WellFormed.{rules_of}
use Rattle.tplg_rules.proofs.RuleTellings.{kept, broken}
use Rattle.tplg_rules.proofs.checking.check_topology.Goals as goal

pub returns-clause-kept : goal.returns-clause-kept
returns-clause-kept c = kept (rules_of c.args.topology.now) c.check_in_form.result c.check_in_form.ensures.err

pub returns-clause-broken : goal.returns-clause-broken
returns-clause-broken c = broken (rules_of c.args.topology.now) c.check_in_form.result c.check_in_form.ensures.ok c.check_in_form.ensures.err
