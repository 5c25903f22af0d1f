use Rattle.std.proofs.Common.{ap, ◌∙◌}
use Rattle.tplg_rules.specs.RuleTable.{is_scheduled}
use Rattle.tplg_rules.proofs.route_rules.is_scheduled_at.Goals as goal

pub returns : goal.returns
returns c = c.is_scheduled.ensures ∙ ap (is_scheduled c.args.parts.now) c.index.ensures
