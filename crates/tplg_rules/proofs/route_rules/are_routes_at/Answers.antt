use Rattle.std.proofs.Common.{ap, ◌∙◌}
use Rattle.tplg_rules.specs.RuleTable.{are_routes_of}
use Rattle.tplg_rules.proofs.route_rules.are_routes_at.Goals as goal

pub returns : goal.returns
returns c = c.are_routes_of.ensures ∙ ap (are_routes_of c.args.role c.args.joins.now) c.id_at.ensures
