use Rattle.std.proofs.Common.{◌∙◌}
use Rattle.tplg_rules.proofs.Places.{names-agree}
use Rattle.tplg_rules.proofs.widget_rules.name_holds.Goals as goal

pub returns : goal.returns
returns c = c.is_named_first.ensures ∙ names-agree c.args.widgets.now c.args.k
