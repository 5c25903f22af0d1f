use Rattle.std.proofs.Common.{◌∙◌, ap, Some}
use Rattle.fw_units.proofs.Taking.{taken-found, taken-left}
use Rattle.fw_units.proofs.table.take_at.Goals as goal

pub returns-clause-found : goal.returns-clause-found
returns-clause-found c = ap (λ x. Some x) c.remove.ensures.value ∙ taken-found c.args.id c.args.components.now.items c.args.at c.remove.result c.requires.place

pub returns-clause-items : goal.returns-clause-items
returns-clause-items c = c.remove.ensures.items ∙ taken-left c.args.id c.args.components.now.items c.args.at c.requires.ascends c.requires.place
