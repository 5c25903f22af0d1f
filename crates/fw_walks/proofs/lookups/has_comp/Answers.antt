use Rattle.std.proofs.Common.{ap, ◌∙◌, List}
use Rattle.fw_units.specs.declared.component.Component.{Component}
use Rattle.fw_units.specs.Changes.{has_id}
use Rattle.fw_walks.proofs.Naming.{comp-named}
use Rattle.fw_walks.proofs.lookups.has_comp.Goals as goal

pub returns : goal.returns
returns c = c.has_id.ensures ∙ ap (λ (cs : List Component). has_id cs c.args.id) c.comps.ensures.items ∙ comp-named c.args.registry.now c.args.id
