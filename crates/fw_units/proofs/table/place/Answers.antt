use Rattle.fw_units.specs.declared.component.Component.{Component}
use Rattle.std.proofs.Common.{◌∙◌, sym}
use Rattle.fw_units.proofs.Inserting.{inserted-placed}
use Rattle.fw_units.proofs.table.place.Goals as goal

pub returns-clause-items : goal.returns-clause-items
returns-clause-items c =
    inserted-placed (λ (x : Component). x.id) c.args.component c.args.components.now.items c.as_slice.result.now _ c.len-end.result c.unwrap_or-at.result c.first_above.result c.as_slice.ensures.value (c.len-end.ensures ∙ sym c.as_slice.ensures.len) c.first_above.ensures c.unwrap_or-at.ensures c.in-Ok.ensures.items
