use Rattle.std.proofs.Common.{◌∙◌, ap, List, ℕ}
use Rattle.fw_components.specs.Values.{values_set}
use Rattle.fw_core.proofs.Values.{set-is}
use Rattle.fw_core.proofs.value_rows.set_value.Goals as goal

pub returns : goal.returns
returns c = λ r held. set-is c.args.registry.now c.set_values.new.self r c.args.id c.args.command c.args.values.now held c.set_values.result (c.set_values.ensures.answer ∙ ap (λ (xs : List ℕ). values_set c.args.registry.now c.args.id c.args.command xs) c.items.ensures.value) c.set_values.ensures.kept
