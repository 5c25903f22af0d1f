use Rattle.std.proofs.Common.{sym, ap, [], Ok, Err}
use Rattle.std.specs.Prelude.{List, ℕ, Option}
use Rattle.ipc3_model.specs.declared.reply.Body.TheVariants.{Values}
use Rattle.mbox_link.specs.Step.{get_value, values_body}
use Rattle.fw_core.proofs.RowLaws.{row-stays}
use Rattle.fw_core.proofs.Values.{got}
use Rattle.fw_core.proofs.value_rows.get_value.Goals as goal

pub returns-in-Ok-clause-row : goal.returns-in-Ok-clause-row
returns-in-Ok-clause-row c = λ r held.
    row-stays (λ f. get_value f c.args.id c.args.command) c.args.registry.now r (Ok (Values c.in-Ok.values)) held (λ clock. sym ((got c.args.registry.now r.holes clock c.args.id c.args.command).done c.in-Ok.values (sym c.in-Ok.ensures)).0)

pub returns-in-Ok-clause-body : goal.returns-in-Ok-clause-body
returns-in-Ok-clause-body c =
    ap (λ (o : Option (List ℕ)). values_body o) (sym ((got c.args.registry.now [] 0 c.args.id c.args.command).done c.in-Ok.values (sym c.in-Ok.ensures)).1)

pub returns-in-Err-clause-row : goal.returns-in-Err-clause-row
returns-in-Err-clause-row c = λ r held.
    row-stays (λ f. get_value f c.args.id c.args.command) c.args.registry.now r (Err c.in-Err.error) held (λ clock. sym ((got c.args.registry.now r.holes clock c.args.id c.args.command).refused c.in-Err.error.0 (sym c.in-Err.ensures)))
