use Rattle.std.proofs.Common.{sym, ap, [], Ok, Err}
use Rattle.std.specs.Prelude.{Option}
use Rattle.sof_base.specs.declared.part.Part.{Part}
use Rattle.ipc3_model.specs.declared.reply.Body.TheVariants as bodies
use Rattle.mbox_link.specs.Step.{get_data, part_body}
use Rattle.fw_core.proofs.RowLaws.{row-stays}
use Rattle.fw_core.proofs.PartGot.{part-got}
use Rattle.fw_core.proofs.data_rows.get_part.Goals as goal

pub returns-in-Ok-clause-row : goal.returns-in-Ok-clause-row
returns-in-Ok-clause-row c = λ r held.
    row-stays (λ f. get_data f c.args.id c.args.index) c.args.registry.now r (Ok (bodies.Part c.in-Ok.part)) held (λ clock. sym ((part-got c.args.registry.now r.holes clock c.args.id c.args.index).done c.in-Ok.part (sym c.in-Ok.ensures)).0)

pub returns-in-Ok-clause-body : goal.returns-in-Ok-clause-body
returns-in-Ok-clause-body c =
    ap (λ (o : Option Part). part_body o) (sym ((part-got c.args.registry.now [] 0 c.args.id c.args.index).done c.in-Ok.part (sym c.in-Ok.ensures)).1)

pub returns-in-Err-clause-row : goal.returns-in-Err-clause-row
returns-in-Err-clause-row c = λ r held.
    row-stays (λ f. get_data f c.args.id c.args.index) c.args.registry.now r (Err c.in-Err.error) held (λ clock. sym ((part-got c.args.registry.now r.holes clock c.args.id c.args.index).refused c.in-Err.error.0 (sym c.in-Err.ensures)))
