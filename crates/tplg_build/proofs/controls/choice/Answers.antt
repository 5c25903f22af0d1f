use Rattle.std.proofs.Common.{[], length, replicate, ap, ◌∙◌, arith}
use Rattle.tplg_model.specs.declared.control.Control.TheVariants.{Enum}
use Rattle.tplg_build.specs.WidgetForm.{plain_head, channel_records}
use Rattle.tplg_build.proofs.Padded.{length-padded}
use Rattle.tplg_build.proofs.OfProgram.{enum_is}
use Rattle.tplg_build.proofs.RecordSizes.{control_size}
use Rattle.tplg_build.proofs.controls.choice.Goals as goal

pub returns-clause-is : goal.returns-clause-is
returns-clause-is c =
    let size = ap length c.field.ensures ∙ length-padded 704 c.as_slice.result.now (omega (arith, ap length c.as_slice.ensures.value, c.in_ok-texts.ensures.size, ap length c.items-items.ensures.value, c.items-items.ensures.few.1)) in
    rw (c.plain_head.ensures, c.copied.ensures.value, c.new.ensures) (enum_is c.args.name.now (length c.items-items.result.now) c.field.result c.copied.ensures.is_name (omega (arith, ap length c.items-items.ensures.value, c.items-items.ensures.few.1)) size)

pub returns-clause-short : goal.returns-clause-short
returns-clause-short c =
    let size = ap length c.field.ensures ∙ length-padded 704 c.as_slice.result.now (omega (arith, ap length c.as_slice.ensures.value, c.in_ok-texts.ensures.size, ap length c.items-items.ensures.value, c.items-items.ensures.few.1)) in
    let is = enum_is c.args.name.now (length c.items-items.result.now) c.field.result c.copied.ensures.is_name (omega (arith, ap length c.items-items.ensures.value, c.items-items.ensures.few.1)) size in
    rw (c.plain_head.ensures, c.copied.ensures.value, c.new.ensures) (control_size (Enum (plain_head 3 c.args.name.now) 1 (channel_records 8) (length c.items-items.result.now) 0 (length c.items-items.result.now) c.field.result (replicate 176 0) []) is)
