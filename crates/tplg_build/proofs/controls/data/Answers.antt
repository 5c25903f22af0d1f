use Rattle.std.proofs.Common.{◌≤◌, ◌<◌, ◌^◌, ◌∷◌, [], length, arith}
use Rattle.tplg_model.specs.declared.control.Control.TheVariants.{Bytes}
use Rattle.tplg_build.specs.WidgetForm.{plain_head}
use Rattle.tplg_build.proofs.OfProgram.{bytes_is}
use Rattle.tplg_build.proofs.RecordSizes.{control_size}
use Rattle.tplg_build.proofs.controls.data.Goals as goal

pub returns-clause-is : goal.returns-clause-is
returns-clause-is c =
    let few : length c.args.blob.now < 2 ^ 32 = omega (arith, c.requires) in
    rw (c.plain_head.ensures, c.copied.ensures.value, c.from_vec.ensures, c.in_ok-from_slice.ensures.items) (bytes_is c.args.name.now c.args.max c.args.blob.now c.copied.ensures.is_name (omega arith) few)

pub returns-clause-short : goal.returns-clause-short
returns-clause-short c =
    let few : length c.args.blob.now ≤ 4000000 = omega (arith, c.requires) in
    let is = bytes_is c.args.name.now c.args.max c.args.blob.now c.copied.ensures.is_name (omega arith) (omega arith) in
    rw (c.plain_head.ensures, c.copied.ensures.value, c.from_vec.ensures, c.in_ok-from_slice.ensures.items) (omega (arith, few, control_size (Bytes (plain_head 2 c.args.name.now) c.args.max 0 0 0 (0 ∷ 0 ∷ 0 ∷ []) c.args.blob.now) is))
