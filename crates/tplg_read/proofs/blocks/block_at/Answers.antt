use Rattle.std.proofs.Common.{◌+◌, ◌-◌, arith}
use Rattle.sof_base.specs.Slots.{part}
use Rattle.sof_base.proofs.FieldLaws.{IsBytes-part, length-part}
use Rattle.tplg_model.proofs.BlockLaws.{body_sound}
use Rattle.tplg_read.proofs.blocks.block_at.Goals as goal

pub invariant_of-result : goal.invariant_of-result
invariant_of-result c =
    let size = 36 + c.word-size.result - 36 in
    let bytes = c.args.bytes.now in
    body_sound c.word-kind.result c.word-count.result (c.args.at + 36) (part bytes 36 size) c.in_ok-body.body
    (IsBytes-part bytes 36 size (λ i. omega (arith, c.type_inv.bytes i)))
    (omega (arith, length-part bytes 36 size (omega (arith, c.if-bytes-lt36.false, c.if-bytes-size.false)), c.word-size.type_inv))
    c.in_ok-body.ensures
