use Rattle.std.proofs.Common.{◌∙◌, refl, sym, arith, rules}
use Rattle.fw_parts.proofs.PartLaws.{cut-none, cut-told, some-own}
use Rattle.fw_parts.proofs.cutting.cut.Goals as goal

pub returns-then-index-count_of : goal.returns-then-index-count_of
returns-then-index-count_of c = cut-none c.args.blob.now c.args.index c.count_of.result c.count_of.ensures (search rules)

pub returns-in-Some : goal.returns-in-Some
returns-in-Some c =
    cut-told c.args.blob.now c.copy_from_slice.new.self c.split_at.result.1.now _ c.in-Some.bytes c.args.index c.min-len.result c.count_of.result c.count_of.ensures (omega arith)
    (c.copy_from_slice.ensures.after ∙ c.split_at.ensures.front) c.split_at.ensures.back refl c.min-len.ensures (some-own _ _ c.in-Some.bytes (sym c.in-Some.is ∙ c.new.ensures))
