use Rattle.std.proofs.Common.{◌≡◌, ◌∙◌, refl, sym, ap, ◌+◌, ◌*◌, ◌++◌, ◌==◌, take, length, cond, List, ℕ, arith}
use Rattle.fw_parts.proofs.PartLaws.{join-is}
use Rattle.fw_reasons.proofs.parting.join.Goals as goal

pub returns-clause-bytes : goal.returns-clause-bytes
returns-clause-bytes c =
    let at : ℕ = 32 + 260 * c.args.part.now.index in
    let own : c.copy_from_slice.new.self ≡ c.args.part.now.bytes = c.copy_from_slice.ensures.after ∙ c.items-2.ensures.value in
    join-is c.args.bytes.now c.begin.new.bytes _ c.args.part.now.header c.copy_from_slice.new.self _ c.args.part.now.index at _ c.begin.ensures refl
    (ap (λ (xs : List ℕ). at + length xs) (c.items.ensures.value ∙ sym own)) (omega (arith, c.requires, c.begin.array_long)) c.told-bytes c.begin.array_long refl
    ∙ ap (λ (xs : List ℕ). cond (c.args.part.now.index == 0) c.args.part.now.header (take at c.args.bytes.now) ++ xs) own
