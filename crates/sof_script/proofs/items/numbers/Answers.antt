use Rattle.std.proofs.Common.{◌≡◌, Err, rules, sym, ◌∙◌}
use Rattle.sof_script.proofs.ItemLaws.{Counted-fault}
use Rattle.sof_script.proofs.items.numbers.Goals as goal

pub returns-in_err-number : goal.returns-in_err-number
returns-in_err-number c =
    let out : c.from_residual.result ≡ Err c.in_err-number.field-0.0 = search rules in
    out ∙ sym (Counted-fault c.args.tokens.now c.loop-token.token-index c.loop-token.numbers.items _ c.in_err-number.field-0.0 c.loop-token.invariant c.loop-token-test.true (sym c.in_err-number.ensures.value))
