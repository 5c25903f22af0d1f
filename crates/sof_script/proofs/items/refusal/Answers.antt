use Rattle.std.proofs.Common.{◌≡◌, Err, rules, sym, ◌∙◌}
use Rattle.sof_script.proofs.ItemLaws.{not_error, error_message}
use Rattle.sof_script.proofs.items.refusal.Goals as goal

pub returns-then-args-ne2 : goal.returns-then-args-ne2
returns-then-args-ne2 c = sym (not_error c.args.args.now (search rules))

pub returns-in_err-message : goal.returns-in_err-message
returns-in_err-message c =
    let out : c.from_residual.result ≡ Err c.in_err-message.field-0.0 = search rules in
    out ∙ sym (error_message c.args.args.now _ c.in_err-message.field-0.0 (search rules) (sym c.in_err-message.ensures.value))
