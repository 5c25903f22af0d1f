use Rattle.std.proofs.Common.{◌≡◌, Err, rules, sym, ◌∙◌}
use Rattle.sof_script.proofs.ItemLaws.{not_params, params_rate, params_channels}
use Rattle.sof_script.proofs.items.params.Goals as goal

pub returns-then-args-ne4 : goal.returns-then-args-ne4
returns-then-args-ne4 c = sym (not_params c.args.args.now (search rules))

pub returns-in_err-rate : goal.returns-in_err-rate
returns-in_err-rate c =
    let out : c.from_residual.result ≡ Err c.in_err-rate.field-0.0 = search rules in
    out ∙ sym (params_rate c.args.args.now _ c.in_err-rate.field-0.0 (search rules) (sym c.in_err-rate.ensures.value))

pub returns-in_err-channels : goal.returns-in_err-channels
returns-in_err-channels c =
    let out : c.from_residual-in_err-channels.result ≡ Err c.in_err-channels.field-0.0 = search rules in
    out ∙ sym (params_channels c.args.args.now _ c.in_err-channels.field-0.0 (search rules) (sym c.in_err-channels.ensures.value))
