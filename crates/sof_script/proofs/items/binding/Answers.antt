use Rattle.std.proofs.Common.{◌≡◌, Err, rules, sym, ◌∙◌}
use Rattle.sof_script.proofs.ItemLaws.{not_bound, bound_endpoint}
use Rattle.sof_script.proofs.items.binding.Goals as goal

pub returns-then-args-ne2 : goal.returns-then-args-ne2
returns-then-args-ne2 c = sym (not_bound c.args.input c.args.args.now (search rules))

pub returns-in_err-endpoint : goal.returns-in_err-endpoint
returns-in_err-endpoint c =
    let out : c.from_residual.result ≡ Err c.in_err-endpoint.field-0.0 = search rules in
    out ∙ sym (bound_endpoint c.args.input c.args.args.now _ c.in_err-endpoint.field-0.0 (search rules) (sym c.in_err-endpoint.ensures))
