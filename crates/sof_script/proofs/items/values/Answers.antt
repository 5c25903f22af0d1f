use Rattle.std.proofs.Common.{◌≡◌, List, ℕ, Err, rules, sym, ap, ◌∙◌}
use Rattle.std.specs.Borrow.{Bor}
use Rattle.sof_script.specs.TokenStarts.{texts}
use Rattle.sof_script.specs.Commands.{number_values}
use Rattle.sof_script.proofs.ItemLaws.{values_few, values_many, values_are, values_fault, values_name, values_good}
use Rattle.sof_script.proofs.items.values.Goals as goal

pub returns-then-args-lt2 : goal.returns-then-args-lt2
returns-then-args-lt2 c = sym (values_few c.args.args.now (search rules))

pub returns-then-args-gt9 : goal.returns-then-args-gt9
returns-then-args-gt9 c = sym (values_many c.args.args.now (search rules))

pub returns-in_err-values : goal.returns-in_err-values
returns-in_err-values c =
    let out : c.from_residual.result ≡ Err c.in_err-values.field-0.0 = search rules in
    let fault = sym (c.in_err-values.ensures ∙ ap (λ (l : List (Bor (List ℕ))). number_values (texts l)) c.split_at.ensures.back) in
    out ∙ sym (values_fault c.args.args.now c.in_err-values.field-0.0 (search rules) (search rules) fault)

pub returns-in_err-control : goal.returns-in_err-control
returns-in_err-control c =
    let out : c.from_residual-in_err-control.result ≡ Err c.in_err-control.field-0.0 = search rules in
    let good = sym (c.in_ok-values.ensures ∙ ap (λ (l : List (Bor (List ℕ))). number_values (texts l)) c.split_at.ensures.back) in
    out ∙ sym (values_are c.args.args.now _ (search rules) (search rules) ∙ values_name _ _ c.in_ok-values.values c.in_err-control.field-0.0 (sym c.in_err-control.ensures) good)

pub returns : goal.returns
returns c =
    let good = sym (c.in_ok-values.ensures ∙ ap (λ (l : List (Bor (List ℕ))). number_values (texts l)) c.split_at.ensures.back) in
    sym (values_are c.args.args.now _ (search rules) (search rules) ∙ values_good _ _ c.in_ok-control.control c.in_ok-values.values (sym c.in_ok-control.ensures) good)
