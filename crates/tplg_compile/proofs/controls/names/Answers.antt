use Rattle.std.proofs.Common.{◌≡◌, Some, None, get_or, sym, ap, ◌∙◌, arith}
use Rattle.std.proofs.lemmas.Result.{err_from_is_err_and}
use Rattle.toml.specs.View.{view}
use Rattle.tplg_compile.specs.ValueForm.{each, name_of}
use Rattle.tplg_compile.specs.ProgramValues.{viewed}
use Rattle.tplg_compile.proofs.SeenLaws.{seen-drop, seen-past}
use Rattle.tplg_compile.proofs.LoopLaws.{behind, each-more, each-lacks, each-end, through}
use Rattle.tplg_compile.proofs.controls.names.Goals as goal

pub returns-in_err-name : goal.returns-in_err-name
returns-in_err-name c =
    let vs = c.args.values.now in
    let i = c.loop-value.value-index in
    let v = c.value-item.result in
    let done = c.loop-value.names.items in
    let p = err_from_is_err_and c.from_residual.result c.from_residual.ensures.1 in
    rw (p.1, p.2) (through c.in_err-name.field-0.0 (name_of (view v)) (each name_of (viewed vs)) (λ none.
    let here : name_of (view (get_or vs i v)) ≡ None = rw (← c.value-item.is) none in
    sym c.loop-value.invariant ∙ ap (λ ds. behind done (each name_of ds)) (seen-drop vs i v c.loop-value-test.true) ∙ each-lacks name_of done _ _ here) c.in_err-name.ensures)

pub loop-value-preserved : goal.loop-value-preserved
loop-value-preserved c =
    let vs = c.args.values.now in
    let i = c.loop-value.value-index in
    let v = c.value-item.result in
    let done = c.loop-value.names.items in
    let here : name_of (view (get_or vs i v)) ≡ Some c.in_ok-name.field-0 = rw (← c.value-item.is) c.in_ok-name.ensures in
    rw c.in_ok-push.ensures.items (sym (ap (λ ds. behind done (each name_of ds)) (seen-drop vs i v c.loop-value-test.true) ∙ each-more name_of done _ _ _ here) ∙ c.loop-value.invariant)

pub returns : goal.returns
returns c =
    let vs = c.args.values.now in
    let done = c.loop-value.names.items in
    sym c.loop-value.invariant ∙ ap (λ ds. behind done (each name_of ds)) (seen-past vs c.loop-value.value-index (omega arith)) ∙ each-end name_of done
