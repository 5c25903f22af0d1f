use Rattle.std.proofs.Common.{◌≡◌, ◌∙◌, sym, ap, subst, map, take, ◌++◌, ◌∷◌, [], get_or, List, length, ◌<◌, ◌≤◌, arith}
use Rattle.std.proofs.lemmas.List.{take_more, take_all, map-append}
use Rattle.tplg_plan.specs.declared.plans.ControlPlan.{ControlPlan}
use Rattle.host_widgets.specs.Controls.{first_blob}
use Rattle.host_widgets.specs.FewValues.{HasFew}
use Rattle.host_widgets.specs.Kept.{first_control}
use Rattle.host_widgets.proofs.Loadables.{has-few, few-bytes}
use Rattle.host_widgets.proofs.kept.first_controls.Goals as goal

pub loop-control-init : goal.loop-control-init
loop-control-init c = c.new-controls.ensures

pub first_control-requires-clause-values : goal.first_control-requires-clause-values
first_control-requires-clause-values c =
    subst (λ (k : ControlPlan). HasFew k.kind) (sym c.control-item.is)
    (has-few c.args.plan.now c.requires.plan c.items-control-items.result.now c.items-control-items.ensures c.loop-control.control-index c.control-item.result c.loop-control-test.true)

pub first_control-requires-clause-blob : goal.first_control-requires-clause-blob
first_control-requires-clause-blob c =
    subst (λ (k : ControlPlan). length (first_blob k.kind) ≤ 1024) (sym c.control-item.is)
    (few-bytes c.args.plan.now c.requires.plan c.items-control-items.result.now c.items-control-items.ensures c.loop-control.control-index c.control-item.result c.loop-control-test.true)

pub loop-control-preserved : goal.loop-control-preserved
loop-control-preserved c =
    let controls = c.args.plan.now.controls in
    let i = c.loop-control.control-index in
    let d = c.control-item.result in
    let within : i < length controls = omega (arith, c.loop-control-test.true, ap length c.items-control-items.ensures) in
    let one : c.first_control.result ≡ first_control (get_or controls i d) = c.first_control.ensures ∙ ap first_control (c.control-item.is ∙ ap (λ (ks : List ControlPlan). get_or ks i d) c.items-control-items.ensures) in
    c.in_ok-push.ensures.ok
    ∙ (λ j. c.loop-control.invariant j ++ one j ∷ [])
    ∙ sym (map-append first_control (take i controls) (get_or controls i d ∷ []))
    ∙ ap (map first_control) (sym (take_more controls i d within))

pub returns : goal.returns
returns c =
    c.loop-control.invariant
    ∙ ap (map first_control) (take_all c.loop-control.control-index c.args.plan.now.controls (omega (arith, c.loop-control-test.false, ap length c.items-control-items.ensures)))
