use Rattle.std.proofs.Common.{◌≡◌, sym, ap, ◌∙◌, ◌<◌, ◌≤◌, List, length, get_or, true, false, arith}
use Rattle.stream_law.specs.Order.{is_among}
use Rattle.tplg_plan.specs.declared.plans.ControlPlan.{ControlPlan}
use Rattle.host_widgets.specs.Acts.{widget_words}
use Rattle.host_widgets.specs.Named.{is_named}
use Rattle.host_dynamic.proofs.NamedControls.{none-named, all-unnamed, up-of-named}
use Rattle.host_dynamic.proofs.making.is_control_up.Goals as goal

pub returns-then-is_named : goal.returns-then-is_named
returns-then-is_named c =
    let plan = c.args.plan.now in let i = c.loop-control.control-index in let d = c.control-item.result in
    let low : i < length plan.controls = omega (arith, c.loop-control-test.true, ap length c.items-control-items.ensures) in
    let item : d ≡ get_or plan.controls i d = c.control-item.is ∙ ap (λ (xs : List ControlPlan). get_or xs i d) c.items-control-items.ensures in
    let here : is_named plan c.args.name.now (get_or plan.controls i d).comp ≡ true = ap (λ (k : ControlPlan). is_named plan c.args.name.now k.comp) (sym item) ∙ sym c.is_named.ensures ∙ c.if-is_named.true in
    c.has.ensures ∙ ap (is_among c.args.up.now) (c.widget_index.ensures ∙ ap (λ (k : ControlPlan). (widget_words plan k.comp).pipe) item) ∙ up-of-named plan c.args.name.now c.requires c.args.up.now i d low c.loop-control.invariant here

pub loop-control-preserved : goal.loop-control-preserved
loop-control-preserved c =
    let plan = c.args.plan.now in let i = c.loop-control.control-index in let d = c.control-item.result in
    let low : i < length plan.controls = omega (arith, c.loop-control-test.true, ap length c.items-control-items.ensures) in
    let item : d ≡ get_or plan.controls i d = c.control-item.is ∙ ap (λ (xs : List ControlPlan). get_or xs i d) c.items-control-items.ensures in
    let here : is_named plan c.args.name.now (get_or plan.controls i d).comp ≡ false = ap (λ (k : ControlPlan). is_named plan c.args.name.now k.comp) (sym item) ∙ sym c.is_named.ensures ∙ c.if-is_named.false in
    none-named plan c.args.name.now i d low c.loop-control.invariant here

pub returns : goal.returns
returns c =
    let plan = c.args.plan.now in let i = c.loop-control.control-index in
    let past : length plan.controls ≤ i = omega (arith, c.loop-control-test.false, ap length c.items-control-items.ensures) in
    all-unnamed plan c.args.name.now c.args.up.now i past c.loop-control.invariant
