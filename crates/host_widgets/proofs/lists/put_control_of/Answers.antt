use Rattle.std.proofs.Common.{◌≡◌, refl, sym, ap, subst, ◌∙◌, [], Bool, true, false, cond}
use Rattle.mbox_link.specs.Calls.{world}
use Rattle.host_widgets.specs.ActLists.{control_acts}
use Rattle.host_widgets.specs.ActCarried.{ActsSent}
use Rattle.host_widgets.proofs.Walks.{passing}
use Rattle.stream_law.specs.Order.{is_among}
use Rattle.host_widgets.specs.Groups.{is_control_of}
use Rattle.host_widgets.proofs.Wholes.{comp-by}
use Rattle.host_widgets.proofs.lists.put_control_of.Goals as goal

pub returns-then-not-has : goal.returns-then-not-has
returns-then-not-has g c =
    let plan = c.args.plan.now in let n = c.args.indices.now in let k = c.args.control.now in
    let apart : is_control_of plan n (k, c.args.kept.now) ≡ false = comp-by plan c.requires.plan n k.comp c.requires.live.comp c.requires.live.there ∙ ap (is_among n) (sym c.widget_index.ensures) ∙ sym c.has.ensures ∙ c.if-not-has.true in
    subst (λ (b : Bool). ActsSent g.P.Dsp.means plan (cond b (control_acts (k, c.args.kept.now)) []) (world c.args.dsp.now c.args.io.now c.args.out.now) (world c.args.dsp.now c.args.io.now c.args.out.now) passing) (sym apart) (refl, refl)

pub returns : goal.returns
returns g c =
    let plan = c.args.plan.now in let n = c.args.indices.now in let k = c.args.control.now in
    let here : is_control_of plan n (k, c.args.kept.now) ≡ true = comp-by plan c.requires.plan n k.comp c.requires.live.comp c.requires.live.there ∙ ap (is_among n) (sym c.widget_index.ensures) ∙ sym c.has.ensures ∙ c.if-not-has.false in
    subst (λ (b : Bool). ActsSent g.P.Dsp.means plan (cond b (control_acts (k, c.args.kept.now)) []) (world c.args.dsp.now c.args.io.now c.args.out.now) (world c.put_control.new.dsp c.put_control.new.io c.put_control.new.out) c.put_control.result) (sym here) c.put_control.ensures
