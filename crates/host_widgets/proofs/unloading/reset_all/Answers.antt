use Rattle.std.proofs.Common.{◌≡◌, ◌∙◌, refl, sym, ap, subst, map, take, ◌++◌, ◌∷◌, [], get_or, ◌+◌, List, length, ◌<◌, ◌≤◌, arith}
use Rattle.std.proofs.lemmas.List.{take_more, take_more_set, take_all, map-append, length-set}
use Rattle.tplg_plan.specs.declared.plans.ControlPlan.{ControlPlan}
use Rattle.host_widgets.specs.Controls.{first_blob}
use Rattle.host_widgets.specs.FewValues.{HasFew}
use Rattle.host_widgets.specs.Kept.{first_control}
use Rattle.host_widgets.proofs.Loadables.{has-few, few-bytes}
use Rattle.host_widgets.proofs.unloading.reset_all.Goals as goal

pub loop-place-init : goal.loop-place-init
loop-place-init c = record { long = refl; so_far = refl }

pub first_control-requires-clause-values : goal.first_control-requires-clause-values
first_control-requires-clause-values c =
    subst (λ (k : ControlPlan). HasFew k.kind) (sym c.index-items-place.is)
    (has-few c.args.plan.now c.requires.plan c.items.result.now c.items.ensures c.loop-place.place c.index-items-place.result (omega (arith, c.loop-place-test.true, ap length c.items.ensures, ap length c.items-all.ensures)))

pub first_control-requires-clause-blob : goal.first_control-requires-clause-blob
first_control-requires-clause-blob c =
    subst (λ (k : ControlPlan). length (first_blob k.kind) ≤ 1024) (sym c.index-items-place.is)
    (few-bytes c.args.plan.now c.requires.plan c.items.result.now c.items.ensures c.loop-place.place c.index-items-place.result (omega (arith, c.loop-place-test.true, ap length c.items.ensures, ap length c.items-all.ensures)))

pub put-requires : goal.put-requires
put-requires c = omega (arith, c.loop-place-test.true, ap length c.items-all.ensures, c.loop-place.invariant.long, c.requires.all)

pub loop-place-preserved : goal.loop-place-preserved
loop-place-preserved c =
    let controls = c.args.plan.now.controls in
    let i = c.loop-place.place in
    let d = c.index-items-place.result in
    let within : i < length controls = omega (arith, c.loop-place-test.true, ap length c.items-all.ensures) in
    let there : i < length c.loop-place.controls = omega (arith, within, c.loop-place.invariant.long, c.requires.all) in
    let one : c.first_control.result ≡ first_control (get_or controls i d) = c.first_control.ensures ∙ ap first_control (c.index-items-place.is ∙ ap (λ (ks : List ControlPlan). get_or ks i d) c.items.ensures) in
    record {
      long = ap length c.put.ensures ∙ length-set c.loop-place.controls i c.first_control.result ∙ c.loop-place.invariant.long;
      so_far =
          ap (take (i + 1)) c.put.ensures
          ∙ take_more_set c.loop-place.controls i c.first_control.result there
          ∙ (λ j. c.loop-place.invariant.so_far j ++ one j ∷ [])
          ∙ sym (map-append first_control (take i controls) (get_or controls i d ∷ []))
          ∙ ap (map first_control) (sym (take_more controls i d within));
    }

pub returns : goal.returns
returns c =
    let controls = c.args.plan.now.controls in
    let i = c.loop-place.place in
    let past : length controls ≤ i = omega (arith, c.loop-place-test.false, ap length c.items-all.ensures) in
    sym (take_all i c.loop-place.controls (omega (arith, past, c.loop-place.invariant.long, c.requires.all)))
    ∙ c.loop-place.invariant.so_far
    ∙ ap (map first_control) (take_all i controls past)
