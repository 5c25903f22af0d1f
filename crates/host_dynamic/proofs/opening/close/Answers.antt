use Rattle.std.proofs.Common.{sym, ap, subst, ◌∙◌, ℕ, List, Err, rules}
use Rattle.mbox_link.specs.Calls.{World, world}
use Rattle.tplg_plan.specs.declared.plans.Plan.{Plan}
use Rattle.tplg_plan.specs.Sound.{IsSound}
use Rattle.host_widgets.specs.declared.kept.Record.{Record}
use Rattle.host_widgets.specs.Sides.{world_of}
use Rattle.host_widgets.proofs.NamedIds.{few-widgets}
use Rattle.host_widgets.proofs.Walks.{handed_on}
use Rattle.host_pcm.specs.declared.asking.Ask.TheVariants.{Closing}
use Rattle.host_pcm.specs.Asks.{early_fault}
use Rattle.host_pcm.proofs.HostTests.{found_place}
use Rattle.host_widgets.specs.There.{shown_ids}
use Rattle.host_dynamic.specs.UpCalls.{UnmadeWhereOn}
use Rattle.host_dynamic.specs.UpDevices.{up_state_in}
use Rattle.host_dynamic.proofs.UpAgreeing.{IsCalled}
use Rattle.host_dynamic.proofs.UpCalled.{closed-not, closed_named, closes-called, device-on, early-called, power-stays, room-left}
use Rattle.host_dynamic.proofs.opening.close.Goals as goal

pub close-requires-clause-ready : goal.close-requires-clause-ready
close-requires-clause-ready g c = record {
  plan = c.requires.plan;
  record_is = c.requires.state.record_is;
  on = device-on g.P.Dsp.means c.args.plan.now c.requires.plan c.args.heap c.args.kept.now c.args.up.now (world c.args.dsp.now c.args.io.now c.args.out.now) c.args.name.now c.requires.state c.requires.agree;
  room = c.requires.room;
}

pub close-requires-clause-loaded : goal.close-requires-clause-loaded
close-requires-clause-loaded g c = (found_place c.args.plan.now c.args.kept.now c.args.name.now Closing c.tested.result c.in_ok-place.place c.tested.ensures.place c.tested.ensures.none c.in_ok-place.was).stood.up

pub close-requires-clause-place : goal.close-requires-clause-place
close-requires-clause-place g c = (found_place c.args.plan.now c.args.kept.now c.args.name.now Closing c.tested.result c.in_ok-place.place c.tested.ensures.place c.tested.ensures.none c.in_ok-place.was).within

pub part-parting-requires-clause-kept : goal.part-parting-requires-clause-kept
part-parting-requires-clause-kept g c = c.close.ensures.record_is c.in-Ok.is

pub widgets_in-gone-requires : goal.widgets_in-gone-requires
widgets_in-gone-requires g c = few-widgets c.args.plan.now c.requires.plan

pub unmake_where_on-requires-clause-plan : goal.unmake_where_on-requires-clause-plan
unmake_where_on-requires-clause-plan g c = subst IsSound (λ i. (sym c.close.ensures.same.plan i).now) c.requires.plan

pub unmake_where_on-requires-clause-on : goal.unmake_where_on-requires-clause-on
unmake_where_on-requires-clause-on g c =
    let means = g.P.Dsp.means in let plan = c.args.plan.now in let kept = c.args.kept.now in let up : List ℕ = c.args.up.now in let name : List ℕ = c.args.name.now in let heap = c.args.heap in
    let w = world c.args.dsp.now c.args.io.now c.args.out.now in let k = c.in_ok-place.place in
    let at = found_place plan kept name Closing c.tested.result k c.tested.ensures.place c.tested.ensures.none c.in_ok-place.was in
    (power-stays means plan c.requires.plan heap kept up w name c.requires.state c.requires.agree k at c.close.new.side.kept.now (world_of c.close.new.side) c.close.result c.close.ensures.answered c.in-Ok.is).1

pub unmake_where_on-requires-clause-room : goal.unmake_where_on-requires-clause-room
unmake_where_on-requires-clause-room g c =
    let means = g.P.Dsp.means in let plan = c.args.plan.now in let kept = c.args.kept.now in let up : List ℕ = c.args.up.now in let name : List ℕ = c.args.name.now in let heap = c.args.heap in
    let w = world c.args.dsp.now c.args.io.now c.args.out.now in let k = c.in_ok-place.place in
    let at = found_place plan kept name Closing c.tested.result k c.tested.ensures.place c.tested.ensures.none c.in_ok-place.was in
    room-left means plan c.requires.plan heap kept up w name c.requires.state c.requires.agree k at c.close.new.side.kept.now (world_of c.close.new.side) c.close.result c.close.ensures.answered c.in-Ok.is c.requires.room

pub returns-in_err-place : goal.returns-in_err-place
returns-in_err-place g c =
    let means = g.P.Dsp.means in let plan = c.args.plan.now in let kept = c.args.kept.now in let up : List ℕ = c.args.up.now in let name : List ℕ = c.args.name.now in let heap = c.args.heap in
    let w = world c.args.dsp.now c.args.io.now c.args.out.now in let fault = c.in_err-place.field-0.0 in
    let called = early-called means plan c.requires.plan heap kept up w name c.requires.state c.requires.agree (early_fault plan kept name Closing) (closed_named means plan c.requires.plan heap kept up w name c.requires.state c.requires.agree) c.tested.result fault c.from_residual.result
    c.tested.ensures.fault c.in_err-place.was (handed_on c.from_residual.result fault c.from_residual.ensures) in
    record { done = called.tested; state = called.state; agree = called.agree }

pub returns-in-Err : goal.returns-in-Err
returns-in-Err g c =
    let means = g.P.Dsp.means in let plan = c.args.plan.now in let kept = c.args.kept.now in let up : List ℕ = c.args.up.now in let name : List ℕ = c.args.name.now in let heap = c.args.heap in
    let w = world c.args.dsp.now c.args.io.now c.args.out.now in let k = c.in_ok-place.place in
    let at = found_place plan kept name Closing c.tested.result k c.tested.ensures.place c.tested.ensures.none c.in_ok-place.was in
    let fault = c.in-Err.fault in
    let job = closed_named means plan c.requires.plan heap kept up w name c.requires.state c.requires.agree in
    let called = closed-not means plan c.requires.plan heap kept up w name c.requires.state c.requires.agree k at c.close.new.side.kept.now (world_of c.close.new.side) c.close.result c.close.ensures.answered fault c.in-Err.is in
    let end = subst (λ (e : Record × World g.row.P.Denot). IsCalled means plan heap (early_fault plan kept name Closing) job (up_state_in means kept up w.device) e.0 up w e.1 (Err fault)) (search rules) called in
    record { done = end.tested; state = end.state; agree = end.agree }

pub returns-in-Ok : goal.returns-in-Ok
returns-in-Ok g c =
    let means = g.P.Dsp.means in let plan = c.args.plan.now in let kept = c.args.kept.now in let up : List ℕ = c.args.up.now in let name : List ℕ = c.args.name.now in let heap = c.args.heap in
    let w = world c.args.dsp.now c.args.io.now c.args.out.now in let k = c.in_ok-place.place in
    let at = found_place plan kept name Closing c.tested.result k c.tested.ensures.place c.tested.ensures.none c.in_ok-place.was in
    let kept1 = c.close.new.side.kept.now in let m1 = world_of c.close.new.side in
    let kept2 = c.unmake_where_on.new.side.kept.now in let v = world_of c.unmake_where_on.new.side in let result = c.unmake_where_on.result in
    let up' : List ℕ = c.part-parting.new.up in let gone : List ℕ = c.as_slice-in-Ok.result.now in
    let job = closed_named means plan c.requires.plan heap kept up w name c.requires.state c.requires.agree in
    let ids = c.as_slice-in-Ok.ensures.value ∙ c.widgets_in-gone.ensures ∙ ap (shown_ids plan) (c.as_slice.ensures.value ∙ c.part-parting.ensures.parting) in
    let did : UnmadeWhereOn means plan heap gone kept1.power kept1 kept2 m1 v result = subst (λ (p : Plan × ℕ). UnmadeWhereOn means p.0 p.1 gone kept1.power kept1 kept2 m1 v result) (λ i. ((c.close.ensures.same.plan i).now, c.close.ensures.same.heap i)) c.unmake_where_on.ensures.did in
    let called = closes-called means plan c.requires.plan heap kept up w name c.requires.state c.requires.agree k at kept1 m1 c.close.result c.close.ensures.answered c.in-Ok.is gone ids kept2 up' c.part-parting.ensures.staying v result did in
    let end = subst (λ (e : Record × World g.row.P.Denot). IsCalled means plan heap (early_fault plan kept name Closing) job (up_state_in means kept up w.device) e.0 up' w e.1 result) (search rules) called in
    record { done = end.tested; state = end.state; agree = end.agree }
