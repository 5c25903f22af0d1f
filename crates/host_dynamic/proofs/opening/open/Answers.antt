use Rattle.std.proofs.Common.{◌≡◌, sym, ap, subst, ◌∙◌, ℕ, ◌<◌, ◌≤◌, ◌==◌, List, ◌++◌, length, get_or, true, Ok, rules, arith}
use Rattle.std.specs.List.{list_any}
use Rattle.std.proofs.lemmas.List.{get_or_default}
use Rattle.mbox_link.specs.Calls.{World, world}
use Rattle.tplg_plan.specs.declared.plans.Plan.{Plan}
use Rattle.tplg_plan.specs.declared.plans.StreamPlan.{StreamPlan}
use Rattle.host_widgets.specs.declared.kept.Record.{Record}
use Rattle.host_widgets.specs.Host.{Outcome}
use Rattle.host_widgets.specs.HostRecord.{no_stream}
use Rattle.host_widgets.specs.Sides.{world_of}
use Rattle.host_widgets.proofs.PlannedStreams.{place-stream}
use Rattle.host_widgets.proofs.Walks.{handed_on}
use Rattle.host_pcm.specs.declared.asking.Ask.TheVariants.{Opening}
use Rattle.host_pcm.specs.Asks.{early_fault}
use Rattle.host_pcm.specs.StreamCalls.{host_at}
use Rattle.host_pcm.proofs.HostTests.{found_place}
use Rattle.host_widgets.specs.UpActs.{widgets_of}
use Rattle.host_dynamic.specs.Dynamic.{lacking}
use Rattle.host_dynamic.specs.UpDevices.{up_state_in}
use Rattle.host_dynamic.proofs.NeededNoted.{host-here}
use Rattle.host_dynamic.proofs.UpAgreeing.{IsCalled}
use Rattle.host_dynamic.proofs.UpCalled.{device-on, early-called, opened-long, opened_named, opens-not, opens-so}
use Rattle.host_dynamic.proofs.UpFew.{lacking-widgets, both-few}
use Rattle.host_dynamic.proofs.opening.open.Goals as goal

-- the indices that are handed over are what the stream lacks
lacks : (plan : Plan) (k : ℕ) → k < length plan.streams → (xs : List StreamPlan) (d : StreamPlan) → xs ≡ plan.streams → (up held listed ids : List ℕ) → held ≡ up → listed ≡ lacking plan held (get_or xs k d).host → ids ≡ listed → ids ≡ lacking plan up (host_at plan k)
lacks plan k low xs d is up held listed ids same are shown = shown ∙ are ∙ (λ i. lacking plan (same i) (place-stream plan k low xs d is i).host)

pub bounds-items-place : goal.bounds-items-place
bounds-items-place g c =
    let plan = c.args.plan.now in let k = c.in_ok-place.place in
    let at = found_place plan c.args.kept.now c.args.name.now Opening c.tested.result k c.tested.ensures.place c.tested.ensures.none c.in_ok-place.was in
    omega (arith, at.within, ap length c.items-2.ensures)

pub lacking-indices-requires-clause-host : goal.lacking-indices-requires-clause-host
lacking-indices-requires-clause-host g c =
    let plan = c.args.plan.now in let k = c.in_ok-place.place in
    let at = found_place plan c.args.kept.now c.args.name.now Opening c.tested.result k c.tested.ensures.place c.tested.ensures.none c.in_ok-place.was in
    subst (λ (h : ℕ). list_any (λ (x : StreamPlan). x.host == h) plan.streams ≡ true) (sym (ap (λ (x : StreamPlan). x.host) (place-stream plan k at.within c.items-2.result.now _ c.items-2.ensures)))
    (host-here plan k (get_or plan.streams k no_stream) at.within (get_or_default plan.streams k no_stream (get_or plan.streams k no_stream) at.within))

pub make_where_on-requires-clause-kept : goal.make_where_on-requires-clause-kept
make_where_on-requires-clause-kept g c = c.requires.state.record_is

pub make_where_on-requires-clause-few : goal.make_where_on-requires-clause-few
make_where_on-requires-clause-few g c =
    let means = g.P.Dsp.means in let plan = c.args.plan.now in let kept = c.args.kept.now in let up : List ℕ = c.args.up.now in let k = c.in_ok-place.place in
    let at = found_place plan kept c.args.name.now Opening c.tested.result k c.tested.ensures.place c.tested.ensures.none c.in_ok-place.was in
    let ids : List ℕ = c.as_slice.result.now in
    let ids_are : ids ≡ lacking plan up (host_at plan k) = lacks plan k at.within c.items-2.result.now _ c.items-2.ensures up c.items.result.now c.lacking-indices.result.items ids c.items.ensures.value c.lacking-indices.ensures c.as_slice.ensures.value in
    subst (λ (xs : List ℕ). length (widgets_of plan xs) ≤ 288) (sym ids_are) (lacking-widgets plan c.requires.plan (up_state_in means kept up c.args.dsp.now) c.requires.state (host_at plan k))

pub make_where_on-requires-clause-on : goal.make_where_on-requires-clause-on
make_where_on-requires-clause-on g c =
    device-on g.P.Dsp.means c.args.plan.now c.requires.plan c.args.heap c.args.kept.now c.args.up.now (world c.args.dsp.now c.args.io.now c.args.out.now) c.args.name.now c.requires.state c.requires.agree

pub open-requires : goal.open-requires
open-requires g c =
    let means = g.P.Dsp.means in let plan = c.args.plan.now in let kept = c.args.kept.now in let up : List ℕ = c.args.up.now in let name : List ℕ = c.args.name.now in let heap = c.args.heap in
    let w = world c.args.dsp.now c.args.io.now c.args.out.now in let k = c.in_ok-place.place in
    let at = found_place plan kept name Opening c.tested.result k c.tested.ensures.place c.tested.ensures.none c.in_ok-place.was in
    let ids : List ℕ = c.as_slice.result.now in
    let ids_are : ids ≡ lacking plan up (host_at plan k) = lacks plan k at.within c.items-2.result.now _ c.items-2.ensures up c.items.result.now c.lacking-indices.result.items ids c.items.ensures.value c.lacking-indices.ensures c.as_slice.ensures.value in
    omega (
      arith,
      at.within,
      opened-long means plan c.requires.plan heap kept up w name c.requires.state c.requires.agree k at ids ids_are c.make_where_on.new.side.kept.now (world_of c.make_where_on.new.side) c.make_where_on.result c.make_where_on.ensures.did c.in_ok-make_where_on.was,
    )

pub raise-requires : goal.raise-requires
raise-requires g c =
    let means = g.P.Dsp.means in let plan = c.args.plan.now in let kept = c.args.kept.now in let up : List ℕ = c.args.up.now in let k = c.in_ok-place.place in
    let at = found_place plan kept c.args.name.now Opening c.tested.result k c.tested.ensures.place c.tested.ensures.none c.in_ok-place.was in
    let ids : List ℕ = c.as_slice-2.result.now in
    let ids_are : ids ≡ lacking plan up (host_at plan k) = lacks plan k at.within c.items-2.result.now _ c.items-2.ensures up c.items.result.now c.lacking-indices.result.items ids c.items.ensures.value c.lacking-indices.ensures c.as_slice-2.ensures.value in
    omega (arith, ap length ids_are, both-few plan c.requires.plan (up_state_in means kept up c.args.dsp.now) c.requires.state (host_at plan k))

pub returns-in_err-place : goal.returns-in_err-place
returns-in_err-place g c =
    let means = g.P.Dsp.means in let plan = c.args.plan.now in let kept = c.args.kept.now in let up : List ℕ = c.args.up.now in let name : List ℕ = c.args.name.now in let heap = c.args.heap in
    let w = world c.args.dsp.now c.args.io.now c.args.out.now in let fault = c.in_err-place.field-0.0 in
    let called = early-called means plan c.requires.plan heap kept up w name c.requires.state c.requires.agree (early_fault plan kept name Opening) (opened_named means plan c.requires.plan heap kept up w name c.requires.state c.requires.agree) c.tested.result fault c.from_residual.result
    c.tested.ensures.fault c.in_err-place.was (handed_on c.from_residual.result fault c.from_residual.ensures) in
    record { done = called.tested; state = called.state; agree = called.agree }

pub returns-in_err-make_where_on : goal.returns-in_err-make_where_on
returns-in_err-make_where_on g c =
    let means = g.P.Dsp.means in let plan = c.args.plan.now in let kept = c.args.kept.now in let up : List ℕ = c.args.up.now in let name : List ℕ = c.args.name.now in let heap = c.args.heap in
    let w = world c.args.dsp.now c.args.io.now c.args.out.now in let k = c.in_ok-place.place in
    let at = found_place plan kept name Opening c.tested.result k c.tested.ensures.place c.tested.ensures.none c.in_ok-place.was in
    let ids : List ℕ = c.as_slice.result.now in
    let ids_are : ids ≡ lacking plan up (host_at plan k) = lacks plan k at.within c.items-2.result.now _ c.items-2.ensures up c.items.result.now c.lacking-indices.result.items ids c.items.ensures.value c.lacking-indices.ensures c.as_slice.ensures.value in
    let fault = c.in_err-make_where_on.field-0.0 in let result = c.from_residual-in_err-make_where_on.result in
    let job = opened_named means plan c.requires.plan heap kept up w name c.requires.state c.requires.agree in
    let called = opens-not means plan c.requires.plan heap kept up w name c.requires.state c.requires.agree k at ids ids_are c.make_where_on.new.side.kept.now (world_of c.make_where_on.new.side) c.make_where_on.result c.make_where_on.ensures.did fault c.in_err-make_where_on.was in
    let told = subst (λ (o : Outcome). IsCalled means plan heap (early_fault plan kept name Opening) job (up_state_in means kept up w.device) c.make_where_on.new.side.kept.now up w (world_of c.make_where_on.new.side) o) (sym (handed_on result fault c.from_residual-in_err-make_where_on.ensures)) called in
    let end = subst (λ (e : Record × World g.row.P.Denot). IsCalled means plan heap (early_fault plan kept name Opening) job (up_state_in means kept up w.device) e.0 up w e.1 result) (search rules) told in
    record { done = end.tested; state = end.state; agree = end.agree }

pub returns : goal.returns
returns g c =
    let means = g.P.Dsp.means in let plan = c.args.plan.now in let kept = c.args.kept.now in let up : List ℕ = c.args.up.now in let name : List ℕ = c.args.name.now in let heap = c.args.heap in
    let w = world c.args.dsp.now c.args.io.now c.args.out.now in let k = c.in_ok-place.place in
    let at = found_place plan kept name Opening c.tested.result k c.tested.ensures.place c.tested.ensures.none c.in_ok-place.was in
    let ids : List ℕ = c.as_slice.result.now in
    let ids_are : ids ≡ lacking plan up (host_at plan k) = lacks plan k at.within c.items-2.result.now _ c.items-2.ensures up c.items.result.now c.lacking-indices.result.items ids c.items.ensures.value c.lacking-indices.ensures c.as_slice.ensures.value in
    let job = opened_named means plan c.requires.plan heap kept up w name c.requires.state c.requires.agree in
    let up' : List ℕ = c.raise.new.up in
    let raised : up' ≡ up ++ ids = c.raise.ensures ∙ ap (λ (xs : List ℕ). up ++ xs) (c.as_slice-2.ensures.value ∙ sym c.as_slice.ensures.value) in
    let called = opens-so means plan c.requires.plan heap kept up w name c.requires.state c.requires.agree k at ids ids_are c.make_where_on.new.side.kept.now (world_of c.make_where_on.new.side) c.make_where_on.result c.make_where_on.ensures.did c.in_ok-make_where_on.was c.open.new.kept c.open.ensures up' raised in
    let end = subst (λ (e : Record × World g.row.P.Denot). IsCalled means plan heap (early_fault plan kept name Opening) job (up_state_in means kept up w.device) e.0 up' w e.1 (Ok tt)) (search rules) called in
    record { done = end.tested; state = end.state; agree = end.agree }
