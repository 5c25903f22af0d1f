use Rattle.std.proofs.Common.{◌≡◌, ◌<◌, ◌≤◌, ◌∙◌, List, Some, length, get_or, refl, ap, subst, sym, arith}
use Rattle.std.specs.List.{flat_map}
use Rattle.std.proofs.lemmas.List.{take_all}
use Rattle.mbox_link.specs.Calls.{world}
use Rattle.tplg_plan.specs.Ranges.{is_initial}
use Rattle.tplg_plan.specs.Sound.{IsLive}
use Rattle.tplg_plan.specs.declared.plans.ControlPlan.{ControlPlan}
use Rattle.host_widgets.specs.declared.kept.ControlRec.{ControlRec}
use Rattle.host_widgets.specs.Controls.{control_of}
use Rattle.host_widgets.specs.HostActs.{Act}
use Rattle.host_widgets.specs.Kept.{controls_of}
use Rattle.host_widgets.specs.ActCarried.{ActsSent}
use Rattle.host_widgets.proofs.ControlLists.{Pair, same-length, pairs-long, pair-at}
use Rattle.host_widgets.proofs.Walks.{passing, sent-on, sent-room, sent-all, sent-stops, handed_on}
use Rattle.host_widgets.proofs.Loadables.{is-first, initial-here}
use Rattle.host_widgets.specs.Groups.{put_acts_of}
use Rattle.host_widgets.proofs.MadeSent.{put-acts, all-at}
use Rattle.host_widgets.proofs.lists.put_controls.Goals as goal

pub bounds-items-place-in-loop-place : goal.bounds-items-place-in-loop-place
bounds-items-place-in-loop-place g c =
    omega (arith, c.loop-place-test.true, ap length c.items-count.ensures, ap length c.items-in-loop-place.ensures, same-length c.args.plan.now.controls c.args.kept.now.controls c.requires.controls)

pub put_control_of-requires-clause-first : goal.put_control_of-requires-clause-first
put_control_of-requires-clause-first g c =
    subst (λ (k : ControlPlan). control_of c.args.plan.now k.comp ≡ Some k) (sym c.index-items-place.is)
    (is-first c.args.plan.now c.requires.plan c.items.result.now c.items.ensures c.loop-place.place c.index-items-place.result (omega (arith, c.loop-place-test.true, ap length c.items.ensures, ap length c.items-count.ensures)))

pub put_control_of-requires-clause-live : goal.put_control_of-requires-clause-live
put_control_of-requires-clause-live g c =
    let plan = c.args.plan.now in let i = c.loop-place.place in let k = c.index-items-place.result in
    let few : i < length plan.controls = omega (arith, c.loop-place-test.true, ap length c.items-count.ensures) in
    let at : k ≡ get_or plan.controls i k = c.index-items-place.is ∙ ap (λ (ks : List ControlPlan). get_or ks i k) c.items.ensures in
    subst (λ (x : ControlPlan). IsLive plan.graph x) (sym at) (all-at (IsLive plan.graph) plan.controls i k few c.requires.plan.live)

pub put_control_of-requires-clause-blob : goal.put_control_of-requires-clause-blob
put_control_of-requires-clause-blob g c =
    ap (λ (r : ControlRec). is_initial r.blob) c.index-items-place-in-loop-place.is
    ∙ initial-here c.args.plan.now c.args.kept.now c.requires.plan c.requires.controls c.items-in-loop-place.result.now c.items-in-loop-place.ensures c.loop-place.place c.index-items-place-in-loop-place.result
    (omega (arith, c.loop-place-test.true, ap length c.items-count.ensures, ap length c.items-in-loop-place.ensures, same-length c.args.plan.now.controls c.args.kept.now.controls c.requires.controls))

pub put_control_of-requires-clause-on : goal.put_control_of-requires-clause-on
put_control_of-requires-clause-on g c = sent-on g.P.Dsp.means c.args.plan.now _ _ _ passing c.loop-place.invariant c.requires.on

pub put_control_of-requires-clause-room : goal.put_control_of-requires-clause-room
put_control_of-requires-clause-room g c = sent-room g.P.Dsp.means c.args.plan.now _ _ _ passing c.loop-place.invariant c.requires.room

pub returns-in_err-put_control_of : goal.returns-in_err-put_control_of
returns-in_err-put_control_of g c =
    let plan = c.args.plan.now in
    let kept = c.args.kept.now in
    let m = world c.loop-place.dsp c.loop-place.io c.loop-place.out in
    let v = world c.put_control_of.new.dsp c.put_control_of.new.io c.put_control_of.new.out in
    let i = c.loop-place.place in
    let k = c.index-items-place.result in
    let r = c.index-items-place-in-loop-place.result in
    let few : i < length plan.controls = omega (arith, c.loop-place-test.true, ap length c.items-count.ensures) in
    let within : i < length (controls_of plan kept) = omega (arith, few, pairs-long plan.controls kept.controls c.requires.controls) in
    let here : get_or (controls_of plan kept) i (k, r) ≡ (k, r) = pair-at plan.controls kept.controls c.requires.controls i k r few (c.index-items-place.is ∙ ap (λ (ks : List ControlPlan). get_or ks i k) c.items.ensures) (c.index-items-place-in-loop-place.is ∙ ap (λ (rs : List ControlRec). get_or rs i r) c.items-in-loop-place.ensures) in
    subst (λ (acts : List Act). ActsSent g.P.Dsp.means plan acts (world c.args.dsp.now c.args.io.now c.args.out.now) v c.from_residual.result) (put-acts plan c.args.indices.now (controls_of plan kept))
    (sent-stops g.P.Dsp.means plan (put_acts_of plan c.args.indices.now) (controls_of plan kept) (controls_of plan kept) refl i (k, r) within
    (world c.args.dsp.now c.args.io.now c.args.out.now) m v c.loop-place.invariant c.put_control_of.result
    (subst (λ (p : Pair). ActsSent g.P.Dsp.means plan (put_acts_of plan c.args.indices.now p) m v c.put_control_of.result) (sym here) c.put_control_of.ensures)
    c.in_err-put_control_of.field-0.0 c.from_residual.result c.in_err-put_control_of.was
    (handed_on c.from_residual.result c.in_err-put_control_of.field-0.0 c.from_residual.ensures))

pub loop-place-preserved : goal.loop-place-preserved
loop-place-preserved g c =
    let plan = c.args.plan.now in
    let kept = c.args.kept.now in
    let m = world c.loop-place.dsp c.loop-place.io c.loop-place.out in
    let v = world c.put_control_of.new.dsp c.put_control_of.new.io c.put_control_of.new.out in
    let i = c.loop-place.place in
    let k = c.index-items-place.result in
    let r = c.index-items-place-in-loop-place.result in
    let few : i < length plan.controls = omega (arith, c.loop-place-test.true, ap length c.items-count.ensures) in
    let within : i < length (controls_of plan kept) = omega (arith, few, pairs-long plan.controls kept.controls c.requires.controls) in
    let here : get_or (controls_of plan kept) i (k, r) ≡ (k, r) = pair-at plan.controls kept.controls c.requires.controls i k r few (c.index-items-place.is ∙ ap (λ (ks : List ControlPlan). get_or ks i k) c.items.ensures) (c.index-items-place-in-loop-place.is ∙ ap (λ (rs : List ControlRec). get_or rs i r) c.items-in-loop-place.ensures) in
    sent-all g.P.Dsp.means plan (put_acts_of plan c.args.indices.now) (controls_of plan kept) (controls_of plan kept) refl i (k, r) within
    (world c.args.dsp.now c.args.io.now c.args.out.now) m v c.loop-place.invariant c.put_control_of.result
    (subst (λ (p : Pair). ActsSent g.P.Dsp.means plan (put_acts_of plan c.args.indices.now p) m v c.put_control_of.result) (sym here) c.put_control_of.ensures)
    c.in_ok-put_control_of.was

pub returns : goal.returns
returns g c =
    let plan = c.args.plan.now in
    let kept = c.args.kept.now in
    let past : length (controls_of plan kept) ≤ c.loop-place.place = omega (arith, c.loop-place-test.false, ap length c.items-count.ensures, pairs-long plan.controls kept.controls c.requires.controls) in
    subst (λ (acts : List Act). ActsSent g.P.Dsp.means plan acts (world c.args.dsp.now c.args.io.now c.args.out.now) (world c.loop-place.dsp c.loop-place.io c.loop-place.out) passing)
    (ap (flat_map (put_acts_of plan c.args.indices.now)) (take_all c.loop-place.place (controls_of plan kept) past) ∙ put-acts plan c.args.indices.now (controls_of plan kept)) c.loop-place.invariant
