use Rattle.std.proofs.Common.{refl, sym, ap, subst, ◌∙◌, ◌++◌, List, ℕ, ◌≤◌, length, Err}
use Rattle.std.specs.Prelude.{is_some}
use Rattle.std.specs.List.{zip, flat_map}
use Rattle.mbox_link.specs.Calls.{world}
use Rattle.host_widgets.specs.ActCarried.{ActsSent}
use Rattle.host_widgets.specs.ActLists.{prepare_acts}
use Rattle.host_widgets.specs.declared.answers.HostFault.TheVariants.{NotLoaded, State}
use Rattle.host_widgets.specs.declared.kept.Found.TheVariants.{On}
use Rattle.host_pm.specs.PowerTests.{resume_fault}
use Rattle.host_dynamic.specs.Dynamic.{resuming_job}
use Rattle.host_widgets.specs.UpActs.{making_acts, widgets_of}
use Rattle.host_dynamic.specs.UpDevices.{up_state_in}
use Rattle.host_dynamic.proofs.UpAgreeing.{called-early, switched-off}
use Rattle.host_dynamic.proofs.UpFew.{up-widgets}
use Rattle.host_dynamic.proofs.UpPowers.{resumed-so, resumed-not}
use Rattle.host_dynamic.proofs.powering.resume.Goals as goal

pub returns-in-Unloaded-clause-done : goal.returns-in-Unloaded-clause-done
returns-in-Unloaded-clause-done g c =
    let plan = c.args.plan.now in let kept = c.args.kept.now in let up : List ℕ = c.args.up.now in let w = world c.args.dsp.now c.args.io.now c.args.out.now in
    (called-early g.P.Dsp.means plan c.args.heap kept up w c.requires.state c.requires.agree (resume_fault kept.power) (resuming_job plan c.args.heap (up_state_in g.P.Dsp.means kept up c.args.dsp.now)) NotLoaded (Err NotLoaded) (ap resume_fault c.in-Unloaded.is) refl).tested

pub returns-in-On-clause-done : goal.returns-in-On-clause-done
returns-in-On-clause-done g c =
    let plan = c.args.plan.now in let kept = c.args.kept.now in let up : List ℕ = c.args.up.now in let w = world c.args.dsp.now c.args.io.now c.args.out.now in
    (called-early g.P.Dsp.means plan c.args.heap kept up w c.requires.state c.requires.agree (resume_fault kept.power) (resuming_job plan c.args.heap (up_state_in g.P.Dsp.means kept up c.args.dsp.now)) (State On) (Err (State On)) (ap resume_fault c.in-On.is) refl).tested

pub boot-requires-clause-off : goal.boot-requires-clause-off
boot-requires-clause-off g c = switched-off g.P.Dsp.means c.args.plan.now c.args.kept.now c.args.up.now c.args.dsp.now c.requires.agree (λ on. cc (sym c.in-Off.is ∙ on))

pub bring_back-requires-clause-on : goal.bring_back-requires-clause-on
bring_back-requires-clause-on g c = ap is_some c.boot.ensures.on

pub bring_back-requires-clause-few : goal.bring_back-requires-clause-few
bring_back-requires-clause-few g c =
    subst (λ (xs : List ℕ). length (widgets_of c.args.plan.now xs) ≤ 288) (sym c.items.ensures.value) (up-widgets c.args.plan.now c.requires.plan (up_state_in g.P.Dsp.means c.args.kept.now c.args.up.now c.args.dsp.now) c.requires.state)

pub returns-in-Ok : goal.returns-in-Ok
returns-in-Ok g c =
    let means = g.P.Dsp.means in let plan = c.args.plan.now in let kept = c.args.kept.now in let up : List ℕ = c.args.up.now in
    let w = world c.args.dsp.now c.args.io.now c.args.out.now in let m0 = world c.boot.new.self c.args.io.now c.args.out.now in let mid = world c.bring_back.new.dsp c.bring_back.new.io c.bring_back.new.out in
    let sent = subst (λ (xs : List ℕ). ActsSent means plan (making_acts plan kept xs ++ flat_map prepare_acts (zip plan.streams kept.streams)) m0 mid c.bring_back.result) c.items.ensures.value c.bring_back.ensures in
    let called = resumed-so means plan c.requires.plan c.args.heap kept up w mid c.requires.state c.requires.agree c.in-Off.is m0 mid (m0, (c.boot.ensures, refl), refl) c.boot.ensures.on c.bring_back.result sent c.in-Ok.is in
    record { done = called.tested; state = called.state; agree = called.agree }

pub returns-in-Err : goal.returns-in-Err
returns-in-Err g c =
    let means = g.P.Dsp.means in let plan = c.args.plan.now in let kept = c.args.kept.now in let up : List ℕ = c.args.up.now in
    let w = world c.args.dsp.now c.args.io.now c.args.out.now in let m0 = world c.boot.new.self c.args.io.now c.args.out.now in let mid = world c.bring_back.new.dsp c.bring_back.new.io c.bring_back.new.out in
    let sent = subst (λ (xs : List ℕ). ActsSent means plan (making_acts plan kept xs ++ flat_map prepare_acts (zip plan.streams kept.streams)) m0 mid c.bring_back.result) c.items.ensures.value c.bring_back.ensures in
    let v = world c.cut.new.self c.bring_back.new.io c.bring_back.new.out in
    let called = resumed-not means plan c.requires.plan c.args.heap kept up w mid c.requires.state c.requires.agree c.in-Off.is m0 mid (m0, (c.boot.ensures, refl), refl) c.boot.ensures.on c.bring_back.result sent c.in-Err.fault v c.in-Err.is (v, (c.cut.ensures, refl), refl) in
    record { done = called.tested; state = called.state; agree = called.agree }
