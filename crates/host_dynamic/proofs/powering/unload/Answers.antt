use Rattle.std.proofs.Common.{refl, sym, ap, ◌∙◌, subst, List, ℕ, [], ◌∷◌, Err}
use Rattle.stream_law.specs.Past.{Cut}
use Rattle.mbox_link.specs.Calls.{Led, world}
use Rattle.host_widgets.specs.declared.answers.HostFault.TheVariants.{NotLoaded}
use Rattle.host_widgets.specs.declared.kept.Power.{Power}
use Rattle.host_widgets.specs.ActCalls.{calls_of}
use Rattle.host_widgets.specs.Orders.{unload_fault, where_on}
use Rattle.host_dynamic.specs.Dynamic.{unloading_job}
use Rattle.host_dynamic.specs.UpDevices.{up_state_in}
use Rattle.host_dynamic.proofs.UpAgreeing.{called-early, switched-off}
use Rattle.host_dynamic.proofs.UpPowers.{unloads}
use Rattle.host_dynamic.proofs.powering.unload.Goals as goal

pub returns-in-Unloaded-clause-done : goal.returns-in-Unloaded-clause-done
returns-in-Unloaded-clause-done g c =
    let plan = c.args.plan.now in let kept = c.args.kept.now in let up : List ℕ = c.args.up.now in let w = world c.args.dsp.now c.args.io.now c.args.out.now in
    (called-early g.P.Dsp.means plan c.args.heap kept up w c.requires.state c.requires.agree (unload_fault kept.power) (unloading_job plan (up_state_in g.P.Dsp.means kept up c.args.dsp.now)) NotLoaded (Err NotLoaded) (ap unload_fault c.in-Unloaded.is) refl).tested

pub returns-in-On : goal.returns-in-On
returns-in-On g c =
    let means = g.P.Dsp.means in let w = world c.args.dsp.now c.args.io.now c.args.out.now in let v = world c.cut.new.self c.args.io.now c.args.out.now in
    let cuts = subst (λ (p : Power). Led means w (calls_of c.args.heap (where_on p (Cut ∷ []))) v) (sym c.in-On.is) (v, (c.cut.ensures, refl), refl) in
    let called = unloads means c.args.plan.now c.requires.plan c.args.heap c.args.kept.now c.args.up.now w v c.requires.state (ap unload_fault c.in-On.is) cuts c.cut.ensures.on c.forget.new.kept c.forget.ensures c.empty.result c.empty.ensures in
    record { done = called.tested; state = called.state; agree = called.agree }

pub returns-in-Off : goal.returns-in-Off
returns-in-Off g c =
    let means = g.P.Dsp.means in let w = world c.args.dsp.now c.args.io.now c.args.out.now in
    let cuts = subst (λ (p : Power). Led means w (calls_of c.args.heap (where_on p (Cut ∷ []))) w) (sym c.in-Off.is) refl in
    let called = unloads means c.args.plan.now c.requires.plan c.args.heap c.args.kept.now c.args.up.now w w c.requires.state (ap unload_fault c.in-Off.is) cuts (switched-off means c.args.plan.now c.args.kept.now c.args.up.now c.args.dsp.now c.requires.agree (λ on. cc (sym c.in-Off.is ∙ on)))
    c.forget-in-Off.new.kept c.forget-in-Off.ensures c.empty-in-Off.result c.empty-in-Off.ensures in
    record { done = called.tested; state = called.state; agree = called.agree }
