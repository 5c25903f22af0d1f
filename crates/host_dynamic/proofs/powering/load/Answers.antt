use Rattle.std.proofs.Common.{⊎_elim, refl, sym, ap, ◌∙◌, List, ℕ, Err}
use Rattle.mbox_link.specs.Calls.{world}
use Rattle.host_widgets.specs.declared.answers.HostFault.TheVariants.{Loaded}
use Rattle.host_widgets.specs.Orders.{fault_of_load}
use Rattle.host_dynamic.specs.Dynamic.{loading_job}
use Rattle.host_dynamic.specs.UpDevices.{up_state_in}
use Rattle.host_dynamic.proofs.UpAgreeing.{called-early, switched-off}
use Rattle.host_dynamic.proofs.UpPowers.{loads}
use Rattle.host_dynamic.proofs.powering.load.Goals as goal

pub boot-requires-clause-off : goal.boot-requires-clause-off
boot-requires-clause-off g c = switched-off g.P.Dsp.means c.args.plan.now c.args.kept.now c.args.up.now c.args.dsp.now c.requires.agree (λ on. cc (sym c.in-Unloaded.is ∙ on))

pub returns-in-Unloaded : goal.returns-in-Unloaded
returns-in-Unloaded g c =
    let w = world c.args.dsp.now c.args.io.now c.args.out.now in let v = world c.boot.new.self c.args.io.now c.args.out.now in
    let called = loads g.P.Dsp.means c.args.plan.now c.requires.plan c.args.heap c.args.kept.now c.args.up.now w v c.requires.state c.in-Unloaded.is (v, (c.boot.ensures, refl), refl) c.boot.ensures.on c.empty.result c.empty.ensures in
    record { done = called.tested; state = called.state; agree = called.agree }

pub returns-in-On-clause-done : goal.returns-in-On-clause-done
returns-in-On-clause-done g c =
    let plan = c.args.plan.now in let kept = c.args.kept.now in let up : List ℕ = c.args.up.now in let w = world c.args.dsp.now c.args.io.now c.args.out.now in
    (called-early g.P.Dsp.means plan c.args.heap kept up w c.requires.state c.requires.agree (fault_of_load kept.power) (loading_job c.args.heap (up_state_in g.P.Dsp.means kept up c.args.dsp.now)) Loaded (Err Loaded)
    (⊎_elim (λ on. ap fault_of_load on) (λ off. ap fault_of_load off) c.in-On.is) refl).tested
