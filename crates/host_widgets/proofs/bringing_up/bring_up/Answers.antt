use Rattle.std.proofs.Common.{ap, is_some}
use Rattle.sof_base.specs.Ports.{Io}
use Rattle.mbox_link.specs.Calls.{world}
use Rattle.host_widgets.proofs.SilentTicks.{AreInputs}
use Rattle.host_widgets.proofs.BuildingActs.{bring-leaves}
use Rattle.host_widgets.proofs.ManyEffects.{list-came, list-io, list-leaves}
use Rattle.host_widgets.proofs.Brings.{brings}
use Rattle.host_widgets.proofs.bringing_up.bring_up.Goals as goal

pub make_all-requires-clause-on : goal.make_all-requires-clause-on
make_all-requires-clause-on g c = ap is_some c.requires.booted

pub returns-clause-acts : goal.returns-clause-acts
returns-clause-acts g c =
    let w = world c.args.dsp.now c.args.io.now c.args.out.now in
    let v = world c.make_all.new.dsp c.make_all.new.io c.make_all.new.out in
    let are : AreInputs c.args.io.now = record { distinct = c.len-inputs.ensures.distinct; positions = c.len-inputs.ensures.within } in
    list-came g.P.Dsp.means c.args.plan.now c.args.heap c.args.kept.now w v (brings c.args.plan.now c.args.heap c.args.kept.now c.requires.plan c.requires.controls) (bring-leaves c.args.plan.now c.args.kept.now c.requires.plan) are c.requires.booted c.make_all.result c.make_all.ensures

pub returns-clause-left : goal.returns-clause-left
returns-clause-left g c =
    let w = world c.args.dsp.now c.args.io.now c.args.out.now in
    let v = world c.make_all.new.dsp c.make_all.new.io c.make_all.new.out in
    let are : AreInputs c.args.io.now = record { distinct = c.len-inputs.ensures.distinct; positions = c.len-inputs.ensures.within } in
    list-leaves g.P.Dsp.means c.args.plan.now c.args.heap c.args.kept.now w v (brings c.args.plan.now c.args.heap c.args.kept.now c.requires.plan c.requires.controls) (bring-leaves c.args.plan.now c.args.kept.now c.requires.plan) are c.requires.booted c.make_all.result c.make_all.ensures

pub returns-clause-inputs : goal.returns-clause-inputs
returns-clause-inputs g c =
    let w = world c.args.dsp.now c.args.io.now c.args.out.now in
    let v = world c.make_all.new.dsp c.make_all.new.io c.make_all.new.out in
    let are : AreInputs c.args.io.now = record { distinct = c.len-inputs.ensures.distinct; positions = c.len-inputs.ensures.within } in
    ap (λ (io : Io). io.inputs) (list-io g.P.Dsp.means c.args.plan.now c.args.heap c.args.kept.now w v (brings c.args.plan.now c.args.heap c.args.kept.now c.requires.plan c.requires.controls) (bring-leaves c.args.plan.now c.args.kept.now c.requires.plan) are c.requires.booted c.make_all.result c.make_all.ensures)

pub returns-clause-outputs : goal.returns-clause-outputs
returns-clause-outputs g c =
    let w = world c.args.dsp.now c.args.io.now c.args.out.now in
    let v = world c.make_all.new.dsp c.make_all.new.io c.make_all.new.out in
    let are : AreInputs c.args.io.now = record { distinct = c.len-inputs.ensures.distinct; positions = c.len-inputs.ensures.within } in
    ap (λ (io : Io). io.outputs) (list-io g.P.Dsp.means c.args.plan.now c.args.heap c.args.kept.now w v (brings c.args.plan.now c.args.heap c.args.kept.now c.requires.plan c.requires.controls) (bring-leaves c.args.plan.now c.args.kept.now c.requires.plan) are c.requires.booted c.make_all.result c.make_all.ensures)
