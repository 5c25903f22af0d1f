use Rattle.std.proofs.Common.{ap, subst, sym, ◌∙◌, is_some, length, zip, false}
use Rattle.std.specs.List.{flat_map}
use Rattle.sof_base.specs.Ports.{Io}
use Rattle.host_widgets.specs.Sides.{world_of}
use Rattle.mbox_link.specs.Calls.{world}
use Rattle.host_widgets.specs.ActLists.{bring_up, bring_back, prepare_acts}
use Rattle.host_widgets.specs.Host.{Outcome}
use Rattle.host_widgets.specs.Bringing.{BroughtUp}
use Rattle.host_widgets.specs.TestedOrders.{ActsCame}
use Rattle.host_widgets.specs.declared.kept.Record.{Record}
use Rattle.host_widgets.proofs.SilentTicks.{AreInputs}
use Rattle.host_widgets.proofs.Walks.{did-on, did-room, handed_on}
use Rattle.host_pm.specs.InTurn.{InTurn}
use Rattle.host_pm.proofs.PowerOrders.{BroughtBack, back-failed, brought-back}
use Rattle.host_pm.proofs.resuming.bring_back.Goals as goal

pub bring_up-requires-clause-controls : goal.bring_up-requires-clause-controls
bring_up-requires-clause-controls g c = c.requires.kept.controls

pub prepare_all-requires-clause-streams : goal.prepare_all-requires-clause-streams
prepare_all-requires-clause-streams g c = ap (λ (r : Record). length r.streams) c.bring_up.ensures.kept ∙ c.requires.kept.streams

pub prepare_all-requires-clause-on : goal.prepare_all-requires-clause-on
prepare_all-requires-clause-on g c =
    let came = c.bring_up.ensures.acts in
    did-on g.P.Dsp.means c.args.side.now.plan.now c.args.side.now.heap false (bring_up c.args.side.now.plan.now c.args.side.now.kept.now) came.meetings c.args.side.now.kept.now (world_of c.args.side.now) (world c.bring_up.new.dsp c.bring_up.new.io c.bring_up.new.out) came.did (ap is_some c.requires.booted)

pub prepare_all-requires-clause-room : goal.prepare_all-requires-clause-room
prepare_all-requires-clause-room g c =
    let came = c.bring_up.ensures.acts in
    did-room g.P.Dsp.means c.args.side.now.plan.now c.args.side.now.heap false (bring_up c.args.side.now.plan.now c.args.side.now.kept.now) came.meetings c.args.side.now.kept.now (world_of c.args.side.now) (world c.bring_up.new.dsp c.bring_up.new.io c.bring_up.new.out) came.did c.requires.room

pub returns-in_err-bring_up-clause-acts : goal.returns-in_err-bring_up-clause-acts
returns-in_err-bring_up-clause-acts g c =
    let means = g.P.Dsp.means in
    let plan = c.args.side.now.plan.now in
    let kept = c.args.side.now.kept.now in
    let w = world_of c.args.side.now in
    let m = world c.bring_up.new.dsp c.bring_up.new.io c.bring_up.new.out in
    let fault = c.in_err-bring_up.field-0.0 in
    let x = subst (λ (o : Outcome). ActsCame means plan c.args.side.now.heap false (bring_up plan kept) kept c.bring_up.new.kept w m o) c.in_err-bring_up.was c.bring_up.ensures.acts in
    subst (λ (r : Record). ActsCame means plan c.args.side.now.heap false (bring_back plan kept) kept r w m c.from_residual.result) (sym c.bring_up.ensures.kept)
    (back-failed means plan c.args.side.now.heap c.requires.plan kept c.requires.kept c.requires.rests c.bring_up.new.kept w m fault c.from_residual.result x (handed_on c.from_residual.result fault c.from_residual.ensures))

pub returns-in_err-bring_up-clause-shows : goal.returns-in_err-bring_up-clause-shows
returns-in_err-bring_up-clause-shows g c ok = absurd (cc (sym (handed_on c.from_residual.result c.in_err-bring_up.field-0.0 c.from_residual.ensures) ∙ ok))

pub returns-in_err-bring_up-clause-left : goal.returns-in_err-bring_up-clause-left
returns-in_err-bring_up-clause-left g c ok = absurd (cc (sym (handed_on c.from_residual.result c.in_err-bring_up.field-0.0 c.from_residual.ensures) ∙ ok))

-- ---- all parameters were sent, or those up to one that did not pass

back : (g : _) (c : goal.After-prepare_all g) →
    BroughtBack g.P.Dsp.means c.args.side.now.plan.now c.args.side.now.heap c.args.side.now.kept.now (world_of c.args.side.now) (world c.bring_up.new.dsp c.bring_up.new.io c.bring_up.new.out) (world c.prepare_all.new.dsp c.prepare_all.new.io c.prepare_all.new.out) c.prepare_all.result
back g c =
    let means = g.P.Dsp.means in
    let plan = c.args.side.now.plan.now in
    let kept = c.args.side.now.kept.now in
    let w = world_of c.args.side.now in
    let m = world c.bring_up.new.dsp c.bring_up.new.io c.bring_up.new.out in
    let v = world c.prepare_all.new.dsp c.prepare_all.new.io c.prepare_all.new.out in
    let x = subst (λ (o : Outcome). ActsCame means plan c.args.side.now.heap false (bring_up plan kept) kept c.bring_up.new.kept w m o) c.in_ok-bring_up.was c.bring_up.ensures.acts in
    let left = subst (λ (o : Outcome). BroughtUp means plan c.args.side.now.heap kept c.args.side.now.dsp.now o c.bring_up.new.dsp) c.in_ok-bring_up.was c.bring_up.ensures.left in
    let turn = subst (λ (r : Record). InTurn means plan false (flat_map prepare_acts (zip plan.streams r.streams)) m v c.prepare_all.result) c.bring_up.ensures.kept c.prepare_all.ensures in
    let are : AreInputs c.args.side.now.io.now = record { distinct = c.len-inputs.ensures.distinct; positions = c.len-inputs.ensures.within } in
    brought-back means plan c.args.side.now.heap c.requires.plan kept c.requires.kept c.requires.rests c.bring_up.new.kept w m v c.prepare_all.result x left (subst AreInputs (sym c.bring_up.ensures.inputs) are) turn

pub returns-clause-acts : goal.returns-clause-acts
returns-clause-acts g c =
    subst (λ (r : Record). ActsCame g.P.Dsp.means c.args.side.now.plan.now c.args.side.now.heap false (bring_back c.args.side.now.plan.now c.args.side.now.kept.now) c.args.side.now.kept.now r (world_of c.args.side.now) (world c.prepare_all.new.dsp c.prepare_all.new.io c.prepare_all.new.out) c.prepare_all.result)
    (sym c.bring_up.ensures.kept) (back g c).came

pub returns-clause-shows : goal.returns-clause-shows
returns-clause-shows g c = (back g c).shows

pub returns-clause-left : goal.returns-clause-left
returns-clause-left g c = (back g c).left

pub returns-clause-inputs : goal.returns-clause-inputs
returns-clause-inputs g c = ap (λ (io : Io). io.inputs) (back g c).io ∙ c.bring_up.ensures.inputs

pub returns-clause-outputs : goal.returns-clause-outputs
returns-clause-outputs g c = ap (λ (io : Io). io.outputs) (back g c).io ∙ c.bring_up.ensures.outputs
