use Rattle.std.proofs.Common.{ap, ◌∙◌}
use Rattle.ipc3_model.specs.declared.message.Message.TheVariants.{GetValue}
use Rattle.tplg_plan.specs.declared.plans.ControlPlan.{ControlPlan}
use Rattle.host_widgets.specs.Sides.{world_of}
use Rattle.host_ctl.specs.ControlAnswers.{outcome_of}
use Rattle.host_ctl.proofs.ControlTests.{handed}
use Rattle.host_ctl.proofs.ControlAnswered.{ask-failed, ask-passed, ask-stays, value-asks}
use Rattle.host_ctl.proofs.ControlCalls.{place-control, ask-said}
use Rattle.host_ctl.proofs.carrying.ask.Goals as goal

pub returns-in_err-reply-clause-answered : goal.returns-in_err-reply-clause-answered
returns-in_err-reply-clause-answered g c =
    let comp = place-control c.args.side.now.plan.now c.args.place c.requires.place c.items.result.now _ c.items.ensures in
    let says = value-asks g.P.Dsp.means c.args.side.now c.requires.ready c.args.place c.requires.place c.args.command c.requires.command _ comp in
    ask-failed g.P.Dsp.means c.args.side.now c.requires.ready c.args.place c.requires.place 0 _ says (world_of c.args.side.now) (world_of c.transact.new.side) c.transact.new.side.kept.now c.transact.result c.transact.ensures.replied c.in_err-reply.field-0.0 c.in_err-reply.was
    _ (ap outcome_of (handed c.from_residual.result c.in_err-reply.field-0.0 c.from_residual.ensures))

pub returns : goal.returns
returns g c =
    let comp = place-control c.args.side.now.plan.now c.args.place c.requires.place c.items.result.now _ c.items.ensures in
    let says = value-asks g.P.Dsp.means c.args.side.now c.requires.ready c.args.place c.requires.place c.args.command c.requires.command _ comp in
    let still = ask-stays g.P.Dsp.means c.args.side.now c.requires.ready c.args.place c.requires.place 0 _ says (world_of c.args.side.now) (world_of c.transact.new.side) c.transact.new.side.kept.now c.transact.result c.transact.ensures.replied c.in_ok-reply.reply c.in_ok-reply.was in
    record {
      answered = ask-passed g.P.Dsp.means c.args.side.now c.requires.ready c.args.place c.requires.place 0 _ says (world_of c.args.side.now) (world_of c.transact.new.side) c.transact.new.side.kept.now c.transact.result c.transact.ensures.replied c.in_ok-reply.reply c.in_ok-reply.was c.transact.new.side.kept.now still;
      told = λ set. (let said = ask-said g.P.Dsp.means c.args.side.now.plan.now c.requires.ready.plan c.args.side.now.heap c.args.place c.requires.place c.args.side.now.kept.now c.requires.ready.record_is (world_of c.args.side.now) (c.requires.ready.on c.requires.power) set c.args.command c.requires.command _ (ap (λ (k : ControlPlan). GetValue k.comp c.args.command) comp)
          c.transact.new.side.kept.now (world_of c.transact.new.side) c.transact.result c.transact.ensures.replied c.in_ok-reply.reply c.in_ok-reply.was in (c.values_of.ensures ∙ said.0, said.1));
      still = still;
      same = c.transact.ensures.same;
    }
