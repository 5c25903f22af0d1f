use Rattle.std.proofs.Common.{◌<◌, length, subst, sym, ◌∙◌}
use Rattle.host_widgets.specs.Sides.{world_of}
use Rattle.host_widgets.specs.declared.kept.Record.{Record}
use Rattle.host_widgets.proofs.Walks.{handed_on}
use Rattle.host_ctl.proofs.ControlAnswered.{put-failed, put-passed, put-stays}
use Rattle.host_ctl.proofs.ControlsThere.{within}
use Rattle.host_ctl.proofs.ControlCalls.{place-control}
use Rattle.host_ctl.proofs.carrying.put.Goals as goal

pub returns-in_err-transact_no_reply : goal.returns-in_err-transact_no_reply
returns-in_err-transact_no_reply g c =
    let comp = c.index-items-place.is ∙ place-control c.args.side.now.plan.now c.args.place c.requires.place c.items.result.now c.index-items-place.result c.items.ensures in
    record {
      answered = put-failed g.P.Dsp.means c.args.side.now c.requires.ready c.args.place c.requires.place c.args.values.now c.requires.values c.set_message-message.result c.index-items-place.result c.set_message-message.ensures comp
          c.transact_no_reply.new.side.kept.now (world_of c.transact_no_reply.new.side) c.transact_no_reply.result c.transact_no_reply.ensures.passes c.in_err-transact_no_reply.field-0.0 c.in_err-transact_no_reply.was _ (handed_on c.from_residual.result c.in_err-transact_no_reply.field-0.0 c.from_residual.ensures);
      same = c.transact_no_reply.ensures.same;
    }

pub keep-requires : goal.keep-requires
keep-requires g c =
    let comp = c.index-items-place.is ∙ place-control c.args.side.now.plan.now c.args.place c.requires.place c.items.result.now c.index-items-place.result c.items.ensures in
    let stays = put-stays g.P.Dsp.means c.args.side.now c.requires.ready c.args.place c.requires.place c.args.values.now c.requires.values c.set_message-message.result c.index-items-place.result c.set_message-message.ensures comp
    c.transact_no_reply.new.side.kept.now (world_of c.transact_no_reply.new.side) c.transact_no_reply.result c.transact_no_reply.ensures.passes c.in_ok-transact_no_reply.was in
    subst (λ (now : Record). c.args.place < length now.controls) (sym stays) (within c.args.side.now.plan.now c.requires.ready.plan c.args.side.now.kept.now c.requires.ready.record_is c.args.place c.requires.place)

pub returns : goal.returns
returns g c =
    let comp = c.index-items-place.is ∙ place-control c.args.side.now.plan.now c.args.place c.requires.place c.items.result.now c.index-items-place.result c.items.ensures in
    let same = c.transact_no_reply.ensures.same in
    record {
      answered = put-passed g.P.Dsp.means c.args.side.now c.requires.ready c.args.place c.requires.place c.args.values.now c.requires.values c.set_message-message.result c.index-items-place.result c.set_message-message.ensures comp
          c.transact_no_reply.new.side.kept.now (world_of c.transact_no_reply.new.side) c.transact_no_reply.result c.transact_no_reply.ensures.passes c.in_ok-transact_no_reply.was c.keep.new.kept c.keep.ensures;
      same = record { plan = same.plan; heap = same.heap; kept = same.kept; dsp = same.dsp; io = same.io; out = same.out };
    }
