use Rattle.std.proofs.Common.{◌≡◌, cond, refl, ap, sym, ◌∙◌}
use Rattle.host_widgets.specs.Sides.{world_of}
use Rattle.tplg_plan.specs.declared.plans.StreamPlan.{StreamPlan}
use Rattle.ipc3_model.specs.declared.message.Message.TheVariants.{PcmParams}
use Rattle.host_widgets.specs.ActMessages.{act_message}
use Rattle.host_widgets.specs.HostActs.{Prepare, prepared_stream}
use Rattle.host_widgets.proofs.Walks.{handed_on}
use Rattle.host_pcm.specs.StreamCalls.{host_at}
use Rattle.host_widgets.proofs.PlannedStreams.{place-goes, place-stream}
use Rattle.host_pcm.proofs.AnsweredCalls.{passed-at, failed-at}
use Rattle.host_pcm.proofs.Places.{place-changed}
use Rattle.host_pcm.proofs.carrying.prepare.Goals as goal

pub returns-in_err-transact_no_reply : goal.returns-in_err-transact_no_reply
returns-in_err-transact_no_reply g c =
    let plan = c.args.side.now.plan.now in
    let stream = c.index-items-place.is ∙ place-stream plan c.args.place c.requires.place c.items.result.now c.index-items-place.result c.items.ensures in
    let goes = c.direction.ensures ∙ ap (λ (s : StreamPlan). cond s.capture 1 0) stream in
    let writes : PcmParams c.index-items-place.result.host c.direction.result c.args.p ≡ act_message plan (Prepare (host_at plan c.args.place) c.args.p) = λ i. PcmParams (stream i).host ((goes ∙ sym (place-goes plan c.requires.ready.plan c.args.place c.requires.place)) i) c.args.p in
    record {
      answered = failed-at g.P.Dsp.means c.args.side.now c.args.place (Prepare (host_at plan c.args.place) c.args.p) (λ now. now) _ writes
          c.transact_no_reply.new.side.kept.now (world_of c.transact_no_reply.new.side) c.transact_no_reply.result c.transact_no_reply.ensures.passes c.in_err-transact_no_reply.field-0.0 c.in_err-transact_no_reply.was _ (handed_on c.from_residual.result c.in_err-transact_no_reply.field-0.0 c.from_residual.ensures);
      same = c.transact_no_reply.ensures.same;
    }

pub returns : goal.returns
returns g c =
    let plan = c.args.side.now.plan.now in
    let stream = c.index-items-place.is ∙ place-stream plan c.args.place c.requires.place c.items.result.now c.index-items-place.result c.items.ensures in
    let goes = c.direction.ensures ∙ ap (λ (s : StreamPlan). cond s.capture 1 0) stream in
    let writes : PcmParams c.index-items-place.result.host c.direction.result c.args.p ≡ act_message plan (Prepare (host_at plan c.args.place) c.args.p) = λ i. PcmParams (stream i).host ((goes ∙ sym (place-goes plan c.requires.ready.plan c.args.place c.requires.place)) i) c.args.p in
    let same = c.transact_no_reply.ensures.same in
    record {
      answered = passed-at g.P.Dsp.means c.args.side.now c.args.place (Prepare (host_at plan c.args.place) c.args.p) (λ now. now) _ writes
          c.transact_no_reply.new.side.kept.now (world_of c.transact_no_reply.new.side) c.transact_no_reply.result c.transact_no_reply.ensures.passes c.in_ok-transact_no_reply.was (prepared_stream c.args.p)
          (place-changed plan c.requires.ready.plan c.args.place c.requires.place (prepared_stream c.args.p) c.args.side.now.kept.now c.requires.ready.record_is.streams) refl _ refl c.put.new.self c.put.ensures;
      same = record { plan = same.plan; heap = same.heap; kept = same.kept; dsp = same.dsp; io = same.io; out = same.out };
    }
