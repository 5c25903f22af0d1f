use Rattle.std.proofs.Common.{ℕ, List, get_or, refl, ap, ◌∙◌}
use Rattle.host_widgets.specs.Sides.{world_of}
use Rattle.tplg_plan.specs.declared.plans.StreamPlan.{StreamPlan}
use Rattle.host_widgets.specs.declared.kept.StreamRec.{StreamRec}
use Rattle.host_widgets.specs.HostRecord.{closed}
use Rattle.host_widgets.specs.Acts.{trigger_message}
use Rattle.host_widgets.specs.HostActs.{Trig, triggered_stream}
use Rattle.host_widgets.proofs.Walks.{handed_on}
use Rattle.host_pcm.specs.StreamCalls.{host_at}
use Rattle.host_widgets.proofs.PlannedStreams.{place-stream}
use Rattle.host_pcm.proofs.AnsweredCalls.{passed-at, failed-at}
use Rattle.host_pcm.proofs.Places.{place-changed}
use Rattle.host_pcm.proofs.carrying.trigger.Goals as goal

pub returns-in_err-transact_no_reply : goal.returns-in_err-transact_no_reply
returns-in_err-transact_no_reply g c =
    let plan = c.args.side.now.plan.now in
    let host = ap (λ (s : StreamPlan). s.host) (place-stream plan c.args.place c.requires.place c.items.result.now _ c.items.ensures) in
    record {
      answered = failed-at g.P.Dsp.means c.args.side.now c.args.place (Trig (host_at plan c.args.place) c.args.what) (λ now. now) c.message.result (c.message.ensures ∙ ap (λ (n : ℕ). trigger_message n c.args.what) host)
          c.transact_no_reply.new.side.kept.now (world_of c.transact_no_reply.new.side) c.transact_no_reply.result c.transact_no_reply.ensures.passes c.in_err-transact_no_reply.field-0.0 c.in_err-transact_no_reply.was _ (handed_on c.from_residual.result c.in_err-transact_no_reply.field-0.0 c.from_residual.ensures);
      same = c.transact_no_reply.ensures.same;
    }

pub returns : goal.returns
returns g c =
    let plan = c.args.side.now.plan.now in
    let host = ap (λ (s : StreamPlan). s.host) (place-stream plan c.args.place c.requires.place c.items.result.now _ c.items.ensures) in
    let same = c.transact_no_reply.ensures.same in
    record {
      answered = passed-at g.P.Dsp.means c.args.side.now c.args.place (Trig (host_at plan c.args.place) c.args.what) (λ now. now) c.message.result (c.message.ensures ∙ ap (λ (n : ℕ). trigger_message n c.args.what) host)
          c.transact_no_reply.new.side.kept.now (world_of c.transact_no_reply.new.side) c.transact_no_reply.result c.transact_no_reply.ensures.passes c.in_ok-transact_no_reply.was (triggered_stream c.args.what)
          (place-changed plan c.requires.ready.plan c.args.place c.requires.place (triggered_stream c.args.what) c.args.side.now.kept.now c.requires.ready.record_is.streams) refl _
          (λ i. record { found = c.triggered.ensures i; params = (ap (λ (rs : List StreamRec). (get_or rs c.args.place closed).params) c.items-2.ensures) i }) c.put.new.self c.put.ensures;
      same = record { plan = same.plan; heap = same.heap; kept = same.kept; dsp = same.dsp; io = same.io; out = same.out };
    }
