use Rattle.std.proofs.Common.{Ok, [], ◌∷◌, refl, ap, subst, sym}
use Rattle.host_widgets.specs.Sides.{world_of}
use Rattle.tplg_plan.specs.declared.plans.StreamPlan.{StreamPlan}
use Rattle.host_widgets.specs.declared.kept.Record.{Record}
use Rattle.ipc3_model.specs.declared.message.Message.TheVariants.{PcmFree}
use Rattle.host_widgets.specs.AnsweredOrders.{ActsAnswered}
use Rattle.host_widgets.specs.HostActs.{Free}
use Rattle.host_widgets.specs.HostRecord.{closed}
use Rattle.host_widgets.specs.Kept.{with_stream}
use Rattle.host_widgets.proofs.Walks.{handed_on}
use Rattle.host_pcm.specs.StreamCalls.{host_at, shut}
use Rattle.host_widgets.proofs.PlannedStreams.{place-stream}
use Rattle.host_pcm.proofs.AnsweredCalls.{passed-at, failed-at}
use Rattle.host_pcm.proofs.Places.{place-changed, shut-over}
use Rattle.host_pcm.proofs.carrying.free.Goals as goal

pub returns-in_err-transact_no_reply : goal.returns-in_err-transact_no_reply
returns-in_err-transact_no_reply g c =
    let plan = c.args.side.now.plan.now in
    let host = ap (λ (s : StreamPlan). s.host) (place-stream plan c.args.place c.requires.place c.items.result.now _ c.items.ensures) in
    record {
      answered = failed-at g.P.Dsp.means c.args.side.now c.args.place (Free (host_at plan c.args.place)) (with_stream plan (host_at plan c.args.place) shut) _ (ap PcmFree host)
          c.transact_no_reply.new.side.kept.now (world_of c.transact_no_reply.new.side) c.transact_no_reply.result c.transact_no_reply.ensures.passes c.in_err-transact_no_reply.field-0.0 c.in_err-transact_no_reply.was _ (handed_on c.from_residual.result c.in_err-transact_no_reply.field-0.0 c.from_residual.ensures);
      same = c.transact_no_reply.ensures.same;
    }

pub returns : goal.returns
returns g c =
    let plan = c.args.side.now.plan.now in
    let host = ap (λ (s : StreamPlan). s.host) (place-stream plan c.args.place c.requires.place c.items.result.now _ c.items.ensures) in
    let kept = c.args.side.now.kept.now in
    let same = c.transact_no_reply.ensures.same in
    record {
      answered = subst (λ (new : Record). ActsAnswered g.P.Dsp.means plan c.args.side.now.heap (with_stream plan (host_at plan c.args.place) shut) (Free (host_at plan c.args.place) ∷ []) kept new (world_of c.args.side.now) (world_of c.transact_no_reply.new.side) (Ok tt)) (sym c.shut.ensures)
          (passed-at g.P.Dsp.means c.args.side.now c.args.place (Free (host_at plan c.args.place)) (with_stream plan (host_at plan c.args.place) shut) _ (ap PcmFree host)
          c.transact_no_reply.new.side.kept.now (world_of c.transact_no_reply.new.side) c.transact_no_reply.result c.transact_no_reply.ensures.passes c.in_ok-transact_no_reply.was shut
          (place-changed plan c.requires.plan c.args.place c.requires.place shut kept c.requires.streams) (shut-over plan (host_at plan c.args.place) (λ r. closed) kept) _ refl _ refl);
      same = record { plan = same.plan; heap = same.heap; kept = same.kept; dsp = same.dsp; io = same.io; out = same.out };
    }
