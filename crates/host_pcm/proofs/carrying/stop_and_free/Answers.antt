use Rattle.std.proofs.Common.{◌<◌, ◌≡◌, ℕ, [], ◌∷◌, length, Ok, sym, subst, ap, ◌∙◌}
use Rattle.tplg_plan.specs.declared.plans.Plan.{Plan}
use Rattle.tplg_plan.specs.Sound.{IsSound}
use Rattle.host_widgets.specs.Sides.{world_of}
use Rattle.host_widgets.specs.declared.kept.Record.{Record}
use Rattle.host_widgets.specs.declared.trigger.Trigger.TheVariants.{Stop}
use Rattle.host_widgets.specs.HostActs.{Free, Trig, triggered_stream}
use Rattle.host_widgets.specs.AnsweredOrders.{ActsAnswered, OrderAnswered}
use Rattle.host_widgets.specs.Host.{Outcome}
use Rattle.host_widgets.specs.Kept.{with_stream}
use Rattle.host_widgets.proofs.AnsweredActs.{answered-failed, answered-sent, answered-then, one-left}
use Rattle.host_widgets.proofs.RecordsStay.{same-length}
use Rattle.host_widgets.proofs.Walks.{handed_on, sent-on, sent-room}
use Rattle.host_pcm.specs.declared.asking.Ask.TheVariants.{Closing}
use Rattle.host_pcm.specs.StreamCalls.{host_at, place_order, shut}
use Rattle.host_pcm.proofs.AnsweredCalls.{stops-answered}
use Rattle.host_pcm.proofs.carrying.stop_and_free.Goals as goal

pub free-requires : goal.free-requires
free-requires g c =
    let means = g.P.Dsp.means in
    let plan = c.args.side.now.plan.now in
    let heap = c.args.side.now.heap in
    let k = c.args.place in
    let kept = c.args.side.now.kept.now in
    let w = world_of c.args.side.now in
    let m = world_of c.trigger.new.side in
    let first = subst (λ (o : Outcome). ActsAnswered means plan heap (λ now. now) (Trig (host_at plan k) Stop ∷ []) kept c.trigger.new.side.kept.now w m o) c.in_ok-trigger.was c.trigger.ensures.answered in
    let left = one-left means plan heap (Trig (host_at plan k) Stop) kept c.trigger.new.side.kept.now w m first in
    let sent = answered-sent means plan heap (Trig (host_at plan k) Stop ∷ []) (λ now. now) kept c.trigger.new.side.kept.now w m first in
    let same : plan ≡ c.trigger.new.side.plan.now = λ i. (sym c.trigger.ensures.same.plan i).now in
    record {
      plan = subst IsSound same c.requires.ready.plan;
      streams = ap (λ (r : Record). length r.streams) left ∙ same-length (host_at plan k) (triggered_stream Stop) plan.streams kept.streams ∙ c.requires.ready.record_is.streams ∙ ap (λ (p : Plan). length p.streams) same;
      on = sent-on means plan (Trig (host_at plan k) Stop ∷ []) w m (Ok tt) sent (c.requires.ready.on c.requires.power);
      room = sent-room means plan (Trig (host_at plan k) Stop ∷ []) w m (Ok tt) sent c.requires.ready.room;
      place = subst (λ (p : Plan). k < length p.streams) same c.requires.place;
    }

pub returns-in_err-trigger-clause-answered : goal.returns-in_err-trigger-clause-answered
returns-in_err-trigger-clause-answered g c =
    let means = g.P.Dsp.means in
    let plan = c.args.side.now.plan.now in
    let heap = c.args.side.now.heap in
    let k = c.args.place in
    let kept = c.args.side.now.kept.now in
    let w = world_of c.args.side.now in
    let m = world_of c.trigger.new.side in
    let fault = c.in_err-trigger.field-0.0 in
    let first = subst (λ (o : Outcome). ActsAnswered means plan heap (λ now. now) (Trig (host_at plan k) Stop ∷ []) kept c.trigger.new.side.kept.now w m o) c.in_err-trigger.was c.trigger.ensures.answered in
    subst (λ (o : Outcome). OrderAnswered means plan heap (place_order plan kept k Closing) kept c.trigger.new.side.kept.now w m o) (sym (handed_on c.from_residual.result fault c.from_residual.ensures))
    (stops-answered means c.args.side.now k c.requires.power c.requires.found c.trigger.new.side.kept.now m _
    (answered-failed means plan heap (Trig (host_at plan k) Stop ∷ []) (Free (host_at plan k) ∷ []) (with_stream plan (host_at plan k) shut) kept c.trigger.new.side.kept.now w m fault first))

pub returns-clause-answered : goal.returns-clause-answered
returns-clause-answered g c =
    let means = g.P.Dsp.means in
    let plan = c.args.side.now.plan.now in
    let heap = c.args.side.now.heap in
    let k = c.args.place in
    let kept = c.args.side.now.kept.now in
    let w = world_of c.args.side.now in
    let m = world_of c.trigger.new.side in
    let v = world_of c.free.new.side in
    let first = subst (λ (o : Outcome). ActsAnswered means plan heap (λ now. now) (Trig (host_at plan k) Stop ∷ []) kept c.trigger.new.side.kept.now w m o) c.in_ok-trigger.was c.trigger.ensures.answered in
    stops-answered means c.args.side.now k c.requires.power c.requires.found c.free.new.side.kept.now v c.free.result
    (answered-then means plan heap (Trig (host_at plan k) Stop ∷ []) (Free (host_at plan k) ∷ []) (with_stream plan (host_at plan k) shut) kept c.trigger.new.side.kept.now c.free.new.side.kept.now w m v c.free.result first
    (subst (λ (p : Plan × ℕ). ActsAnswered means p.0 p.1 (with_stream p.0 (host_at p.0 k) shut) (Free (host_at p.0 k) ∷ []) c.trigger.new.side.kept.now c.free.new.side.kept.now m v c.free.result) (λ i. ((c.trigger.ensures.same.plan i).now, c.trigger.ensures.same.heap i)) c.free.ensures.answered))
