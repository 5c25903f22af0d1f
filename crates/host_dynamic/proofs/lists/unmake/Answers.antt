use Rattle.std.proofs.Common.{◌≡◌, ap, subst, ◌∙◌, ℕ, ◌<◌, List, map, take, length, get_or, arith}
use Rattle.std.proofs.lemmas.List.{take_all}
use Rattle.ipc3_model.specs.declared.message.Message.{Message}
use Rattle.ipc3_model.specs.Messages.{message_spelling}
use Rattle.mbox_link.specs.Calls.{world}
use Rattle.host_widgets.specs.Bringing.{Sent}
use Rattle.host_widgets.proofs.Walks.{passing, handed_on}
use Rattle.host_widgets.specs.UpActs.{unmade_order}
use Rattle.host_dynamic.proofs.lists.unmake.Goals as goal
use Rattle.host_widgets.specs.HostActs.{Unmake}
use Rattle.host_widgets.specs.ActMessages.{act_message}
use Rattle.host_widgets.specs.MadeLists.{ActsPassed}
use Rattle.host_widgets.proofs.MadeSent.{listed-on, listed-room, one-more, one-ends}

pub send-requires-clause-on : goal.send-requires-clause-on
send-requires-clause-on g c = listed-on g.P.Dsp.means c.args.plan.now _ _ _ _ passing c.loop-id.invariant c.requires.on

pub send-requires-clause-room : goal.send-requires-clause-room
send-requires-clause-room g c = listed-room g.P.Dsp.means c.args.plan.now _ _ _ _ passing c.loop-id.invariant c.requires.room

pub returns-in_err-send : goal.returns-in_err-send
returns-in_err-send g c =
    let plan = c.args.plan.now in
    let w = world c.args.dsp.now c.args.io.now c.args.out.now in
    let m = world c.loop-id.dsp c.loop-id.io c.loop-id.out in
    let v = world c.send.new.dsp c.send.new.io c.send.new.out in
    let ids : List ℕ = unmade_order plan.graph c.args.made.now in let i = c.loop-id.id-index in
    let same : c.items-id-items.result.now ≡ ids = c.items-id-items.ensures.value ∙ c.unmade_order-ids.ensures in
    let inside : i < length ids = omega (arith, c.loop-id-test.true, ap length same) in
    let message : c.unmake_message.result ≡ act_message plan (Unmake (get_or ids i 0)) = c.unmake_message.ensures ∙ ap (λ (xs : List ℕ). act_message plan (Unmake (get_or xs i 0))) same in
    let sent = subst (λ (x : Message). Sent g.P.Dsp.means (message_spelling x) m v c.send.result) message c.send.ensures in (
      map Unmake (take i ids),
      one-ends g.P.Dsp.means plan Unmake ids i 0 inside w m v c.send.result c.loop-id.invariant sent c.in_err-send.field-0.0 c.from_residual.result c.in_err-send.was
          (handed_on c.from_residual.result c.in_err-send.field-0.0 c.from_residual.ensures),
    )

pub loop-id-preserved : goal.loop-id-preserved
loop-id-preserved g c =
    let plan = c.args.plan.now in
    let w = world c.args.dsp.now c.args.io.now c.args.out.now in
    let m = world c.loop-id.dsp c.loop-id.io c.loop-id.out in
    let v = world c.send.new.dsp c.send.new.io c.send.new.out in
    let ids : List ℕ = unmade_order plan.graph c.args.made.now in let i = c.loop-id.id-index in
    let same : c.items-id-items.result.now ≡ ids = c.items-id-items.ensures.value ∙ c.unmade_order-ids.ensures in
    let inside : i < length ids = omega (arith, c.loop-id-test.true, ap length same) in
    let message : c.unmake_message.result ≡ act_message plan (Unmake (get_or ids i 0)) = c.unmake_message.ensures ∙ ap (λ (xs : List ℕ). act_message plan (Unmake (get_or xs i 0))) same in
    let sent = subst (λ (x : Message). Sent g.P.Dsp.means (message_spelling x) m v c.send.result) message c.send.ensures in
    one-more g.P.Dsp.means plan Unmake ids i 0 inside w m v c.send.result c.loop-id.invariant sent c.in_ok-send.field-0 c.in_ok-send.was

pub returns : goal.returns
returns g c =
    let plan = c.args.plan.now in
    let ids : List ℕ = unmade_order plan.graph c.args.made.now in
    let same : c.items-id-items.result.now ≡ ids = c.items-id-items.ensures.value ∙ c.unmade_order-ids.ensures in (
      map Unmake ids,
      subst (λ (xs : List ℕ). ActsPassed g.P.Dsp.means plan (map Unmake xs) (map Unmake xs) (world c.args.dsp.now c.args.io.now c.args.out.now) (world c.loop-id.dsp c.loop-id.io c.loop-id.out) passing)
          (take_all c.loop-id.id-index ids (omega (arith, c.loop-id-test.false, ap length same))) c.loop-id.invariant,
    )
