use Rattle.std.proofs.Common.{◌≡◌, ap, subst, ◌∙◌, ℕ, ◌<◌, List, [], ◌∷◌, ◌++◌, map, take, length, get_or, sym, arith, append_assoc}
use Rattle.std.proofs.lemmas.List.{take_all, take_more}
use Rattle.ipc3_model.specs.declared.message.Message.{Message}
use Rattle.ipc3_model.specs.Messages.{message_spelling}
use Rattle.mbox_link.specs.Calls.{world}
use Rattle.tplg_plan.specs.declared.plans.WidgetPlan.{WidgetPlan}
use Rattle.host_widgets.specs.ActMessages.{act_message}
use Rattle.host_widgets.specs.Acts.{no_words, make_message}
use Rattle.host_widgets.specs.Bringing.{Sent}
use Rattle.host_widgets.specs.HostActs.{Make}
use Rattle.host_widgets.specs.MadeLists.{ActsPassed}
use Rattle.host_widgets.proofs.MadeSent.{all-at, listed-on, listed-room, one-more, one-ends, listed-so}
use Rattle.host_widgets.proofs.Walks.{passing, handed_on}
use Rattle.host_widgets.proofs.lists.make_widgets.Goals as goal

pub bounds-items-id : goal.bounds-items-id
bounds-items-id g c =
    omega (arith, all-at (λ (id : ℕ). id < length c.args.plan.now.widgets) c.args.ids.now c.loop-id.id-index 0 c.loop-id-test.true c.requires.low, ap length c.items.ensures)

pub send-requires-clause-on : goal.send-requires-clause-on
send-requires-clause-on g c = listed-on g.P.Dsp.means c.args.plan.now _ _ _ _ passing c.loop-id.invariant.sent c.requires.on

pub send-requires-clause-room : goal.send-requires-clause-room
send-requires-clause-room g c = listed-room g.P.Dsp.means c.args.plan.now _ _ _ _ passing c.loop-id.invariant.sent c.requires.room

pub returns-in_err-send : goal.returns-in_err-send
returns-in_err-send g c =
    let means = g.P.Dsp.means in let plan = c.args.plan.now in let ids : List ℕ = c.args.ids.now in let i = c.loop-id.id-index in
    let w = world c.args.dsp.now c.args.io.now c.args.out.now in let m = world c.loop-id.dsp c.loop-id.io c.loop-id.out in let v = world c.send.new.dsp c.send.new.io c.send.new.out in
    let message : c.make_message.result ≡ act_message plan (Make (get_or ids i 0)) = c.make_message.ensures ∙ ap (λ (ws : List WidgetPlan). make_message plan (get_or ids i 0) (get_or ws (get_or ids i 0) no_words)) c.items.ensures in
    let sent = subst (λ (x : Message). Sent means (message_spelling x) m v c.send.result) message c.send.ensures in
    listed-so means plan ids (take i ids) c.args.made.now.items c.loop-id.made.items w v c.from_residual.result
    (one-ends means plan Make ids i 0 c.loop-id-test.true w m v c.send.result c.loop-id.invariant.sent sent c.in_err-send.field-0.0 c.from_residual.result c.in_err-send.was (handed_on c.from_residual.result c.in_err-send.field-0.0 c.from_residual.ensures))
    c.loop-id.invariant.made

pub loop-id-preserved : goal.loop-id-preserved
loop-id-preserved g c =
    let means = g.P.Dsp.means in let plan = c.args.plan.now in let ids : List ℕ = c.args.ids.now in let i = c.loop-id.id-index in
    let old : List ℕ = c.args.made.now.items in
    let w = world c.args.dsp.now c.args.io.now c.args.out.now in let m = world c.loop-id.dsp c.loop-id.io c.loop-id.out in let v = world c.send.new.dsp c.send.new.io c.send.new.out in
    let message : c.make_message.result ≡ act_message plan (Make (get_or ids i 0)) = c.make_message.ensures ∙ ap (λ (ws : List WidgetPlan). make_message plan (get_or ids i 0) (get_or ws (get_or ids i 0) no_words)) c.items.ensures in
    let sent = subst (λ (x : Message). Sent means (message_spelling x) m v c.send.result) message c.send.ensures in
    record {
      sent = one-more means plan Make ids i 0 c.loop-id-test.true w m v c.send.result c.loop-id.invariant.sent sent c.in_ok-send.field-0 c.in_ok-send.was;
      made =
          c.push.ensures.items
          ∙ ap (λ (xs : List ℕ). xs ++ get_or ids i 0 ∷ []) c.loop-id.invariant.made
          ∙ append_assoc old (take i ids) (get_or ids i 0 ∷ [])
          ∙ ap (λ (xs : List ℕ). old ++ xs) (sym (take_more ids i 0 c.loop-id-test.true));
    }

pub returns : goal.returns
returns g c =
    let means = g.P.Dsp.means in let plan = c.args.plan.now in let ids : List ℕ = c.args.ids.now in let i = c.loop-id.id-index in
    let old : List ℕ = c.args.made.now.items in
    let w = world c.args.dsp.now c.args.io.now c.args.out.now in let v = world c.loop-id.dsp c.loop-id.io c.loop-id.out in
    let all : take i ids ≡ ids = take_all i ids (omega (arith, c.loop-id-test.false)) in
    listed-so means plan ids ids old c.loop-id.made.items w v passing (subst (λ (xs : List ℕ). ActsPassed means plan (map Make xs) (map Make xs) w v passing) all c.loop-id.invariant.sent)
    (c.loop-id.invariant.made ∙ ap (λ (xs : List ℕ). old ++ xs) all)
