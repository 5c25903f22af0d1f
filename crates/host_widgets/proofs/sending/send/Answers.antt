use Rattle.std.proofs.Common.{◌≡◌, take, List, ℕ, subst}
use Rattle.mbox_link.specs.Calls.{world, Exchanged}
use Rattle.mbox_link.specs.AnswerBytes.{answered}
use Rattle.ipc3_model.specs.Messages.{message_spelling}
use Rattle.host_widgets.proofs.Exchanges.{sent}
use Rattle.host_widgets.proofs.sending.send.Goals as goal

pub returns : goal.returns
returns g c =
    let means = g.P.Dsp.means in
    let answer = answered c.exchange-answer.result c.exchange-answer.new.reply in
    let w = world c.args.dsp.now c.args.io.now c.args.out.now in
    let v = world c.exchange-answer.new.self c.exchange-answer.new.io c.exchange-answer.new.out in
    let spelling : take c.encode-size.result c.encode-size.new.out ≡ message_spelling c.args.message.now = c.encode-size.ensures.bytes in
    sent means (message_spelling c.args.message.now) answer w v c.judge.result c.requires.on
    (subst (λ (request : List ℕ). Exchanged means request answer w v) spelling c.exchange-answer.ensures.did) c.judge.ensures
