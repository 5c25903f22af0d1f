use Rattle.std.proofs.Common.{◌≡◌, sym, ◌∙◌, arith}
use Rattle.mbox_link.specs.Exchange.{more}
use Rattle.mbox_link.specs.Calls.{world}
use Rattle.ipc3_far.proofs.FarExchanges.{far_passed, far_failed}
use Rattle.ipc3_far.proofs.far.FarDsp.exchange.Goals as goal

pub returns-then-is_right-clause-did : goal.returns-then-is_right-clause-did
returns-then-is_right-clause-did g c =
    let w = world c.self.inside.dsp c.args.io.now c.args.out.now in
    let v = world c.exchange-own.new.self c.exchange-own.new.io c.exchange-own.new.out in
    rw (← c.self.view_is) (far_passed g.P.Dsp.means c.args.request.now w v c.self.inside.broken c.self.inside.talk c.ask-answer.new.self c.ask-answer.result c.ask-answer.ensures _ (sym c.is_right.ensures ∙ c.if-is_right.true) c.exchange-own.ensures.did)

pub returns-clause-did : goal.returns-clause-did
returns-clause-did g c =
    let w = world c.self.inside.dsp c.args.io.now c.args.out.now in
    let v = world c.exchange-own.new.self c.exchange-own.new.io c.exchange-own.new.out in
    let counted : c.saturating_add-self-inside-2.result ≡ more c.self.inside.broken = c.saturating_add-self-inside-2.ensures in
    rw (← c.self.view_is, counted) (far_failed g.P.Dsp.means c.args.request.now w v c.self.inside.broken c.self.inside.talk c.ask-answer.new.self c.ask-answer.result c.ask-answer.ensures (omega arith) _ (sym c.is_right.ensures ∙ c.if-is_right.false) c.exchange-own.ensures.did)
