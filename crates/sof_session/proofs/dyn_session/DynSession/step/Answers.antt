use Rattle.std.proofs.Common.{arith}
use Rattle.sof_session.specs.SessionCalls.{ports}
use Rattle.sof_session.proofs.Agreement.{at}
use Rattle.sof_session.proofs.UpMode.{up-stepped}
use Rattle.sof_session.proofs.ModeSteps.{few-by}
use Rattle.sof_session.proofs.dyn_session.DynSession.step.Goals as goal

pub returns-clause-stepped : goal.returns-clause-stepped
returns-clause-stepped g c =
    let old = c.self.inside.session in
    let done = c.step in
    rw (← c.self.view_is)
    (up-stepped g.P.Dsp.means c.args.command.now old done.new.self (at old.link (ports c.args.io.now c.args.out.now)) (at done.new.self.link (ports done.new.io done.new.out)) done.result done.ensures.stepped c.self.invariant).0.done

pub returns-clause-sent : goal.returns-clause-sent
returns-clause-sent g c =
    let old = c.self.inside.session in
    rw (← c.self.view_is)
    omega (arith, c.step.ensures.sent, few-by old.up c.args.command.now)

pub invariant_of-self : goal.invariant_of-self
invariant_of-self g c =
    let old = c.self.inside.session in
    let done = c.step in
    (up-stepped g.P.Dsp.means c.args.command.now old done.new.self (at old.link (ports c.args.io.now c.args.out.now)) (at done.new.self.link (ports done.new.io done.new.out)) done.result done.ensures.stepped c.self.invariant).0.stays
