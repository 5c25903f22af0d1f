use Rattle.std.proofs.Common.{arith}
use Rattle.sof_session.specs.SessionCalls.{ports}
use Rattle.sof_session.proofs.Agreement.{pending-room, is-on}
use Rattle.sof_session.proofs.ModeCalls.{same-sent, ask-steps}
use Rattle.sof_session.proofs.Writings.{all-room}
use Rattle.sof_session.proofs.session.Session.ask.Goals as goal

pub ask-asked-requires-clause-on : goal.ask-asked-requires-clause-on
ask-asked-requires-clause-on g c =
    let inside = c.self.inside in
    is-on g.P.Dsp.means (record { link = inside.link; kept = inside.kept; plan = inside.plan; heap = inside.heap; up = inside.up }) c.self.invariant

pub ask-asked-requires-clause-kept : goal.ask-asked-requires-clause-kept
ask-asked-requires-clause-kept g c = c.self.invariant.agree.record_is

pub ask-asked-requires-clause-room : goal.ask-asked-requires-clause-room
ask-asked-requires-clause-room g c =
    let inside = c.self.inside in
    pending-room g.P.Dsp.means (record { link = inside.link; kept = inside.kept; plan = inside.plan; heap = inside.heap; up = inside.up }) c.self.invariant c.args.out.now (all-room c.args.out.now c.requires.empty 983040 (omega arith))

pub returns : goal.returns
returns g c =
    let inside = c.self.inside in
    let done = c.ask-asked in
    rw (← c.self.view_is) (ask-steps g.P.Dsp.means (record { link = inside.link; kept = inside.kept; plan = inside.plan; heap = inside.heap; up = inside.up }) c.self.invariant (same-sent c.self.view_is c.requires.few) done.new.dsp (ports c.args.io.now c.args.out.now) (ports done.new.io done.new.out) c.requires.empty done.new.kept c.answer_of.result done.result c.answer_of.ensures c.args.name.now c.args.ask c.requires.sends done.ensures.answered done.ensures.asked done.ensures.agree)

pub invariant_of-self : goal.invariant_of-self
invariant_of-self g c =
    let inside = c.self.inside in
    let done = c.ask-asked in
    let step = ask-steps g.P.Dsp.means (record { link = inside.link; kept = inside.kept; plan = inside.plan; heap = inside.heap; up = inside.up }) c.self.invariant (same-sent c.self.view_is c.requires.few) done.new.dsp (ports c.args.io.now c.args.out.now) (ports done.new.io done.new.out) c.requires.empty done.new.kept c.answer_of.result done.result c.answer_of.ensures c.args.name.now c.args.ask c.requires.sends done.ensures.answered done.ensures.asked done.ensures.agree in
    step.agreed
