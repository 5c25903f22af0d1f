use Rattle.std.proofs.Common.{refl, arith}
use Rattle.sof_script.specs.declared.script.Command.TheVariants as commands
use Rattle.sof_session.specs.SessionCalls.{ports}
use Rattle.sof_session.proofs.Agreement.{pending-room, is-on}
use Rattle.sof_session.proofs.ModeCalls.{same-sent, opening-steps, made-steps}
use Rattle.sof_session.proofs.UpCalls.{made-state, made-agrees}
use Rattle.sof_session.proofs.Writings.{all-room}
use Rattle.sof_session.proofs.session.Session.open.Goals as goal

-- ---- all pipelines are made at a load

pub ask-opened-requires-clause-on : goal.ask-opened-requires-clause-on
ask-opened-requires-clause-on g c =
    let inside = c.self.inside in
    is-on g.P.Dsp.means (record { link = inside.link; kept = inside.kept; plan = inside.plan; heap = inside.heap; up = inside.up }) c.self.invariant

pub ask-opened-requires-clause-kept : goal.ask-opened-requires-clause-kept
ask-opened-requires-clause-kept g c = c.self.invariant.agree.record_is

pub ask-opened-requires-clause-room : goal.ask-opened-requires-clause-room
ask-opened-requires-clause-room g c =
    let inside = c.self.inside in
    pending-room g.P.Dsp.means (record { link = inside.link; kept = inside.kept; plan = inside.plan; heap = inside.heap; up = inside.up }) c.self.invariant c.args.out.now (all-room c.args.out.now c.requires.empty 983040 (omega arith))

pub returns-in-None : goal.returns-in-None
returns-in-None g c =
    let inside = c.self.inside in
    let done = c.ask-opened in
    rw (← c.self.view_is) (opening-steps g.P.Dsp.means (record { link = inside.link; kept = inside.kept; plan = inside.plan; heap = inside.heap; up = inside.up }) c.self.invariant (same-sent c.self.view_is c.requires.few) done.new.dsp (ports c.args.io.now c.args.out.now) (ports done.new.io done.new.out) c.requires.empty done.new.kept c.answer_of.result done.result c.in-None.is c.args.name.now c.answer_of.ensures done.ensures.asked done.ensures.agree)

pub invariant_of-self : goal.invariant_of-self
invariant_of-self g c =
    let inside = c.self.inside in
    let done = c.ask-opened in
    let step = opening-steps g.P.Dsp.means (record { link = inside.link; kept = inside.kept; plan = inside.plan; heap = inside.heap; up = inside.up }) c.self.invariant (same-sent c.self.view_is c.requires.few) done.new.dsp (ports c.args.io.now c.args.out.now) (ports done.new.io done.new.out) c.requires.empty done.new.kept c.answer_of.result done.result c.in-None.is c.args.name.now c.answer_of.ensures done.ensures.asked done.ensures.agree in
    step.agreed

-- ---- they are made on use

pub open-made-requires-clause-state : goal.open-made-requires-clause-state
open-made-requires-clause-state g c =
    let inside = c.self.inside in
    made-state g.P.Dsp.means (record { link = inside.link; kept = inside.kept; plan = inside.plan; heap = inside.heap; up = inside.up }) c.self.invariant c.in-Some.up c.in-Some.is

pub open-made-requires-clause-agree : goal.open-made-requires-clause-agree
open-made-requires-clause-agree g c =
    let inside = c.self.inside in
    made-agrees g.P.Dsp.means (record { link = inside.link; kept = inside.kept; plan = inside.plan; heap = inside.heap; up = inside.up }) c.self.invariant c.in-Some.up c.in-Some.is

pub open-made-requires-clause-room : goal.open-made-requires-clause-room
open-made-requires-clause-room g c =
    let inside = c.self.inside in
    pending-room g.P.Dsp.means (record { link = inside.link; kept = inside.kept; plan = inside.plan; heap = inside.heap; up = inside.up }) c.self.invariant c.args.out.now (all-room c.args.out.now c.requires.empty 983040 (omega arith))

pub returns-in-Some : goal.returns-in-Some
returns-in-Some g c =
    let inside = c.self.inside in
    let done = c.open-made in
    rw (← c.self.view_is) (made-steps g.P.Dsp.means (record { link = inside.link; kept = inside.kept; plan = inside.plan; heap = inside.heap; up = inside.up }) c.self.invariant (same-sent c.self.view_is c.requires.few) done.new.dsp (ports c.args.io.now c.args.out.now) (ports done.new.io done.new.out) c.requires.empty done.new.kept c.answer_of-in-Some.result c.in-Some.up done.new.up c.in-Some.is (commands.Open c.args.name.now) refl refl done.result c.answer_of-in-Some.ensures done.ensures.done done.ensures.state done.ensures.agree)

pub invariant_of-self-in-Some : goal.invariant_of-self-in-Some
invariant_of-self-in-Some g c =
    let inside = c.self.inside in
    let done = c.open-made in
    let step = made-steps g.P.Dsp.means (record { link = inside.link; kept = inside.kept; plan = inside.plan; heap = inside.heap; up = inside.up }) c.self.invariant (same-sent c.self.view_is c.requires.few) done.new.dsp (ports c.args.io.now c.args.out.now) (ports done.new.io done.new.out) c.requires.empty done.new.kept c.answer_of-in-Some.result c.in-Some.up done.new.up c.in-Some.is (commands.Open c.args.name.now) refl refl done.result c.answer_of-in-Some.ensures done.ensures.done done.ensures.state done.ensures.agree in
    step.agreed
