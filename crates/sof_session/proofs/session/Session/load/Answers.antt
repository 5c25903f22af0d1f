use Rattle.std.proofs.Common.{refl, arith}
use Rattle.sof_script.specs.declared.script.Command.TheVariants as commands
use Rattle.sof_session.specs.SessionCalls.{ports}
use Rattle.sof_session.proofs.Agreement.{pending-room, seat-agrees}
use Rattle.sof_session.proofs.ModeCalls.{same-sent, load-steps, made-steps}
use Rattle.sof_session.proofs.Stepping.{same-ports}
use Rattle.sof_session.proofs.UpCalls.{made-state, made-agrees}
use Rattle.sof_session.proofs.Writings.{all-room}
use Rattle.sof_session.proofs.session.Session.load.Goals as goal

-- ---- all pipelines are made at a load

pub load-loaded-requires-clause-agree : goal.load-loaded-requires-clause-agree
load-loaded-requires-clause-agree g c =
    let inside = c.self.inside in
    seat-agrees g.P.Dsp.means (record { link = inside.link; kept = inside.kept; plan = inside.plan; heap = inside.heap; up = inside.up }) c.in-None.is c.self.invariant

pub load-loaded-requires-clause-room : goal.load-loaded-requires-clause-room
load-loaded-requires-clause-room g c =
    let inside = c.self.inside in
    pending-room g.P.Dsp.means (record { link = inside.link; kept = inside.kept; plan = inside.plan; heap = inside.heap; up = inside.up }) c.self.invariant c.args.out.now (all-room c.args.out.now c.requires.empty 983040 (omega arith))

pub returns-in-None : goal.returns-in-None
returns-in-None g c =
    let inside = c.self.inside in
    let done = c.load-loaded in
    rw (← c.self.view_is) (load-steps g.P.Dsp.means (record { link = inside.link; kept = inside.kept; plan = inside.plan; heap = inside.heap; up = inside.up }) c.self.invariant (same-sent c.self.view_is c.requires.few) done.new.dsp (ports c.args.io.now c.args.out.now) (ports done.new.io done.new.out) c.requires.empty done.new.kept c.answer_of.result done.result c.answer_of.ensures c.in-None.is done.ensures.agree (same-ports c.args.io.now done.new.io c.args.out.now done.new.out done.ensures.inputs done.ensures.outputs) done.ensures.carried done.ensures.left)

pub invariant_of-self : goal.invariant_of-self
invariant_of-self g c =
    let inside = c.self.inside in
    let done = c.load-loaded in
    let step = load-steps g.P.Dsp.means (record { link = inside.link; kept = inside.kept; plan = inside.plan; heap = inside.heap; up = inside.up }) c.self.invariant (same-sent c.self.view_is c.requires.few) done.new.dsp (ports c.args.io.now c.args.out.now) (ports done.new.io done.new.out) c.requires.empty done.new.kept c.answer_of.result done.result c.answer_of.ensures c.in-None.is done.ensures.agree (same-ports c.args.io.now done.new.io c.args.out.now done.new.out done.ensures.inputs done.ensures.outputs) done.ensures.carried done.ensures.left in
    step.agreed

-- ---- they are made on use

pub load-booted-requires-clause-state : goal.load-booted-requires-clause-state
load-booted-requires-clause-state g c =
    let inside = c.self.inside in
    made-state g.P.Dsp.means (record { link = inside.link; kept = inside.kept; plan = inside.plan; heap = inside.heap; up = inside.up }) c.self.invariant c.in-Some.up c.in-Some.is

pub load-booted-requires-clause-agree : goal.load-booted-requires-clause-agree
load-booted-requires-clause-agree g c =
    let inside = c.self.inside in
    made-agrees g.P.Dsp.means (record { link = inside.link; kept = inside.kept; plan = inside.plan; heap = inside.heap; up = inside.up }) c.self.invariant c.in-Some.up c.in-Some.is

pub load-booted-requires-clause-heap : goal.load-booted-requires-clause-heap
load-booted-requires-clause-heap g c = c.self.invariant.room

pub returns-in-Some : goal.returns-in-Some
returns-in-Some g c =
    let inside = c.self.inside in
    let done = c.load-booted in
    rw (← c.self.view_is) (made-steps g.P.Dsp.means (record { link = inside.link; kept = inside.kept; plan = inside.plan; heap = inside.heap; up = inside.up }) c.self.invariant (same-sent c.self.view_is c.requires.few) done.new.dsp (ports c.args.io.now c.args.out.now) (ports done.new.io done.new.out) c.requires.empty done.new.kept c.answer_of-in-Some.result c.in-Some.up done.new.up c.in-Some.is commands.Load refl refl done.result c.answer_of-in-Some.ensures done.ensures.done done.ensures.state done.ensures.agree)

pub invariant_of-self-in-Some : goal.invariant_of-self-in-Some
invariant_of-self-in-Some g c =
    let inside = c.self.inside in
    let done = c.load-booted in
    let step = made-steps g.P.Dsp.means (record { link = inside.link; kept = inside.kept; plan = inside.plan; heap = inside.heap; up = inside.up }) c.self.invariant (same-sent c.self.view_is c.requires.few) done.new.dsp (ports c.args.io.now c.args.out.now) (ports done.new.io done.new.out) c.requires.empty done.new.kept c.answer_of-in-Some.result c.in-Some.up done.new.up c.in-Some.is commands.Load refl refl done.result c.answer_of-in-Some.ensures done.ensures.done done.ensures.state done.ensures.agree in
    step.agreed
