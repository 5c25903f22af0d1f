use Rattle.std.proofs.Common.{refl}
use Rattle.sof_script.specs.declared.script.Command.TheVariants as commands
use Rattle.sof_session.specs.SessionCalls.{ports}
use Rattle.sof_session.proofs.Agreement.{seat-agrees}
use Rattle.sof_session.proofs.ModeCalls.{same-sent, unload-steps, made-steps}
use Rattle.sof_session.proofs.Stepping.{same-ports}
use Rattle.sof_session.proofs.UpCalls.{made-state, made-agrees}
use Rattle.sof_session.proofs.session.Session.unload.Goals as goal

-- ---- all pipelines are made at a load

pub unload-unloaded-requires-clause-agree : goal.unload-unloaded-requires-clause-agree
unload-unloaded-requires-clause-agree g c =
    let inside = c.self.inside in
    seat-agrees g.P.Dsp.means (record { link = inside.link; kept = inside.kept; plan = inside.plan; heap = inside.heap; up = inside.up }) c.in-None.is c.self.invariant

pub returns-in-None : goal.returns-in-None
returns-in-None g c =
    let inside = c.self.inside in
    let done = c.unload-unloaded in
    rw (← c.self.view_is) (unload-steps g.P.Dsp.means (record { link = inside.link; kept = inside.kept; plan = inside.plan; heap = inside.heap; up = inside.up }) c.self.invariant (same-sent c.self.view_is c.requires.few) done.new.dsp (ports c.args.io.now c.args.out.now) (ports done.new.io done.new.out) c.requires.empty done.new.kept c.answer_of.result done.result c.answer_of.ensures c.in-None.is done.ensures.agree (same-ports c.args.io.now done.new.io c.args.out.now done.new.out done.ensures.inputs done.ensures.outputs) done.ensures.carried)

pub invariant_of-self : goal.invariant_of-self
invariant_of-self g c =
    let inside = c.self.inside in
    let done = c.unload-unloaded in
    let step = unload-steps g.P.Dsp.means (record { link = inside.link; kept = inside.kept; plan = inside.plan; heap = inside.heap; up = inside.up }) c.self.invariant (same-sent c.self.view_is c.requires.few) done.new.dsp (ports c.args.io.now c.args.out.now) (ports done.new.io done.new.out) c.requires.empty done.new.kept c.answer_of.result done.result c.answer_of.ensures c.in-None.is done.ensures.agree (same-ports c.args.io.now done.new.io c.args.out.now done.new.out done.ensures.inputs done.ensures.outputs) done.ensures.carried in
    step.agreed

-- ---- they are made on use

pub unload-dropped-requires-clause-state : goal.unload-dropped-requires-clause-state
unload-dropped-requires-clause-state g c =
    let inside = c.self.inside in
    made-state g.P.Dsp.means (record { link = inside.link; kept = inside.kept; plan = inside.plan; heap = inside.heap; up = inside.up }) c.self.invariant c.in-Some.up c.in-Some.is

pub unload-dropped-requires-clause-agree : goal.unload-dropped-requires-clause-agree
unload-dropped-requires-clause-agree g c =
    let inside = c.self.inside in
    made-agrees g.P.Dsp.means (record { link = inside.link; kept = inside.kept; plan = inside.plan; heap = inside.heap; up = inside.up }) c.self.invariant c.in-Some.up c.in-Some.is

pub returns-in-Some : goal.returns-in-Some
returns-in-Some g c =
    let inside = c.self.inside in
    let done = c.unload-dropped in
    rw (← c.self.view_is) (made-steps g.P.Dsp.means (record { link = inside.link; kept = inside.kept; plan = inside.plan; heap = inside.heap; up = inside.up }) c.self.invariant (same-sent c.self.view_is c.requires.few) done.new.dsp (ports c.args.io.now c.args.out.now) (ports done.new.io done.new.out) c.requires.empty done.new.kept c.answer_of-in-Some.result c.in-Some.up done.new.up c.in-Some.is commands.Unload refl refl done.result c.answer_of-in-Some.ensures done.ensures.done done.ensures.state done.ensures.agree)

pub invariant_of-self-in-Some : goal.invariant_of-self-in-Some
invariant_of-self-in-Some g c =
    let inside = c.self.inside in
    let done = c.unload-dropped in
    let step = made-steps g.P.Dsp.means (record { link = inside.link; kept = inside.kept; plan = inside.plan; heap = inside.heap; up = inside.up }) c.self.invariant (same-sent c.self.view_is c.requires.few) done.new.dsp (ports c.args.io.now c.args.out.now) (ports done.new.io done.new.out) c.requires.empty done.new.kept c.answer_of-in-Some.result c.in-Some.up done.new.up c.in-Some.is commands.Unload refl refl done.result c.answer_of-in-Some.ensures done.ensures.done done.ensures.state done.ensures.agree in
    step.agreed
