use Rattle.sof_session.specs.SessionCalls.{ports}
use Rattle.sof_session.proofs.ModeCalls.{same-sent, get-steps}
use Rattle.sof_session.proofs.session.Session.get.Goals as goal

pub get-told-requires-clause-kept : goal.get-told-requires-clause-kept
get-told-requires-clause-kept g c = c.self.invariant.agree.record_is

pub returns : goal.returns
returns g c =
    let inside = c.self.inside in
    let done = c.get-told in
    rw (← c.self.view_is) (get-steps g.P.Dsp.means (record { link = inside.link; kept = inside.kept; plan = inside.plan; heap = inside.heap; up = inside.up }) c.self.invariant (same-sent c.self.view_is c.requires.few) done.new.dsp (ports c.args.io.now c.args.out.now) (ports done.new.io done.new.out) c.requires.empty done.new.kept c.told_answer.result c.args.name.now done.result c.told_answer.ensures done.ensures.asked done.ensures.answered done.ensures.agree)

pub invariant_of-self : goal.invariant_of-self
invariant_of-self g c =
    let inside = c.self.inside in
    let done = c.get-told in
    let step = get-steps g.P.Dsp.means (record { link = inside.link; kept = inside.kept; plan = inside.plan; heap = inside.heap; up = inside.up }) c.self.invariant (same-sent c.self.view_is c.requires.few) done.new.dsp (ports c.args.io.now c.args.out.now) (ports done.new.io done.new.out) c.requires.empty done.new.kept c.told_answer.result c.args.name.now done.result c.told_answer.ensures done.ensures.asked done.ensures.answered done.ensures.agree in
    step.agreed
