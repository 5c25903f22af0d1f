use Rattle.std.proofs.Common.{refl, sym, ap, ◌∙◌, arith}
use Rattle.host_widgets.specs.declared.answers.Answer.TheVariants.{Fault}
use Rattle.host_widgets.specs.declared.answers.HostFault.{HostFault}
use Rattle.sof_session.specs.SessionCalls.{ports}
use Rattle.sof_session.proofs.Agreement.{pending-room, is-on}
use Rattle.sof_session.proofs.ModeCalls.{same-sent, read-steps, read-alone-steps}
use Rattle.sof_session.proofs.Writings.{all-room}
use Rattle.sof_session.proofs.session.Session.read.Goals as goal

pub read-told-requires-clause-on : goal.read-told-requires-clause-on
read-told-requires-clause-on g c =
    let inside = c.self.inside in
    is-on g.P.Dsp.means (record { link = inside.link; kept = inside.kept; plan = inside.plan; heap = inside.heap; up = inside.up }) c.self.invariant

pub read-told-requires-clause-kept : goal.read-told-requires-clause-kept
read-told-requires-clause-kept g c = c.self.invariant.agree.record_is

pub read-told-requires-clause-room : goal.read-told-requires-clause-room
read-told-requires-clause-room g c =
    let inside = c.self.inside in
    pending-room g.P.Dsp.means (record { link = inside.link; kept = inside.kept; plan = inside.plan; heap = inside.heap; up = inside.up }) c.self.invariant c.args.out.now (all-room c.args.out.now c.requires.empty 983040 (omega arith))

-- ---- where it is not up

pub returns-then-not-is_up : goal.returns-then-not-is_up
returns-then-not-is_up g c =
    let inside = c.self.inside in
    let down = sym c.is_up.ensures ∙ c.if-not-is_up.true in
    rw (← c.self.view_is)
    (read-alone-steps g.P.Dsp.means (record { link = inside.link; kept = inside.kept; plan = inside.plan; heap = inside.heap; up = inside.up }) c.self.invariant (same-sent c.self.view_is c.requires.few) (ports c.args.io.now c.args.out.now) c.requires.empty inside.kept (Fault c.down_fault.result) c.args.name.now down refl (ap (λ (f : HostFault). Fault f) c.down_fault.ensures))

-- ---- and where it is

pub returns : goal.returns
returns g c =
    let inside = c.self.inside in
    let up = sym c.is_up.ensures ∙ c.if-not-is_up.false in
    let done = c.read-told in
    rw (← c.self.view_is) (read-steps g.P.Dsp.means (record { link = inside.link; kept = inside.kept; plan = inside.plan; heap = inside.heap; up = inside.up }) c.self.invariant (same-sent c.self.view_is c.requires.few) done.new.dsp (ports c.args.io.now c.args.out.now) (ports done.new.io done.new.out) c.requires.empty done.new.kept c.told_answer.result c.args.name.now done.result c.told_answer.ensures up done.ensures.answered done.ensures.asked done.ensures.told done.ensures.agree)

pub invariant_of-self : goal.invariant_of-self
invariant_of-self g c =
    let inside = c.self.inside in
    let up = sym c.is_up.ensures ∙ c.if-not-is_up.false in
    let done = c.read-told in
    let step = read-steps g.P.Dsp.means (record { link = inside.link; kept = inside.kept; plan = inside.plan; heap = inside.heap; up = inside.up }) c.self.invariant (same-sent c.self.view_is c.requires.few) done.new.dsp (ports c.args.io.now c.args.out.now) (ports done.new.io done.new.out) c.requires.empty done.new.kept c.told_answer.result c.args.name.now done.result c.told_answer.ensures up done.ensures.answered done.ensures.asked done.ensures.told done.ensures.agree in
    step.agreed
