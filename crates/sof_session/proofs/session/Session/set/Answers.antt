use Rattle.std.proofs.Common.{sym, ◌∙◌, arith}
use Rattle.sof_session.specs.SessionCalls.{ports}
use Rattle.sof_session.proofs.Agreement.{pending-room, is-on}
use Rattle.sof_session.proofs.ModeCalls.{same-sent, set-steps, set-alone-steps}
use Rattle.sof_session.proofs.Writings.{all-room}
use Rattle.sof_session.proofs.session.Session.set.Goals as goal

pub keep_values-requires-clause-kept : goal.keep_values-requires-clause-kept
keep_values-requires-clause-kept g c = c.self.invariant.agree.record_is

pub set-done-requires-clause-on : goal.set-done-requires-clause-on
set-done-requires-clause-on g c =
    let inside = c.self.inside in
    is-on g.P.Dsp.means (record { link = inside.link; kept = inside.kept; plan = inside.plan; heap = inside.heap; up = inside.up }) c.self.invariant

pub set-done-requires-clause-kept : goal.set-done-requires-clause-kept
set-done-requires-clause-kept g c = c.self.invariant.agree.record_is

pub set-done-requires-clause-room : goal.set-done-requires-clause-room
set-done-requires-clause-room g c =
    let inside = c.self.inside in
    pending-room g.P.Dsp.means (record { link = inside.link; kept = inside.kept; plan = inside.plan; heap = inside.heap; up = inside.up }) c.self.invariant c.args.out.now (all-room c.args.out.now c.requires.empty 983040 (omega arith))

-- ---- in the record alone

pub returns-then-not-is_up : goal.returns-then-not-is_up
returns-then-not-is_up g c =
    let inside = c.self.inside in
    let down = sym c.is_up.ensures ∙ c.if-not-is_up.true in
    let done = c.keep_values in
    rw (← c.self.view_is, ← c.items.ensures.value) (set-alone-steps g.P.Dsp.means (record { link = inside.link; kept = inside.kept; plan = inside.plan; heap = inside.heap; up = inside.up }) c.self.invariant (same-sent c.self.view_is c.requires.few) (ports c.args.io.now c.args.out.now) c.requires.empty done.new.kept c.answer_of.result c.args.name.now down done.result c.answer_of.ensures c.items.result.now done.ensures.kept)

pub invariant_of-self : goal.invariant_of-self
invariant_of-self g c =
    let inside = c.self.inside in
    let down = sym c.is_up.ensures ∙ c.if-not-is_up.true in
    let done = c.keep_values in
    let step = set-alone-steps g.P.Dsp.means (record { link = inside.link; kept = inside.kept; plan = inside.plan; heap = inside.heap; up = inside.up }) c.self.invariant (same-sent c.self.view_is c.requires.few) (ports c.args.io.now c.args.out.now) c.requires.empty done.new.kept c.answer_of.result c.args.name.now down done.result c.answer_of.ensures c.items.result.now done.ensures.kept in
    step.agreed

-- ---- and where it is up

pub returns : goal.returns
returns g c =
    let inside = c.self.inside in
    let up = sym c.is_up.ensures ∙ c.if-not-is_up.false in
    let done = c.set-done in
    rw (← c.self.view_is, ← c.items-2.ensures.value) (set-steps g.P.Dsp.means (record { link = inside.link; kept = inside.kept; plan = inside.plan; heap = inside.heap; up = inside.up }) c.self.invariant (same-sent c.self.view_is c.requires.few) done.new.dsp (ports c.args.io.now c.args.out.now) (ports done.new.io done.new.out) c.requires.empty done.new.kept c.answer_of-2.result done.result c.answer_of-2.ensures c.args.name.now c.items-2.result.now up done.ensures.answered done.ensures.asked done.ensures.agree)

pub invariant_of-self-2 : goal.invariant_of-self-2
invariant_of-self-2 g c =
    let inside = c.self.inside in
    let up = sym c.is_up.ensures ∙ c.if-not-is_up.false in
    let done = c.set-done in
    let step = set-steps g.P.Dsp.means (record { link = inside.link; kept = inside.kept; plan = inside.plan; heap = inside.heap; up = inside.up }) c.self.invariant (same-sent c.self.view_is c.requires.few) done.new.dsp (ports c.args.io.now c.args.out.now) (ports done.new.io done.new.out) c.requires.empty done.new.kept c.answer_of-2.result done.result c.answer_of-2.ensures c.args.name.now c.items-2.result.now up done.ensures.answered done.ensures.asked done.ensures.agree in
    step.agreed
