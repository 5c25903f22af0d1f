use Rattle.std.proofs.Common.{sym, ◌∙◌, arith}
use Rattle.sof_session.specs.SessionCalls.{ports}
use Rattle.sof_session.proofs.Agreement.{pending-room, is-on}
use Rattle.sof_session.proofs.ModeCalls.{same-sent, bytes-steps, bytes-alone-steps}
use Rattle.sof_session.proofs.Writings.{all-room}
use Rattle.sof_session.proofs.session.Session.set_bytes.Goals as goal

pub keep_bytes-requires-clause-kept : goal.keep_bytes-requires-clause-kept
keep_bytes-requires-clause-kept g c = c.self.invariant.agree.record_is

pub set_bytes-done-requires-clause-on : goal.set_bytes-done-requires-clause-on
set_bytes-done-requires-clause-on g c =
    let inside = c.self.inside in
    is-on g.P.Dsp.means (record { link = inside.link; kept = inside.kept; plan = inside.plan; heap = inside.heap; up = inside.up }) c.self.invariant

pub set_bytes-done-requires-clause-kept : goal.set_bytes-done-requires-clause-kept
set_bytes-done-requires-clause-kept g c = c.self.invariant.agree.record_is

pub set_bytes-done-requires-clause-room : goal.set_bytes-done-requires-clause-room
set_bytes-done-requires-clause-room g c =
    let inside = c.self.inside in
    pending-room g.P.Dsp.means (record { link = inside.link; kept = inside.kept; plan = inside.plan; heap = inside.heap; up = inside.up }) c.self.invariant c.args.out.now (all-room c.args.out.now c.requires.empty 983040 (omega arith))

-- ---- in the record alone

pub returns-then-not-is_up : goal.returns-then-not-is_up
returns-then-not-is_up g c =
    let inside = c.self.inside in
    let down = sym c.is_up.ensures ∙ c.if-not-is_up.true in
    let done = c.keep_bytes in
    rw (← c.self.view_is, ← c.items.ensures.value) (bytes-alone-steps g.P.Dsp.means (record { link = inside.link; kept = inside.kept; plan = inside.plan; heap = inside.heap; up = inside.up }) c.self.invariant (same-sent c.self.view_is c.requires.few) (ports c.args.io.now c.args.out.now) c.requires.empty done.new.kept c.answer_of.result c.args.name.now down done.result c.answer_of.ensures c.items.result.now done.ensures.kept)

pub invariant_of-self : goal.invariant_of-self
invariant_of-self g c =
    let inside = c.self.inside in
    let down = sym c.is_up.ensures ∙ c.if-not-is_up.true in
    let done = c.keep_bytes in
    let step = bytes-alone-steps g.P.Dsp.means (record { link = inside.link; kept = inside.kept; plan = inside.plan; heap = inside.heap; up = inside.up }) c.self.invariant (same-sent c.self.view_is c.requires.few) (ports c.args.io.now c.args.out.now) c.requires.empty done.new.kept c.answer_of.result c.args.name.now down done.result c.answer_of.ensures c.items.result.now done.ensures.kept in
    step.agreed

-- ---- and where it is up

pub returns : goal.returns
returns g c =
    let inside = c.self.inside in
    let up = sym c.is_up.ensures ∙ c.if-not-is_up.false in
    let done = c.set_bytes-done in
    rw (← c.self.view_is, ← c.items-2.ensures.value) (bytes-steps g.P.Dsp.means (record { link = inside.link; kept = inside.kept; plan = inside.plan; heap = inside.heap; up = inside.up }) c.self.invariant (same-sent c.self.view_is c.requires.few) done.new.dsp (ports c.args.io.now c.args.out.now) (ports done.new.io done.new.out) c.requires.empty done.new.kept c.answer_of-2.result done.result c.answer_of-2.ensures c.args.name.now c.items-2.result.now up done.ensures.answered done.ensures.asked done.ensures.agree)

pub invariant_of-self-2 : goal.invariant_of-self-2
invariant_of-self-2 g c =
    let inside = c.self.inside in
    let up = sym c.is_up.ensures ∙ c.if-not-is_up.false in
    let done = c.set_bytes-done in
    let step = bytes-steps g.P.Dsp.means (record { link = inside.link; kept = inside.kept; plan = inside.plan; heap = inside.heap; up = inside.up }) c.self.invariant (same-sent c.self.view_is c.requires.few) done.new.dsp (ports c.args.io.now c.args.out.now) (ports done.new.io done.new.out) c.requires.empty done.new.kept c.answer_of-2.result done.result c.answer_of-2.ensures c.args.name.now c.items-2.result.now up done.ensures.answered done.ensures.asked done.ensures.agree in
    step.agreed
