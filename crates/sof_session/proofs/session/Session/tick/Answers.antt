use Rattle.std.proofs.Common.{sym, subst, arith, ap, ℕ, Bool, List}
use Rattle.host_widgets.specs.declared.kept.Power.{Power}
use Rattle.sof_session.specs.SessionCalls.{ports}
use Rattle.sof_session.proofs.TickAgreement.{TickedBy, off-ticked, AreAgreed-ticked, ticked-ends}
use Rattle.sof_session.proofs.TickSteps.{ticked-step}
use Rattle.sof_session.proofs.Writings.{all-room}
use Rattle.sof_session.proofs.session.Session.tick.Goals as goal

pub tick-requires : goal.tick-requires
tick-requires g c = record { room = all-room c.args.out.now c.requires.empty 61440 (omega arith) }

pub invariant_of-self : goal.invariant_of-self
invariant_of-self g c =
    let means = g.P.Dsp.means in
    let inside = c.self.inside in
    let done = c.tick in
    let before = ports c.args.io.now c.args.out.now in
    let after = ports done.new.io done.new.out in
    let tick = subst (λ (power : Power). TickedBy means power inside.link done.new.self before after) (sym c.in-On.is) done.ensures in
    AreAgreed-ticked means (record { link = inside.link; kept = inside.kept; plan = inside.plan; heap = inside.heap; up = inside.up }) done.new.self before after c.self.invariant tick

-- ---- a device that is on

pub returns-in-On-clause-stepped : goal.returns-in-On-clause-stepped
returns-in-On-clause-stepped g c =
    let means = g.P.Dsp.means in
    let inside = c.self.inside in
    let done = c.tick in
    let before = ports c.args.io.now c.args.out.now in
    let after = ports done.new.io done.new.out in
    let tick = subst (λ (power : Power). TickedBy means power inside.link done.new.self before after) (sym c.in-On.is) done.ensures in
    rw (← c.self.view_is)
    (ticked-step means (record { link = inside.link; kept = inside.kept; plan = inside.plan; heap = inside.heap; up = inside.up }) done.new.self before after c.requires.empty c.self.invariant tick)

pub returns-in-On-clause-agreed : goal.returns-in-On-clause-agreed
returns-in-On-clause-agreed g c =
    let means = g.P.Dsp.means in
    let inside = c.self.inside in
    let done = c.tick in
    let before = ports c.args.io.now c.args.out.now in
    let after = ports done.new.io done.new.out in
    let tick = subst (λ (power : Power). TickedBy means power inside.link done.new.self before after) (sym c.in-On.is) done.ensures in
    AreAgreed-ticked means (record { link = inside.link; kept = inside.kept; plan = inside.plan; heap = inside.heap; up = inside.up }) done.new.self before after c.self.invariant tick

pub returns-in-On-clause-slots : goal.returns-in-On-clause-slots
returns-in-On-clause-slots g c =
    let means = g.P.Dsp.means in
    let inside = c.self.inside in
    let done = c.tick in
    let before = ports c.args.io.now c.args.out.now in
    let after = ports done.new.io done.new.out in
    let tick = subst (λ (power : Power). TickedBy means power inside.link done.new.self before after) (sym c.in-On.is) done.ensures in
    ap (λ (x : List ℕ × List (ℕ × Bool)). x.0) (ticked-ends means (record { link = inside.link; kept = inside.kept; plan = inside.plan; heap = inside.heap; up = inside.up }) done.new.self before after c.self.invariant tick)

pub returns-in-On-clause-ends : goal.returns-in-On-clause-ends
returns-in-On-clause-ends g c =
    let means = g.P.Dsp.means in
    let inside = c.self.inside in
    let done = c.tick in
    let before = ports c.args.io.now c.args.out.now in
    let after = ports done.new.io done.new.out in
    let tick = subst (λ (power : Power). TickedBy means power inside.link done.new.self before after) (sym c.in-On.is) done.ensures in
    ap (λ (x : List ℕ × List (ℕ × Bool)). x.1) (ticked-ends means (record { link = inside.link; kept = inside.kept; plan = inside.plan; heap = inside.heap; up = inside.up }) done.new.self before after c.self.invariant tick)

-- ---- one that is off

pub returns-in-Unloaded-clause-stepped : goal.returns-in-Unloaded-clause-stepped
returns-in-Unloaded-clause-stepped g c =
    let means = g.P.Dsp.means in
    let inside = c.self.inside in
    let io = ports c.args.io.now c.args.out.now in
    rw (← c.self.view_is)
    (ticked-step means (record { link = inside.link; kept = inside.kept; plan = inside.plan; heap = inside.heap; up = inside.up }) inside.link io io c.requires.empty c.self.invariant (off-ticked means inside.kept.power inside.link io c.in-Unloaded.is))

-- ---- how far the inputs moved

pub returns-in-On-clause-moved : goal.returns-in-On-clause-moved
returns-in-On-clause-moved g c slot = c.tick.ensures.moves slot

pub returns-in-Unloaded-clause-moved : goal.returns-in-Unloaded-clause-moved
returns-in-Unloaded-clause-moved g c slot = omega arith
