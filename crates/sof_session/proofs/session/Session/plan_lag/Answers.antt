use Rattle.std.proofs.Common.{refl}
use Rattle.sof_session.proofs.PlanAgreement.{AreAgreed-lagged, link-stays}
use Rattle.sof_session.proofs.session.Session.plan_lag.Goals as goal

pub returns-clause-ran : goal.returns-clause-ran
returns-clause-ran g c =
    let done = c.lag-planned in
    rw (← c.self.view_is) record { outcome = done.result; planned = done.ensures; kept = refl; up = refl; said = c.plan_answer.ensures }

pub returns-clause-stays : goal.returns-clause-stays
returns-clause-stays g c =
    let inside = c.self.inside in
    let done = c.lag-planned in
    rw (← c.self.view_is)
    (link-stays g.P.Dsp.means (record { link = inside.link; kept = inside.kept; plan = inside.plan; heap = inside.heap; up = inside.up }) c.self.invariant done.new.self
    (AreAgreed-lagged g.P.Dsp.means (record { link = inside.link; kept = inside.kept; plan = inside.plan; heap = inside.heap; up = inside.up }) c.self.invariant c.args.k c.args.ticks done.new.self done.result done.ensures))

pub invariant_of-self : goal.invariant_of-self
invariant_of-self g c =
    let inside = c.self.inside in
    let done = c.lag-planned in
    AreAgreed-lagged g.P.Dsp.means (record { link = inside.link; kept = inside.kept; plan = inside.plan; heap = inside.heap; up = inside.up }) c.self.invariant c.args.k c.args.ticks done.new.self done.result done.ensures
