use Rattle.sof_session.proofs.Draining.{session-same, session-agreed}
use Rattle.sof_session.proofs.session.Session.drain.Goals as goal

pub returns-clause-drained : goal.returns-clause-drained
returns-clause-drained g c = rw (← c.self.view_is) c.drain.ensures.did.0

pub returns-clause-rest : goal.returns-clause-rest
returns-clause-rest g c =
    let inside = c.self.inside in
    rw (← c.self.view_is) (session-same g.P.Dsp.means g.P.Drain.empties (record { link = inside.link; kept = inside.kept; plan = inside.plan; heap = inside.heap; up = inside.up }) c.drain.new.self c.drain.ensures.did)

pub returns-clause-agreed : goal.returns-clause-agreed
returns-clause-agreed g c =
    let inside = c.self.inside in
    session-agreed g.P.Dsp.means g.P.Drain.empties (record { link = inside.link; kept = inside.kept; plan = inside.plan; heap = inside.heap; up = inside.up }) c.drain.new.self c.drain.ensures.did c.self.invariant

pub invariant_of-self : goal.invariant_of-self
invariant_of-self g c =
    let inside = c.self.inside in
    session-agreed g.P.Dsp.means g.P.Drain.empties (record { link = inside.link; kept = inside.kept; plan = inside.plan; heap = inside.heap; up = inside.up }) c.drain.new.self c.drain.ensures.did c.self.invariant
