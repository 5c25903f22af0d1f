use Rattle.sof_session.proofs.UpLines.{use-line}
use Rattle.sof_session.proofs.dyn_session.DynSession.show_line.Goals as goal

pub returns-clause-line : goal.returns-clause-line
returns-clause-line g c = use-line c.args.self.now c.self.inside.session c.self.view_is c.self.invariant c.args.k c.show_line.result c.show_line.new.line c.show_line.ensures.line
