use Rattle.run_serve.proofs.ServedTraces.{served-trace}
use Rattle.run_serve.proofs.laws.served_trace.Goals as goal

pub returns : goal.returns
returns g c = served-trace g.D.Desk.means g.P.Dsp.means
