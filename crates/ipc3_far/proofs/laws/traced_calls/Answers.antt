use Rattle.ipc3_far.proofs.TracedLaws.{traced}
use Rattle.ipc3_far.proofs.laws.traced_calls.Goals as goal

pub returns : goal.returns
returns g c = traced g.P.Dsp.means
