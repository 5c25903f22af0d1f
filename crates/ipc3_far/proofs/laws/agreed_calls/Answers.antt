use Rattle.ipc3_far.proofs.AgreedLaws.{agreed}
use Rattle.ipc3_far.proofs.laws.agreed_calls.Goals as goal

pub returns : goal.returns
returns g c = agreed g.P.Dsp.means
