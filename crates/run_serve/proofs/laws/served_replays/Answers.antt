use Rattle.run_serve.proofs.MergedRecords.{served-replay}
use Rattle.run_serve.proofs.laws.served_replays.Goals as goal

pub returns : goal.returns
returns g c = served-replay g.D.Desk.means g.P.Dsp.means
