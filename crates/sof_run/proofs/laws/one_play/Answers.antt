use Rattle.sof_run.proofs.OnePlay.{plays_one}
use Rattle.sof_run.proofs.laws.one_play.Goals as goal

pub returns : goal.returns
returns g c = plays_one g.D.Desk.means g.P.Dsp.means
