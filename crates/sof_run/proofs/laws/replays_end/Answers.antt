use Rattle.sof_run.proofs.TracedViews.{replays_end, heard_end}
use Rattle.sof_run.proofs.laws.replays_end.Goals as goal

pub returns : goal.returns
returns g c = record { told = replays_end g.D.Desk.means g.P.Dsp.means g.E.Desk.means g.Q.Dsp.means; heard = heard_end g.D.Desk.means g.P.Dsp.means g.E.Desk.means g.Q.Dsp.means }
