use Rattle.sof_run.proofs.TracedViews.{replays_alike, heard_alike}
use Rattle.sof_run.proofs.laws.one_view.Goals as goal

pub returns : goal.returns
returns g c = record { told = replays_alike g.D.Desk.means g.P.Dsp.means g.E.Desk.means g.Q.Dsp.means; heard = heard_alike g.D.Desk.means g.P.Dsp.means g.E.Desk.means g.Q.Dsp.means }
