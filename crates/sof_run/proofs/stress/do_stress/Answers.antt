use Rattle.std.proofs.Common.{is_ok}
use Rattle.sof_run.proofs.StressPhases.{stressed, unstressed}
use Rattle.sof_run.proofs.stress.do_stress.Goals as goal

pub returns-in-Ok : goal.returns-in-Ok
returns-in-Ok g c =
    rw (c.status_of.ensures, c.is_ok.ensures.value)
    (stressed g.D.Desk.means g.P.Dsp.means c.args.seed _ _ _ _ c.in-Ok.stressed.counts (is_ok c.say_numbers-said.result) c.in-Ok.ensures c.say_numbers-said.ensures)

pub returns-in-Err : goal.returns-in-Err
returns-in-Err g c = unstressed g.D.Desk.means g.P.Dsp.means c.args.seed _ _ _ _ _ c.in-Err.ensures c.stop_for.ensures
