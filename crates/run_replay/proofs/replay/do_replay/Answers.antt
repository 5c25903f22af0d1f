use Rattle.run_replay.proofs.ReplayPhases.{replay-loaded, replay-failed}
use Rattle.run_replay.proofs.replay.do_replay.Goals as goal

pub returns-in-Err : goal.returns-in-Err
returns-in-Err g c = replay-failed g.D.Desk.means g.P.Dsp.means c.args.name.now _ _ c.args.dsp _ c.in-Err.ensures

pub returns : goal.returns
returns g c =
    replay-loaded g.D.Desk.means g.P.Dsp.means c.args.name.now c.in-Ok.bytes.items c.args.desk.now c.fetch.new.desk c.replay_records-status.new.desk
    c.args.dsp c.replay_records-status.new.dsp c.replay_records-status.result c.in-Ok.ensures.0 c.in-Ok.ensures.1 (rw c.deref.ensures.value at c.replay_records-status.ensures)
