use Rattle.std.proofs.Common.{is_ok}
use Rattle.std.specs.Prelude.{is_some}
use Rattle.ipc3_trace.specs.Reading.{trace_in}
use Rattle.run_replay.specs.Replaying.{replay_lines}
use Rattle.run_replay.proofs.ReplayPhases.{replayed-all, replayed-stopped}
use Rattle.run_desk.proofs.LinePhases.{lines_played}
use Rattle.run_replay.proofs.replay.replay_records.Goals as goal

pub returns-in-Ok : goal.returns-in-Ok
returns-in-Ok g c =
    rw (c.status_of.ensures, c.is_ok.ensures.value)
    (replayed-all g.D.Desk.means g.P.Dsp.means (trace_in c.args.bytes.now).0 (trace_in c.args.bytes.now).1 _ _ _ _ c.in-Ok.tally _ (rw c.in-Ok.is at c.give_records.ensures)
    (lines_played g.D.Desk.means (replay_lines c.in-Ok.tally (is_some (g.P.Dsp.means.on c.give_records.new.dsp))) (is_ok c.say_tally.result) _ _ (rw c.on.ensures at c.say_tally.ensures)))

pub returns-in-Err : goal.returns-in-Err
returns-in-Err g c =
    replayed-stopped g.D.Desk.means g.P.Dsp.means (trace_in c.args.bytes.now).0 (trace_in c.args.bytes.now).1 _ _ _ _ c.in-Err.why _ (rw c.in-Err.is at c.give_records.ensures) c.stop_given.ensures
