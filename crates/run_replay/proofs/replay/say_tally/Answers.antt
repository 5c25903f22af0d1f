use Rattle.std.proofs.Common.{ℕ, List, [], drop, get_or, is_ok}
use Rattle.run_replay.specs.Replaying.{replay_lines}
use Rattle.run_desk.proofs.LinePhases.{was_err, then_lines}
use Rattle.run_replay.proofs.replay.say_tally.Goals as goal

pub returns-in_err-say_count : goal.returns-in_err-say_count
returns-in_err-say_count g c =
    let failed = rw c.in_err-say_count.was at c.say_count.ensures in
    rw (was_err c.from_residual.result c.from_residual.ensures.0) (λ rest. failed _)

pub returns-in_err-say_count-2 : goal.returns-in_err-say_count-2
returns-in_err-say_count-2 g c =
    let said_1 = rw c.in_ok-say_count.was at c.say_count.ensures in
    let failed = rw c.in_err-say_count-2.was at c.say_count-2.ensures in
    rw (was_err c.from_residual-in_err-say_count-2.result c.from_residual-in_err-say_count-2.ensures.0) (λ rest. said_1 _ _ _ _ (failed _))

pub returns-in_err-say_count-3 : goal.returns-in_err-say_count-3
returns-in_err-say_count-3 g c =
    let said_1 = rw c.in_ok-say_count.was at c.say_count.ensures in
    let said_2 = rw c.in_ok-say_count-2.was at c.say_count-2.ensures in
    let failed = rw c.in_err-say_count-3.was at c.say_count-3.ensures in
    rw (was_err c.from_residual-in_err-say_count-3.result c.from_residual-in_err-say_count-3.ensures.0) (λ rest. said_1 _ _ _ _ (said_2 _ _ _ _ (failed _)))

pub returns : goal.returns
returns g c =
    let means = g.D.Desk.means in
    let lines : List (List ℕ) = replay_lines c.args.tally.now c.args.on in
    let done = is_ok c.say_power.result in
    then_lines means (get_or lines 0 []) (drop 1 lines) done c.args.desk.now c.say_count.new.desk c.say_power.new.desk (rw c.in_ok-say_count.was at c.say_count.ensures)
    (then_lines means (get_or lines 1 []) (drop 2 lines) done c.say_count.new.desk c.say_count-2.new.desk c.say_power.new.desk (rw c.in_ok-say_count-2.was at c.say_count-2.ensures)
    (then_lines means (get_or lines 2 []) (drop 3 lines) done c.say_count-2.new.desk c.say_count-3.new.desk c.say_power.new.desk (rw c.in_ok-say_count-3.was at c.say_count-3.ensures)
    c.say_power.ensures))
