use Rattle.std.proofs.Common.{ℕ, List, [], drop, get_or, is_ok}
use Rattle.sof_run.specs.Stressing.{stress_lines}
use Rattle.run_desk.proofs.LinePhases.{was_err, then_lines}
use Rattle.sof_run.proofs.stress.say_numbers.Goals as goal

pub returns-in_err-say_count : goal.returns-in_err-say_count
returns-in_err-say_count g c =
    let failed = rw c.in_err-say_count.was at c.say_count.ensures in
    rw (was_err c.from_residual.result c.from_residual.ensures.0) (λ rest. failed _)

pub returns-in_err-say_count-2 : goal.returns-in_err-say_count-2
returns-in_err-say_count-2 g c =
    let said_1 = rw c.in_ok-say_count.was at c.say_count.ensures in
    let failed = rw c.in_err-say_count-2.was at c.say_count-2.ensures in
    rw (was_err c.from_residual-in_err-say_count-2.result c.from_residual-in_err-say_count-2.ensures.0) (λ rest. said_1 _ _ _ _ (failed _))

pub returns-in_err-say_count-3 : goal.returns-in_err-say_count-3
returns-in_err-say_count-3 g c =
    let said_1 = rw c.in_ok-say_count.was at c.say_count.ensures in
    let said_2 = rw c.in_ok-say_count-2.was at c.say_count-2.ensures in
    let failed = rw c.in_err-say_count-3.was at c.say_count-3.ensures in
    rw (was_err c.from_residual-in_err-say_count-3.result c.from_residual-in_err-say_count-3.ensures.0) (λ rest. said_1 _ _ _ _ (said_2 _ _ _ _ (failed _)))

pub returns-in_err-say_count-4 : goal.returns-in_err-say_count-4
returns-in_err-say_count-4 g c =
    let said_1 = rw c.in_ok-say_count.was at c.say_count.ensures in
    let said_2 = rw c.in_ok-say_count-2.was at c.say_count-2.ensures in
    let said_3 = rw c.in_ok-say_count-3.was at c.say_count-3.ensures in
    let failed = rw c.in_err-say_count-4.was at c.say_count-4.ensures in
    rw (was_err c.from_residual-in_err-say_count-4.result c.from_residual-in_err-say_count-4.ensures.0) (λ rest. said_1 _ _ _ _ (said_2 _ _ _ _ (said_3 _ _ _ _ (failed _))))

pub returns : goal.returns
returns g c =
    let means = g.D.Desk.means in
    let lines : List (List ℕ) = stress_lines c.args.counts.now in
    let done = is_ok c.say_count-5.result in
    then_lines means (get_or lines 0 []) (drop 1 lines) done c.args.desk.now c.say_count.new.desk c.say_count-5.new.desk (rw c.in_ok-say_count.was at c.say_count.ensures)
    (then_lines means (get_or lines 1 []) (drop 2 lines) done c.say_count.new.desk c.say_count-2.new.desk c.say_count-5.new.desk (rw c.in_ok-say_count-2.was at c.say_count-2.ensures)
    (then_lines means (get_or lines 2 []) (drop 3 lines) done c.say_count-2.new.desk c.say_count-3.new.desk c.say_count-5.new.desk (rw c.in_ok-say_count-3.was at c.say_count-3.ensures)
    (then_lines means (get_or lines 3 []) (drop 4 lines) done c.say_count-3.new.desk c.say_count-4.new.desk c.say_count-5.new.desk (rw c.in_ok-say_count-4.was at c.say_count-4.ensures)
    c.say_count-5.ensures)))
