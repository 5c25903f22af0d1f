use Rattle.std.proofs.Common.{ℕ, List, [], drop, get_or, is_ok}
use Rattle.tplg_plan.specs.HeapNeed.{need_on}
use Rattle.run_tools.specs.Checking.{counts_on}
use Rattle.run_desk.proofs.LinePhases.{was_err, then_lines}
use Rattle.run_tools.proofs.check.say_counts.Goals as goal

pub returns-in_err-say_count : goal.returns-in_err-say_count
returns-in_err-say_count g c =
    let failed = rw (c.in_err-say_count.was, c.items.ensures) at c.say_count.ensures in
    rw (was_err c.from_residual.result c.from_residual.ensures.0) (λ rest. failed _)

pub returns-in_err-say_count-2 : goal.returns-in_err-say_count-2
returns-in_err-say_count-2 g c =
    let said_1 = rw (c.in_ok-say_count.was, c.items.ensures) at c.say_count.ensures in
    let failed = rw (c.in_err-say_count-2.was, c.items-2.ensures) at c.say_count-2.ensures in
    rw (was_err c.from_residual-in_err-say_count-2.result c.from_residual-in_err-say_count-2.ensures.0) (λ rest. said_1 _ _ _ _ (failed _))

pub returns-in_err-say_count-3 : goal.returns-in_err-say_count-3
returns-in_err-say_count-3 g c =
    let said_1 = rw (c.in_ok-say_count.was, c.items.ensures) at c.say_count.ensures in
    let said_2 = rw (c.in_ok-say_count-2.was, c.items-2.ensures) at c.say_count-2.ensures in
    let failed = rw (c.in_err-say_count-3.was, c.items-3.ensures) at c.say_count-3.ensures in
    rw (was_err c.from_residual-in_err-say_count-3.result c.from_residual-in_err-say_count-3.ensures.0) (λ rest. said_1 _ _ _ _ (said_2 _ _ _ _ (failed _)))

pub returns-in_err-say_count-4 : goal.returns-in_err-say_count-4
returns-in_err-say_count-4 g c =
    let said_1 = rw (c.in_ok-say_count.was, c.items.ensures) at c.say_count.ensures in
    let said_2 = rw (c.in_ok-say_count-2.was, c.items-2.ensures) at c.say_count-2.ensures in
    let said_3 = rw (c.in_ok-say_count-3.was, c.items-3.ensures) at c.say_count-3.ensures in
    let failed = rw (c.in_err-say_count-4.was, c.items-4.ensures) at c.say_count-4.ensures in
    rw (was_err c.from_residual-in_err-say_count-4.result c.from_residual-in_err-say_count-4.ensures.0) (λ rest. said_1 _ _ _ _ (said_2 _ _ _ _ (said_3 _ _ _ _ (failed _))))

pub returns-in_err-say_count-5 : goal.returns-in_err-say_count-5
returns-in_err-say_count-5 g c =
    let said_1 = rw (c.in_ok-say_count.was, c.items.ensures) at c.say_count.ensures in
    let said_2 = rw (c.in_ok-say_count-2.was, c.items-2.ensures) at c.say_count-2.ensures in
    let said_3 = rw (c.in_ok-say_count-3.was, c.items-3.ensures) at c.say_count-3.ensures in
    let said_4 = rw (c.in_ok-say_count-4.was, c.items-4.ensures) at c.say_count-4.ensures in
    let failed = rw (c.in_err-say_count-5.was, c.items-5.ensures) at c.say_count-5.ensures in
    rw (was_err c.from_residual-in_err-say_count-5.result c.from_residual-in_err-say_count-5.ensures.0) (λ rest. said_1 _ _ _ _ (said_2 _ _ _ _ (said_3 _ _ _ _ (said_4 _ _ _ _ (failed _)))))

pub returns-in_err-say_count-6 : goal.returns-in_err-say_count-6
returns-in_err-say_count-6 g c =
    let said_1 = rw (c.in_ok-say_count.was, c.items.ensures) at c.say_count.ensures in
    let said_2 = rw (c.in_ok-say_count-2.was, c.items-2.ensures) at c.say_count-2.ensures in
    let said_3 = rw (c.in_ok-say_count-3.was, c.items-3.ensures) at c.say_count-3.ensures in
    let said_4 = rw (c.in_ok-say_count-4.was, c.items-4.ensures) at c.say_count-4.ensures in
    let said_5 = rw (c.in_ok-say_count-5.was, c.items-5.ensures) at c.say_count-5.ensures in
    let failed = rw (c.in_err-say_count-6.was, c.items-6.ensures) at c.say_count-6.ensures in
    rw (was_err c.from_residual-in_err-say_count-6.result c.from_residual-in_err-say_count-6.ensures.0) (λ rest. said_1 _ _ _ _ (said_2 _ _ _ _ (said_3 _ _ _ _ (said_4 _ _ _ _ (said_5 _ _ _ _ (failed _))))))

pub returns : goal.returns
returns g c =
    let means = g.D.Desk.means in
    let lines : List (List ℕ) = counts_on c.args.plan.now (need_on c.args.plan.now.graph) in
    let done = is_ok c.say_count-7.result in
    then_lines means (get_or lines 0 []) (drop 1 lines) done c.args.desk.now c.say_count.new.desk c.say_count-7.new.desk (rw (c.in_ok-say_count.was, c.items.ensures) at c.say_count.ensures)
    (then_lines means (get_or lines 1 []) (drop 2 lines) done c.say_count.new.desk c.say_count-2.new.desk c.say_count-7.new.desk (rw (c.in_ok-say_count-2.was, c.items-2.ensures) at c.say_count-2.ensures)
    (then_lines means (get_or lines 2 []) (drop 3 lines) done c.say_count-2.new.desk c.say_count-3.new.desk c.say_count-7.new.desk (rw (c.in_ok-say_count-3.was, c.items-3.ensures) at c.say_count-3.ensures)
    (then_lines means (get_or lines 3 []) (drop 4 lines) done c.say_count-3.new.desk c.say_count-4.new.desk c.say_count-7.new.desk (rw (c.in_ok-say_count-4.was, c.items-4.ensures) at c.say_count-4.ensures)
    (then_lines means (get_or lines 4 []) (drop 5 lines) done c.say_count-4.new.desk c.say_count-5.new.desk c.say_count-7.new.desk (rw (c.in_ok-say_count-5.was, c.items-5.ensures) at c.say_count-5.ensures)
    (then_lines means (get_or lines 5 []) (drop 6 lines) done c.say_count-5.new.desk c.say_count-6.new.desk c.say_count-7.new.desk (rw (c.in_ok-say_count-6.was, c.items-6.ensures) at c.say_count-6.ensures)
    (rw c.need.ensures at c.say_count-7.ensures))))))
