use Rattle.std.proofs.Common.{is_ok}
use Rattle.run_desk.proofs.LinePhases.{was_err}
use Rattle.run_tools.proofs.CompilePhases.{not_created, not_appended, appended_on}
use Rattle.run_tools.proofs.compile.make_file.Goals as goal

pub append-requires : goal.append-requires
append-requires g c =
    let created = rw c.in_ok-create.was at c.create.ensures in
    created.created 0

pub returns-in_err-create : goal.returns-in_err-create
returns-in_err-create g c =
    rw (was_err c.from_residual.result c.from_residual.ensures.0)
    (not_created g.D.Desk.means c.args.out.now c.args.bytes.now c.args.desk.now c.create.new.self (rw c.in_err-create.was at c.create.ensures))

pub returns-in_err-append : goal.returns-in_err-append
returns-in_err-append g c =
    rw (was_err c.from_residual-in_err-append.result c.from_residual-in_err-append.ensures.0)
    (not_appended g.D.Desk.means c.args.out.now c.args.bytes.now c.args.desk.now c.create.new.self (rw c.in_ok-create.was at c.create.ensures) c.append.new.self (rw c.in_err-append.was at c.append.ensures))

pub returns : goal.returns
returns g c =
    appended_on g.D.Desk.means c.args.out.now c.args.bytes.now c.args.desk.now c.create.new.self (rw c.in_ok-create.was at c.create.ensures)
    c.append.new.self c.say_count.new.desk (is_ok c.say_count.result) (rw c.in_ok-append.was at c.append.ensures) c.say_count.ensures
