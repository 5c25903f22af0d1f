use Rattle.std.proofs.Common.{arith, rules}
use Rattle.sof_script.proofs.LineLaws.{return_last, return_none, return_empty}
use Rattle.sof_script.proofs.lines.before_return.Goals as goal

pub returns-in-13 : goal.returns-in-13
returns-in-13 c = return_last c.args.line.now (omega arith) (omega arith)

pub returns-in_default : goal.returns-in_default
returns-in_default c = return_empty c.args.line.now (omega arith)

pub returns-in_default-2 : goal.returns-in_default-2
returns-in_default-2 c = return_none c.args.line.now (search rules)
