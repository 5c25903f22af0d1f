use Rattle.sof_script.proofs.ValueLaws.{decimal_read, decimal_again}
use Rattle.sof_script.proofs.values.numbers_are_decimal.Goals as goal

pub returns-clause-read : goal.returns-clause-read
returns-clause-read c = decimal_read

pub returns-clause-again : goal.returns-clause-again
returns-clause-again c = decimal_again
