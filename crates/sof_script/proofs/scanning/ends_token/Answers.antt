use Rattle.std.proofs.Common.{sym}
use Rattle.sof_script.proofs.TokenLaws.{behind_none, behind_some}
use Rattle.sof_script.proofs.scanning.ends_token.Goals as goal

pub returns-in-empty : goal.returns-in-empty
returns-in-empty c = behind_none c.args.rest.now c.in-empty.len_below

pub returns-in-len1-up : goal.returns-in-len1-up
returns-in-len1-up c = behind_some c.args.rest.now c.is_separator.result c.in-len1-up.len_at_least (sym c.is_separator.ensures)
