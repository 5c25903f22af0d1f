use Rattle.std.proofs.Common.{rules}
use Rattle.sof_script.proofs.ItemLaws.{not_alone}
use Rattle.sof_script.proofs.items.without.Goals as goal

pub returns-else-is_empty : goal.returns-else-is_empty
returns-else-is_empty c = not_alone c.args.command c.args.args.now (search rules)
