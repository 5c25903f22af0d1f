use Rattle.std.proofs.Common.{rules}
use Rattle.sof_script.proofs.ItemLaws.{not_hex}
use Rattle.sof_script.proofs.items.control_and_bytes.Goals as goal

pub returns-then-args-ne2 : goal.returns-then-args-ne2
returns-then-args-ne2 c = not_hex c.args.args.now (search rules)
