use Rattle.std.proofs.Common.{rules, sym}
use Rattle.sof_script.proofs.ItemLaws.{not_one_number}
use Rattle.sof_script.proofs.items.lone_number.Goals as goal

pub returns-then-args-ne1 : goal.returns-then-args-ne1
returns-then-args-ne1 c = sym (not_one_number c.args.most c.args.args.now (search rules))
