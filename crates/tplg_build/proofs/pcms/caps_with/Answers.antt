use Rattle.std.proofs.Common.{lit<, rules}
use Rattle.sof_base.specs.Slots.{IsSlot, AreSlots}
use Rattle.tplg_build.proofs.pcms.caps_with.Goals as goal

pub returns-clause-is : goal.returns-clause-is
unfolding AreSlots IsSlot
returns-clause-is c =
    rw c.copied.ensures.value (tt, (c.copied.ensures.is_name, (search rules, (lit< tt, (search rules, (search rules, (search rules, (search rules, (lit< tt, (lit< tt, (lit< tt, (lit< tt, (lit< tt, (lit< tt, (lit< tt, tt)))))))))))))))
