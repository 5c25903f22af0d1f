use Rattle.sof_base.specs.Slots.{IsSlot, AreSlots}
use Rattle.tplg_build.proofs.OfProgram.{none_is}
use Rattle.tplg_build.proofs.routes.route.Goals as goal

pub returns-clause-is : goal.returns-clause-is
unfolding AreSlots IsSlot
returns-clause-is c =
    rw (c.copied.ensures.value, c.copied-2.ensures.value, c.empty_name.ensures) (c.copied.ensures.is_name, (none_is, (c.copied-2.ensures.is_name, tt)))
