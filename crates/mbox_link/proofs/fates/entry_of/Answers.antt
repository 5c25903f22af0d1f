use Rattle.std.proofs.Common.{refl}
use Rattle.mbox_link.proofs.fates.entry_of.Goals as goal

pub loop-entry-init : goal.loop-entry-init
loop-entry-init c = (refl, c.requires.meant)
