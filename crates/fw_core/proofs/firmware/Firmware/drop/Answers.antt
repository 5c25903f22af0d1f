use Rattle.std.proofs.Common.{◌∙◌, sym, ap}
use Rattle.sof_base.specs.Holes.{fresh_holes}
use Rattle.fw_core.proofs.Laid.{laid-back}
use Rattle.fw_core.proofs.firmware.Firmware.drop.Goals as goal

pub close-requires-2 : goal.close-requires-2
close-requires-2 c = c.remove_all.ensures.holes ∙ laid-back c.self.inside c.self.invariant ∙ ap fresh_holes (sym c.remove_all.ensures.same.2)
