use Rattle.std.proofs.Common.{take}
use Rattle.fw_moves.specs.Moving.{AreAt}
use Rattle.fw_components.proofs.processing.places_in.Given as goal

abbrev pub invariant-loop-i : goal.invariant-loop-i
invariant-loop-i l = AreAt l.buffers (take l.i l.ids) l.places.items
