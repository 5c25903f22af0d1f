use Rattle.std.proofs.Common.{◌≡◌, take}
use Rattle.sof_base.proofs.name.Name44.copied.Given as goal

abbrev pub invariant-loop-b : goal.invariant-loop-b
invariant-loop-b l = l.bytes.items ≡ take l.b-index l.b-items
