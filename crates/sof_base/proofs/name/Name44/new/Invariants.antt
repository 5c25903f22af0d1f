use Rattle.std.proofs.Common.{◌≡◌, take}
use Rattle.sof_base.specs.Slots.{IsName}
use Rattle.sof_base.proofs.name.Name44.new.Given as goal

abbrev pub invariant-loop-b : goal.invariant-loop-b
invariant-loop-b l = record {
  so_far : l.name.items ≡ take l.b-index l.bytes;
  is : IsName l.name.items;
}
