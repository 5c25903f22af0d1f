use Rattle.std.proofs.Common.{◌≡◌, ◌≤◌, ◌*◌, take}
use Rattle.tplg_plan.specs.HeapNeed.{components_need}
use Rattle.tplg_plan.proofs.heap_need.components_need.Given as goal

abbrev pub invariant-loop-comp : goal.invariant-loop-comp
invariant-loop-comp l = record {
  value : l.bytes ≡ components_need (take l.comp-index l.comps);
  most : l.bytes ≤ 4160 * l.comp-index;
}
