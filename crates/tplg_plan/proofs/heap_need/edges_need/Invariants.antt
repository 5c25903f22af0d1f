use Rattle.std.proofs.Common.{◌≡◌, ◌≤◌, ◌*◌, take}
use Rattle.tplg_plan.specs.HeapNeed.{edges_need}
use Rattle.tplg_plan.proofs.heap_need.edges_need.Given as goal

abbrev pub invariant-loop-edge : goal.invariant-loop-edge
invariant-loop-edge l = record {
  value : l.bytes ≡ edges_need (take l.edge-index l.edges);
  most : l.bytes ≤ 4294967343 * l.edge-index;
}
