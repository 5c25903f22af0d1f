use Rattle.std.proofs.Common.{◌≡◌, ◌≤◌, length, take}
use Rattle.std.specs.List.{flat_map}
use Rattle.host_widgets.specs.Up.{buffer_joins}
use Rattle.host_dynamic.proofs.lists.list_joins.Given as goal

-- so far the joins of each index are listed
abbrev pub invariant-loop-index : goal.invariant-loop-index
invariant-loop-index l = record {
  joins : take l.listed l.list ≡ flat_map (buffer_joins l.graph) (take l.index-index l.indices);
  fits : l.listed ≤ length l.list;
  size : 832 ≤ length l.list;
}
