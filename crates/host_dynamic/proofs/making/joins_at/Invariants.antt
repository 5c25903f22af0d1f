use Rattle.std.proofs.Common.{◌≡◌, ◌≤◌, ◌+◌, ◌++◌, filter, take, length}
use Rattle.host_widgets.specs.Up.{is_join_at}
use Rattle.host_dynamic.proofs.making.joins_at.Given as goal

abbrev pub invariant-loop-join : goal.invariant-loop-join
invariant-loop-join l = record {
  joins : take l.count l.list ≡ take l.listed l.initial.list ++ filter (is_join_at l.graph l.index) (take l.join-index l.graph.joins);
  few : l.count ≤ l.listed + l.join-index;
  size : length l.list ≡ length l.initial.list;
}
