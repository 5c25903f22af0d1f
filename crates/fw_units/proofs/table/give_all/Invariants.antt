use Rattle.std.proofs.Common.{◌≡◌, length, vec_capacity}
use Rattle.std.specs.List.{AllByRecursion}
use Rattle.fw_units.specs.Changes.{IsOfHome, given_all}
use Rattle.fw_units.proofs.table.give_all.Given as goal

abbrev pub invariant-loop-components : goal.invariant-loop-components
invariant-loop-components l = record {
  own : AllByRecursion (IsOfHome l.region.home) l.components.items;
  capacity : vec_capacity l.components ≡ vec_capacity l.initial.components;
  holes : given_all l.components.items l.region.holes ≡ given_all l.initial.components.items l.initial.region.holes;
  home : l.region.home ≡ l.initial.region.home;
  size : l.region.size ≡ l.initial.region.size;
  usable : l.region.usable ≡ l.initial.region.usable;
}

abbrev pub decreases-loop-components : goal.decreases-loop-components
decreases-loop-components l = length l.components.items
