use Rattle.std.proofs.Common.{◌≡◌, ◌≤◌, not, filter, take}
use Rattle.mbox_link.specs.Step.{touches}
use Rattle.fw_components.proofs.listing.joins_without.Given as goal

abbrev pub invariant-loop-join : goal.invariant-loop-join
invariant-loop-join l = record {
  left : take l.count l.left ≡ filter (λ j. not (touches l.id j)) (take l.join-index l.joins);
  few : l.count ≤ l.join-index;
}
