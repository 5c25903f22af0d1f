use Rattle.std.proofs.Common.{◌≡◌, max, drop}
use Rattle.sof_base.specs.Holes.{largest}
use Rattle.fw_heap.specs.HoleList.{spans}
use Rattle.fw_heap.proofs.region.greatest.Given as goal

abbrev pub invariant-loop-hole : goal.invariant-loop-hole
invariant-loop-hole l = max l.most (largest (spans (drop l.hole-index l.holes.items))) ≡ largest (spans l.holes.items)
