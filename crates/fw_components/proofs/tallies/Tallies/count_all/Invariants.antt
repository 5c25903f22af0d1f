use Rattle.std.proofs.Common.{◌+◌, ◌≤◌, ℕ, drop, length, get_or}
use Rattle.std.specs.List.{AllByRecursion}
use Rattle.stream_law.specs.declared.graph.Graph.{Graph}
use Rattle.stream_law.specs.Ways.{on_way}
use Rattle.fw_places.specs.WayCharts.{AreWaysOf}
use Rattle.fw_units.specs.Units.{streams_by}
use Rattle.fw_components.specs.Tally.{AreTold, IsSeenIn}
use Rattle.fw_components.proofs.tallies.Tallies.count_all.Given as goal

abbrev pub invariant-loop-i : goal.invariant-loop-i
invariant-loop-i l = record {
  within : l.i ≤ length l.comps;
  most : (k : ℕ) → (get_or l.self.running k 0 + l.i ≤ length l.comps) × (get_or l.self.live k 0 + l.i ≤ length l.comps);
  told : (g : Graph) → AreWaysOf g l.ways → AllByRecursion (IsSeenIn g) l.comps → AreTold (on_way g) l.ways.ids (streams_by (drop l.i l.comps)) l.self;
}

abbrev pub decreases-loop-i : goal.decreases-loop-i
decreases-loop-i l = l.i
