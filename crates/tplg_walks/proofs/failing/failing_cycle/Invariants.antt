use Rattle.std.proofs.Common.{ℕ, ◌<◌}
use Rattle.tplg_walks.specs.Cycles.{Reaches}
use Rattle.tplg_walks.proofs.failing.failing_cycle.Given as goal

abbrev pub invariant-loop-id : goal.invariant-loop-id
invariant-loop-id l = (k : ℕ) → k < l.id → Reaches l.edges k k → ⊥
