use Rattle.std.proofs.Common.{◌≡◌, ℕ, ◌<◌, true}
use Rattle.tplg_walks.specs.Cycles.{plays_at, ReachesCapture}
use Rattle.tplg_walks.proofs.failing.failing_along.Given as goal

abbrev pub invariant-loop-id : goal.invariant-loop-id
invariant-loop-id l = (k : ℕ) → k < l.id → plays_at l.comps k ≡ true → ReachesCapture l.comps l.edges k → ⊥
