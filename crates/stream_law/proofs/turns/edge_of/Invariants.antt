use Rattle.std.proofs.Common.{◌≡◌, ◌==◌, drop, find}
use Rattle.stream_law.proofs.turns.edge_of.Given as goal

abbrev pub invariant-loop-e : goal.invariant-loop-e
invariant-loop-e l = find (λ e. e.buffer == l.buffer) l.edges ≡ find (λ e. e.buffer == l.buffer) (drop l.e-index l.edges)
