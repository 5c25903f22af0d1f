use Rattle.std.proofs.Common.{◌≡◌, map, take}
use Rattle.host_widgets.proofs.lists.all_indices.Given as goal

abbrev pub invariant-loop-pipe : goal.invariant-loop-pipe
invariant-loop-pipe l = l.all.items ≡ map (λ p. p.index) (take l.pipe-index l.pipes)
