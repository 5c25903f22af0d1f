use Rattle.std.proofs.Common.{◌≡◌, ◌++◌, map, take}
use Rattle.host_dynamic.proofs.ids.list_buffers.Given as goal

abbrev pub invariant-loop-edge : goal.invariant-loop-edge
invariant-loop-edge g l = l.ids.items ≡ l.initial.ids.items ++ map (λ e. e.buffer) (take l.edge-index l.edges)
