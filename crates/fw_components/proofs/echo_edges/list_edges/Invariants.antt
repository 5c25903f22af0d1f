use Rattle.std.proofs.Common.{◌≡◌, ◌++◌, map, take}
use Rattle.fw_components.proofs.echo_edges.list_edges.Given as goal

abbrev pub invariant-loop-edge : goal.invariant-loop-edge
invariant-loop-edge l = l.ids.items ≡ l.initial.ids.items ++ map (λ e. e.buffer) (take l.edge-index l.edges)
