use Rattle.std.proofs.Common.{◌≡◌, map, take}
use Rattle.fw_units.specs.Units.{edge_by}
use Rattle.fw_components.proofs.echo_edges.edges_of.Given as goal

abbrev pub invariant-loop-buffer : goal.invariant-loop-buffer
invariant-loop-buffer l = l.edges.items ≡ map edge_by (take l.buffer-index l.buffers)
