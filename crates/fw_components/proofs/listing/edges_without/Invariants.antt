use Rattle.std.proofs.Common.{◌≡◌, ◌==◌, not, filter, map, take}
use Rattle.fw_units.specs.Units.{edge_by}
use Rattle.fw_components.proofs.listing.edges_without.Given as goal

abbrev pub invariant-loop-buffer : goal.invariant-loop-buffer
invariant-loop-buffer l = l.edges.items ≡ filter (λ e. not (e.buffer == l.id)) (map edge_by (take l.buffer-index l.buffers))
