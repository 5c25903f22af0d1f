use Rattle.std.proofs.Common.{◌≡◌, ◌++◌, map, take}
use Rattle.tplg_picture.specs.Picture.{edge_statement}
use Rattle.tplg_picture.proofs.pictures.put_edges.Given as goal

abbrev pub invariant-loop-edge : goal.invariant-loop-edge
invariant-loop-edge l = l.lines ≡ l.fn.lines ++ map (edge_statement l.plan) (take l.edge-index l.plan.graph.edges)
