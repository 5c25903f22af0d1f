-- The lines that `graph` says.
use Rattle.std.specs.Prelude.{ℕ, List}
use Rattle.tplg_model.specs.declared.block.Topology.{Topology}
use Rattle.tplg_graph.specs.PlanOf.{plan_of}
use Rattle.tplg_picture.specs.Picture.{picture_of}

-- the picture of a topology and its plan
abbrev pub picture_lines : Topology → List (List ℕ)
picture_lines t = picture_of t (plan_of t)
