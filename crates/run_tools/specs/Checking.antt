-- The lines that `check` says.
use Rattle.std.specs.Prelude.{ℕ, List, [], ◌∷◌, length, map, codes}
use Rattle.tplg_model.specs.declared.block.Topology.{Topology}
use Rattle.tplg_graph.specs.TopologyNeed.{need_of}
use Rattle.tplg_graph.specs.PlanOf.{plan_of}
use Rattle.run_desk.specs.Lines.{with_newline, count_line}
use Rattle.tplg_plan.specs.declared.plans.Plan.{Plan}

-- the lines of a topology: what its plan has of each, and how many bytes of heap are needed; the plan's joins are the real routes
abbrev pub counts_of : Topology → List (List ℕ)
counts_of t =
    let plan = plan_of t in
    count_line (codes "pipelines ") (length plan.graph.pipes)
    ∷ count_line (codes "components ") (length plan.graph.comps)
    ∷ count_line (codes "buffers ") (length plan.graph.edges)
    ∷ count_line (codes "routes ") (length plan.graph.joins)
    ∷ count_line (codes "streams ") (length plan.streams)
    ∷ count_line (codes "controls ") (length plan.controls)
    ∷ count_line (codes "need ") (need_of t)
    ∷ []

-- each with its newline
abbrev pub count_lines : Topology → List (List ℕ)
count_lines t = map with_newline (counts_of t)

-- the counts of a plan, of which so many bytes of heap are needed
abbrev pub counts_on : Plan → ℕ → List (List ℕ)
counts_on plan need =
    count_line (codes "pipelines ") (length plan.graph.pipes)
    ∷ count_line (codes "components ") (length plan.graph.comps)
    ∷ count_line (codes "buffers ") (length plan.graph.edges)
    ∷ count_line (codes "routes ") (length plan.graph.joins)
    ∷ count_line (codes "streams ") (length plan.streams)
    ∷ count_line (codes "controls ") (length plan.controls)
    ∷ count_line (codes "need ") need
    ∷ []
