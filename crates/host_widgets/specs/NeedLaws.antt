-- What a sound plan's widgets need of a heap is what its graph needs.
use Rattle.std.specs.Prelude.{◌≡◌, ◌↔◌, ℕ, ◌≤◌, length}
use Rattle.tplg_plan.specs.declared.plans.Plan.{Plan}
use Rattle.tplg_plan.specs.HeapNeed.{need_on}
use Rattle.tplg_plan.specs.Sound.{IsSound}
use Rattle.host_widgets.specs.Expected.{needed_by}
use Rattle.host_widgets.specs.Bringing.{Fits}

-- the stated sizes of all widgets, each rounded up to 16, add up to the need of the graph
abbrev pub NeedIsSum : Type 0
NeedIsSum = (plan : Plan) → IsSound plan → needed_by plan (length plan.widgets) ≡ need_on plan.graph

-- so they fit exactly where the heap has this need
abbrev pub FitsByNeed : Type 0
FitsByNeed = (plan : Plan) (heap : ℕ) → IsSound plan → Fits plan heap ↔ (need_on plan.graph ≤ heap)
