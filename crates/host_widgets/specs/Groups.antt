-- What makes pipelines: the acts of a list of widgets, a list of joins, and the indices of pipelines.
use Rattle.std.specs.Prelude.{ℕ, List, [], ◌∷◌, ◌++◌, map, filter, Bool, if◌then◌else◌}
use Rattle.std.specs.List.{flat_map}
use Rattle.stream_law.specs.declared.graph.Join.{Join as Joined}
use Rattle.stream_law.specs.declared.graph.Pipe.{Pipe}
use Rattle.stream_law.specs.declared.graph.Graph.{Graph}
use Rattle.stream_law.specs.Order.{is_among}
use Rattle.tplg_plan.specs.declared.plans.Plan.{Plan}
use Rattle.tplg_plan.specs.declared.plans.ControlPlan.{ControlPlan}
use Rattle.host_widgets.specs.declared.kept.Record.{Record}
use Rattle.host_widgets.specs.declared.kept.ControlRec.{ControlRec}
use Rattle.host_widgets.specs.ActLists.{control_acts}
use Rattle.host_widgets.specs.HostActs.{Act, Make, Join, Finish}
use Rattle.host_widgets.specs.Indices.{is_up}
use Rattle.host_widgets.specs.Kept.{controls_of}

-- a live control is of a component of these indices
abbrev pub is_control_of : Plan → List ℕ → ControlPlan × ControlRec → Bool
is_control_of plan n (k, c) = is_up plan.graph n k.comp

-- the acts that set it, where it is
abbrev pub put_acts_of : Plan → List ℕ → ControlPlan × ControlRec → List Act
put_acts_of plan n p = if is_control_of plan n p then control_acts p else []

-- the pipelines of these indices, by id
abbrev pub finish_ids : Graph → List ℕ → List ℕ
finish_ids g n = map (λ (p : Pipe). p.id) (filter (λ p. is_among n p.index) g.pipes)

-- a pipeline is completed, where it is of these indices
abbrev pub finish_acts_of : List ℕ → Pipe → List Act
finish_acts_of n p = if is_among n p.index then Finish p.id ∷ [] else []

-- These widgets are made, and these joins; each live control of these indices is set, by component; and each pipeline of them is
-- complete, by id.
abbrev pub making_lists : Plan → Record → List ℕ → List Joined → List ℕ → List Act
making_lists plan kept ids joins n =
    map Make ids
    ++ (map (λ (j : Joined). Join j.source j.sink) joins
    ++ (flat_map control_acts (filter (is_control_of plan n) (controls_of plan kept)) ++ map Finish (finish_ids plan.graph n)))
