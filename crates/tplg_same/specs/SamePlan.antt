-- When two plans are the same but for what no source carries: of the caps of a stream only its name, the formats that scripts name, and
-- the bounds of rates and channels count, which are all that the host looks at. All else is equal: ids, kinds, ramps and names,
-- buffers with their sizes, joins in their order, pipelines, controls with their initial values, and what the host writes of each widget.
use Rattle.std.specs.Prelude.{◌≡◌, ℕ, List, map, Bool}
use Rattle.stream_law.specs.declared.graph.Graph.{Graph}
use Rattle.tplg_plan.specs.declared.plans.Plan.{Plan}
use Rattle.tplg_plan.specs.declared.plans.StreamPlan.{StreamPlan}
use Rattle.tplg_plan.specs.declared.plans.ControlPlan.{ControlPlan}
use Rattle.tplg_plan.specs.declared.plans.WidgetPlan.{WidgetPlan}
use Rattle.tplg_build.specs.declared.source.PcmLimits.{PcmLimits}
use Rattle.tplg_same.specs.CapsLimits.{limits_in}

-- what counts of a stream
pub record StreamShape : Type 0 where
  pub host : ℕ
  pub capture : Bool
  pub name : List ℕ
  pub limits : PcmLimits

abbrev pub stream_shape : StreamPlan → StreamShape
stream_shape s = record { host = s.host; capture = s.capture; name = s.caps.name; limits = limits_in s.caps }

-- what counts of a plan
pub record PlanShape : Type 0 where
  pub graph : Graph
  pub streams : List StreamShape
  pub controls : List ControlPlan
  pub names : List (List ℕ)
  pub widgets : List WidgetPlan

abbrev pub plan_shape : Plan → PlanShape
plan_shape p = record { graph = p.graph; streams = map stream_shape p.streams; controls = p.controls; names = p.names; widgets = p.widgets }

-- two plans are the same but for what no source carries
abbrev pub IsSamePlan : Plan → Plan → Type 0
IsSamePlan p q = plan_shape p ≡ plan_shape q
