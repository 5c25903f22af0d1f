-- What the firmware is expected to show, by the plan and the record.
use Rattle.std.specs.Prelude.{[], ◌∷◌, map, replicate, get_or, Option, Some, None}
use Rattle.std.specs.List.{zip}
use Rattle.stream_law.specs.declared.graph.Kind.{Kind}
use Rattle.stream_law.specs.declared.graph.Kind.TheVariants as kinds
use Rattle.stream_law.specs.declared.graph.Setting.{Setting}
use Rattle.stream_law.specs.declared.graph.Setting.TheVariants as settings
use Rattle.stream_law.specs.declared.graph.Comp.{Comp}
use Rattle.stream_law.specs.declared.graph.Graph.{Graph}
use Rattle.stream_law.specs.State.{View}
use Rattle.mbox_link.specs.Step.{with_comps}
use Rattle.tplg_plan.specs.declared.plans.Plan.{Plan}
use Rattle.tplg_plan.specs.declared.plans.ControlPlan.{ControlPlan}
use Rattle.tplg_plan.specs.GainOf.{control_gain}
use Rattle.host_widgets.specs.Controls.{eight_masks}
use Rattle.host_widgets.specs.Expected.{stream_view}
use Rattle.host_widgets.specs.declared.kept.Record.{Record}
use Rattle.host_widgets.specs.declared.kept.ControlRec.{ControlRec}
use Rattle.host_widgets.specs.Kept.{control_at}

-- a volume has the gain of each value, a mux chooses its value, an equaliser has its blob, and a demux has its values as the masks of
-- its first outputs; without a live control a volume has one gain, which is 1, a mux chooses its first input, an equaliser has no
-- blob, and each mask of a demux is 255
abbrev pub record_setting : Kind → Option (ControlPlan × ControlRec) → Setting
record_setting kinds.Volume (Some (k, c)) = settings.Gains (map (control_gain k.kind) c.values)
record_setting kinds.Volume None = settings.Gains (65536 ∷ [])
record_setting kinds.Mux (Some (k, c)) = settings.Choice (get_or c.values 0 0)
record_setting kinds.Mux None = settings.Choice 0
record_setting kinds.Eq (Some (k, c)) = settings.Blob c.blob
record_setting kinds.Eq None = settings.Blob []
record_setting kinds.Demux (Some (k, c)) = settings.Masks (eight_masks c.values)
record_setting kinds.Demux None = settings.Masks (replicate 8 255)
record_setting kind control = settings.Nothing

abbrev pub set_comp : Plan → Record → Comp → Comp
set_comp plan kept c = record { id = c.id; kind = c.kind; pipe = c.pipe; setting = record_setting c.kind (control_at plan kept c.id); ramp = c.ramp }

-- the plan's graph with what the record sets at its components
abbrev pub graph_by : Plan → Record → Graph
graph_by plan kept = with_comps (map (set_comp plan kept) plan.graph.comps) plan.graph

-- and each stream's host, phase and parameters
abbrev pub record_view : Plan → Record → View
record_view plan kept = record { graph = graph_by plan kept; streams = map stream_view (zip plan.streams kept.streams) }
