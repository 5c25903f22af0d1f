-- The acts of commands that send many messages: those that bring a device up, and those before the power is cut.
use Rattle.std.specs.Prelude.{ℕ, List, [], ◌∷◌, ◌++◌, map, Option, Some}
use Rattle.std.specs.List.{zip, flat_map}
use Rattle.sof_base.specs.declared.format.Params.{Params}
use Rattle.tplg_plan.specs.declared.plans.Plan.{Plan}
use Rattle.tplg_plan.specs.declared.plans.StreamPlan.{StreamPlan}
use Rattle.tplg_plan.specs.declared.plans.ControlPlan.{ControlPlan}
use Rattle.tplg_plan.specs.declared.plans.ControlKind.{ControlKind}
use Rattle.tplg_plan.specs.declared.plans.ControlKind.TheVariants as controls
use Rattle.host_widgets.specs.declared.kept.Found.{Found}
use Rattle.host_widgets.specs.declared.kept.Found.TheVariants.{Prepared, Running, Paused}
use Rattle.host_widgets.specs.declared.kept.StreamRec.{StreamRec}
use Rattle.host_widgets.specs.declared.trigger.Trigger.TheVariants.{Stop}
use Rattle.host_widgets.specs.Acts.{widget_ids}
use Rattle.host_widgets.specs.declared.kept.Record.{Record}
use Rattle.host_widgets.specs.declared.kept.ControlRec.{ControlRec}
use Rattle.mbox_link.specs.BlobParts.{part_numbers}
use Rattle.host_widgets.specs.HostActs.{Act, Make, Join, Put, Part, Finish, Prepare, Trig, Free, Save}

-- ---- bringing up

-- a blob in its parts, in their order: none where it is empty
abbrev pub part_acts : ℕ → List ℕ → List Act
part_acts comp blob = map (Part comp blob) (part_numbers blob)

-- a live control has what the record says
abbrev pub control_acts_by : ℕ → ControlKind → ControlRec → List Act
control_acts_by comp (controls.Blob most initial) c = part_acts comp c.blob
control_acts_by comp kind c = Put comp c.values ∷ []

abbrev pub control_acts : ControlPlan × ControlRec → List Act
control_acts (k, c) = control_acts_by k.comp k.kind c

-- each widget is made, by id; each join is made, in the graph's order; each live control is set, by component; and each
-- pipeline is complete, by id
abbrev pub bring_up : Plan → Record → List Act
bring_up plan kept =
    map Make (widget_ids plan)
    ++ (map (λ j. Join j.source j.sink) plan.graph.joins
    ++ (flat_map control_acts (zip plan.controls kept.controls) ++ map (λ p. Finish p.id) plan.graph.pipes))

-- a stream that is prepared has its parameters again
abbrev pub prepare_by : ℕ → Found → Option Params → List Act
prepare_by host Prepared (Some params) = Prepare host params ∷ []
prepare_by host found params = []

abbrev pub prepare_acts : StreamPlan × StreamRec → List Act
prepare_acts (s, r) = prepare_by s.host r.found r.params

-- all that the record says
abbrev pub bring_back : Plan → Record → List Act
bring_back plan kept = bring_up plan kept ++ flat_map prepare_acts (zip plan.streams kept.streams)

-- ---- going down

-- a stream that runs or is paused is stopped
abbrev pub stop_by : ℕ → Found → List Act
stop_by host Running = Trig host Stop ∷ []
stop_by host Paused = Trig host Stop ∷ []
stop_by host found = []

abbrev pub stop_acts : StreamPlan × StreamRec → List Act
stop_acts (s, r) = stop_by s.host r.found

-- all that moves is stopped, and a message says that the power will be cut
abbrev pub go_down : Plan → Record → List Act
go_down plan kept = flat_map stop_acts (zip plan.streams kept.streams) ++ Save ∷ []

-- one stream is stopped where it moves, and freed where it has parameters
abbrev pub close_by : ℕ → Found → List Act
close_by host Running = Trig host Stop ∷ Free host ∷ []
close_by host Paused = Trig host Stop ∷ Free host ∷ []
close_by host Prepared = Free host ∷ []
close_by host found = []
