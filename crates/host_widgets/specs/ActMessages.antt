-- The message that the host writes for each act.
use Rattle.std.specs.Prelude.{ℕ, List, [], map, Option, Some, None}
use Rattle.stream_law.specs.declared.graph.Comp.{Comp}
use Rattle.stream_law.specs.declared.graph.Edge.{Edge}
use Rattle.stream_law.specs.Ways.{comp_of, edge_of}
use Rattle.ipc3_model.specs.declared.message.Message.{Message}
use Rattle.ipc3_model.specs.declared.message.Message.TheVariants.{Connect, SetValue, GetValue, SetData, GetData, CompFree, BufferFree, PipeFree, PipeComplete, PcmParams, PcmFree, CtxSave}
use Rattle.ipc3_model.specs.declared.control_kind.TheConstants.{CTRL_VOLUME, CTRL_ENUM, CTRL_SWITCH}
use Rattle.tplg_plan.specs.declared.plans.Plan.{Plan}
use Rattle.tplg_plan.specs.declared.plans.ControlPlan.{ControlPlan}
use Rattle.tplg_plan.specs.declared.plans.ControlKind.{ControlKind}
use Rattle.tplg_plan.specs.declared.plans.ControlKind.TheVariants as controls
use Rattle.tplg_plan.specs.GainOf.{control_gain}
use Rattle.host_widgets.specs.Controls.{control_of, eight_masks}
use Rattle.host_widgets.specs.Acts.{make_message, widget_words, direction_of, trigger_message}
use Rattle.mbox_link.specs.BlobParts.{blob_part}
use Rattle.host_widgets.specs.HostActs.{Act, Make, Join, Put, Part, Finish, Prepare, Trig, Free, Save, Ask, Unmake}

-- SET_VALUE: a volume's gains by CTRL_VOLUME, a mux's choice by CTRL_ENUM, a demux's eight masks by CTRL_SWITCH; no other component is
-- set so
abbrev pub set_message : ℕ → List ℕ → ControlKind → Message
set_message comp values (controls.Choice items) = SetValue comp CTRL_ENUM values
set_message comp values (controls.Masks min max channels) = SetValue comp CTRL_SWITCH (eight_masks values)
set_message comp values kind = SetValue comp CTRL_VOLUME (map (control_gain kind) values)

abbrev pub put_message : ℕ → List ℕ → Option ControlPlan → Message
put_message comp values (Some k) = set_message comp values k.kind
put_message comp values None = SetValue comp CTRL_VOLUME []

-- GET_VALUE by the same commands, or GET_DATA of a part
abbrev pub get_message : ℕ → ℕ → ControlKind → Message
get_message comp k (controls.Volume min max channels lowest step mute) = GetValue comp CTRL_VOLUME
get_message comp k (controls.Choice items) = GetValue comp CTRL_ENUM
get_message comp k (controls.Masks min max channels) = GetValue comp CTRL_SWITCH
get_message comp k (controls.Blob most initial) = GetData comp k

abbrev pub ask_message : ℕ → ℕ → Option ControlPlan → Message
ask_message comp k (Some c) = get_message comp k c.kind
ask_message comp k None = GetValue comp CTRL_VOLUME

-- COMP_FREE, BUFFER_FREE or PIPE_FREE, by what an id names
abbrev pub unmake_by : Option Comp → Option Edge → ℕ → Message
unmake_by (Some c) e id = CompFree id
unmake_by None (Some e) id = BufferFree id
unmake_by None None id = PipeFree id

-- the message of an act
abbrev pub act_message : Plan → Act → Message
act_message plan (Make id) = make_message plan id (widget_words plan id)
act_message plan (Join source sink) = Connect source sink
act_message plan (Put comp values) = put_message comp values (control_of plan comp)
act_message plan (Part comp blob k) = SetData comp (blob_part blob k)
act_message plan (Finish id) = PipeComplete id
act_message plan (Prepare host params) = PcmParams host (direction_of plan host) params
act_message plan (Trig host what) = trigger_message host what
act_message plan (Free host) = PcmFree host
act_message plan Save = CtxSave
act_message plan (Ask comp k) = ask_message comp k (control_of plan comp)
act_message plan (Unmake id) = unmake_by (comp_of plan.graph id) (edge_of plan.graph id) id
