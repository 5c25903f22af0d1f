-- What the host writes of a widget and of a stream in its messages.
use Rattle.std.specs.Prelude.{ℕ, ◌==◌, List, length, get_or, find, Option, unwrap_or, Some, None, if◌then◌else◌}
use Rattle.std.specs.List.{range_with_len}
use Rattle.std.specs.Option.{option_map}
use Rattle.stream_law.specs.declared.graph.Kind.{Kind}
use Rattle.stream_law.specs.declared.graph.Kind.TheVariants.{HostPlay, HostCapture, DaiPlay, DaiCapture, Volume, Mixer, Mux, Eq, Demux}
use Rattle.stream_law.specs.declared.graph.Comp.{Comp}
use Rattle.stream_law.specs.declared.graph.Edge.{Edge}
use Rattle.stream_law.specs.declared.graph.Pipe.{Pipe}
use Rattle.stream_law.specs.Ways.{comp_of, edge_of, is_capture}
use Rattle.ipc3_model.specs.declared.message.Message.{Message}
use Rattle.ipc3_model.specs.declared.message.Message.TheVariants.{CompNew, BufferNew, PipeNew, TrigStart, TrigStop, TrigPause, TrigRelease}
use Rattle.ipc3_model.specs.declared.message.CompWords.{CompWords}
use Rattle.ipc3_model.specs.declared.message.CompWords.TheVariants as words
use Rattle.tplg_plan.specs.declared.plans.Plan.{Plan}
use Rattle.tplg_plan.specs.declared.plans.WidgetPlan.{WidgetPlan}
use Rattle.tplg_plan.specs.declared.plans.ControlPlan.{ControlPlan}
use Rattle.tplg_plan.specs.GainOf.{control_gain}
use Rattle.host_widgets.specs.Controls.{control_of, first_values, greatest_value}
use Rattle.host_widgets.specs.declared.trigger.Trigger.{Trigger}
use Rattle.host_widgets.specs.declared.trigger.Trigger.TheVariants.{Start, Stop, Pause, Release}

-- the ids of all widgets, in order
abbrev pub widget_ids : Plan → List ℕ
widget_ids plan = range_with_len 0 (length plan.widgets)

-- ---- what an id names

-- the words that the host writes of a widget: all 0 where there is none
abbrev pub no_words : WidgetPlan
no_words = record {
  pipe = 0;
  periods_sink = 0;
  periods_source = 0;
  frame_fmt = 0;
  dai_index = 0;
  caps = 0;
  priority = 0;
  mips = 0;
  frames = 0;
  time_domain = 0;
  ramp_type = 0;
  ramp_ms = 0;
}

-- those of the widget of an id
abbrev pub widget_words : Plan → ℕ → WidgetPlan
widget_words plan id = get_or plan.widgets id no_words

-- the pipeline of this id
abbrev pub pipe_by_id : Plan → ℕ → Option Pipe
pipe_by_id plan id = find (λ p. p.id == id) plan.graph.pipes

-- ---- messages

-- a volume has as many gains as its control has channels, from 0 to the gain of the control's greatest value; without a control
-- it has one, of at most 1; its ramp is the widget's
abbrev pub volume_words : Option ControlPlan → WidgetPlan → CompWords
volume_words (Some k) w = words.Volume (length (first_values k.kind)) 0 (control_gain k.kind (greatest_value k.kind)) w.ramp_type w.ramp_ms
volume_words None w = words.Volume 1 0 65536 w.ramp_type w.ramp_ms

-- a host's direction is 0 for playback and 1 for capture, a DAI's is 0 where it plays and 1 where it captures
abbrev pub component_words : Kind → Option ControlPlan → WidgetPlan → CompWords
component_words HostPlay k w = words.Host 0
component_words HostCapture k w = words.Host 1
component_words (DaiPlay format) k w = words.Dai 0 w.dai_index
component_words (DaiCapture format) k w = words.Dai 1 w.dai_index
component_words Volume k w = volume_words k w
component_words Mixer k w = words.Mixer
component_words Mux k w = words.Mux
component_words Eq k w = words.Eq
component_words Demux k w = words.Demux

-- COMP_NEW
abbrev pub comp_message : ℕ → Option ControlPlan → WidgetPlan → Comp → Message
comp_message id k w c = CompNew id w.pipe w.periods_sink w.periods_source w.frame_fmt (component_words c.kind k w)

-- BUFFER_NEW
abbrev pub buffer_message : ℕ → WidgetPlan → Edge → Message
buffer_message id w e = BufferNew id w.pipe e.size w.caps

-- PIPE_NEW
abbrev pub pipe_message : ℕ → WidgetPlan → ℕ → ℕ → Message
pipe_message id w sched period = PipeNew id w.pipe sched period w.priority w.mips w.frames w.time_domain

-- the message where an id names a component
abbrev pub made_component : Plan → ℕ → WidgetPlan → Option Message
made_component plan id w = option_map (comp_message id (control_of plan id) w) (comp_of plan.graph id)

-- where it names a buffer
abbrev pub made_buffer : Plan → ℕ → WidgetPlan → Option Message
made_buffer plan id w = option_map (buffer_message id w) (edge_of plan.graph id)

-- where it names a pipeline
abbrev pub made_pipe : Plan → ℕ → WidgetPlan → Option Message
made_pipe plan id w = option_map (λ p. pipe_message id w p.sched p.period) (pipe_by_id plan id)

-- an id names a component, or else a buffer, or else a pipeline; one that names nothing, as no plan has it, is taken for a pipeline
abbrev pub make_message : Plan → ℕ → WidgetPlan → Message
make_message plan id w =
    unwrap_or (made_component plan id w) (unwrap_or (made_buffer plan id w) (unwrap_or (made_pipe plan id w) (pipe_message id w 0 0)))

-- a host's direction in messages: 0 for playback, 1 for capture
abbrev pub direction_by : Option Comp → ℕ
direction_by None = 0
direction_by (Some c) = if is_capture c.kind then 1 else 0

abbrev pub direction_of : Plan → ℕ → ℕ
direction_of plan host = direction_by (comp_of plan.graph host)

-- the message of a trigger
abbrev pub trigger_message : ℕ → Trigger → Message
trigger_message host Start = TrigStart host
trigger_message host Stop = TrigStop host
trigger_message host Pause = TrigPause host
trigger_message host Release = TrigRelease host
