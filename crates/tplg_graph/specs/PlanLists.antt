-- The lists of a topology's plan that are no components or buffers: its pipelines, streams, live controls, names and words, all
-- in file order by id. They are read off the widgets that are interpreted, and what names name.
use Rattle.std.specs.Prelude.{ℕ, ℤ, nat_abs, List, length, map, Bool, true, false, Option, Some, None, option_and_then, unwrap_or, slice_get, if◌then◌else◌}
use Rattle.std.specs.Option.{option_map}
use Rattle.std.specs.Int.{w32, cast_signed}
use Rattle.std.specs.List.{filter_map, range_with_len}
use Rattle.stream_law.specs.declared.graph.Pipe.{Pipe}
use Rattle.tplg_model.specs.declared.control.ControlHead.{ControlHead}
use Rattle.tplg_model.specs.declared.control.Control.{Control}
use Rattle.tplg_model.specs.declared.control.Control.TheVariants as recorded
use Rattle.tplg_widgets.specs.declared.entry.Role.{Role}
use Rattle.tplg_widgets.specs.declared.entry.Role.TheVariants.{HostPlay, HostCapture}
use Rattle.tplg_widgets.specs.declared.entry.Entry.{Entry}
use Rattle.tplg_widgets.specs.declared.route_end.End.{End}
use Rattle.tplg_widgets.specs.declared.route_end.End.TheVariants as an_end
use Rattle.tplg_plan.specs.declared.plans.StreamPlan.{StreamPlan}
use Rattle.tplg_plan.specs.declared.plans.WidgetPlan.{WidgetPlan}
use Rattle.tplg_plan.specs.declared.plans.ControlPlan.{ControlPlan}
use Rattle.tplg_plan.specs.declared.plans.ControlKind.{ControlKind}
use Rattle.tplg_plan.specs.declared.plans.ControlKind.TheVariants.{Volume, Choice, Blob, Masks}
use Rattle.tplg_plan.specs.WidgetWords.{format_number}
use Rattle.tplg_widgets.specs.declared.pcm_caps.PcmCaps.{PcmCaps}
use Rattle.tplg_widgets.specs.LiveControls.{scale_word}
use Rattle.tplg_widgets.specs.PcmList.{caps_named}
use Rattle.tplg_widgets.specs.Tokens.{stated_format}
use Rattle.tplg_widgets.specs.Entries.{is_scheduler, is_demux_role}
use Rattle.tplg_widgets.specs.Ends.{end_named}
use Rattle.tplg_rules.specs.ControlRanges.{is_volume_range}

-- ---- pipelines

-- the component that schedules, where the scheduler's stream name names one
abbrev pub component_end : End → Option ℕ
component_end (an_end.Component id) = Some id
component_end _ = None

-- a scheduler's pipeline, complete as in a loaded graph
abbrev pub pipeline_of : List Entry → ℕ → Entry → Option Pipe
pipeline_of es id e =
    if is_scheduler e then option_map (λ sched. record {
      id = id;
      index = e.index;
      sched = sched;
      period = unwrap_or e.tokens.period 0;
      complete = true;
    }) (component_end (end_named es e.sname)) else None

-- the pipeline of this id, where it is a scheduler
abbrev pub pipeline_at : List Entry → List Entry → ℕ → Option Pipe
pipeline_at es ps id = option_and_then (pipeline_of es id) (slice_get ps id)

abbrev pub pipes_on : List Entry → List Entry → List Pipe
pipes_on es ps = filter_map (pipeline_at es ps) (range_with_len 0 (length ps))

-- ---- streams

-- a stream has what its PCM can do: the first whose caps of its direction have the host's stream name
abbrev pub stream_on : List PcmCaps → ℕ → Bool → List ℕ → Option StreamPlan
stream_on pcms id capture sname = option_map (λ caps. record { host = id; capture = capture; caps = caps }) (caps_named pcms capture sname)

-- a host component is a stream
abbrev pub stream_of : List PcmCaps → ℕ → Option Role → List ℕ → Option StreamPlan
stream_of pcms id (Some HostPlay) sname = stream_on pcms id false sname
stream_of pcms id (Some HostCapture) sname = stream_on pcms id true sname
stream_of pcms id _ sname = None

-- the stream of this id, where it is a host
abbrev pub stream_plan_at : List Entry → List PcmCaps → ℕ → Option StreamPlan
stream_plan_at ps pcms id = option_and_then (λ e. stream_of pcms id e.role e.sname) (slice_get ps id)

abbrev pub streams_on : List Entry → List PcmCaps → List StreamPlan
streams_on ps pcms = filter_map (stream_plan_at ps pcms) (range_with_len 0 (length ps))

-- ---- controls

-- what a volume takes, where its values and channels are in range
abbrev pub volume_kind : ControlHead → ℤ → ℤ → ℕ → Option ControlKind
volume_kind head min max channels =
    if is_volume_range min max channels then Some (Volume (nat_abs min) (nat_abs max) channels (cast_signed w32 (scale_word head 0)) (scale_word head 1) (scale_word head 2)) else None

-- what a demux takes, likewise
abbrev pub masks_kind : ℤ → ℤ → ℕ → Option ControlKind
masks_kind min max channels = if is_volume_range min max channels then Some (Masks (nat_abs min) (nat_abs max) channels) else None

-- what a mixer control takes at a widget of a role
abbrev pub mixer_kind : Option Role → ControlHead → ℤ → ℤ → ℕ → Option ControlKind
mixer_kind role head min max channels = if is_demux_role role then masks_kind min max channels else volume_kind head min max channels

-- what a live control takes at a widget of a role
abbrev pub kind_in : Option Role → Control → Option ControlKind
kind_in role (recorded.Mixer head min max platform_max invert num_channels channels private) = mixer_kind role head min max num_channels
kind_in role (recorded.Enum head num_channels channels items mask count texts values private) = Some (Choice items)
kind_in role (recorded.Bytes head max mask base num_regs ext_ops private) = Some (Blob max private)

-- the live control of this id, where there is one
abbrev pub control_plan : ℕ → Option Role → Option Control → Option ControlPlan
control_plan id role control = option_map (λ kind. record { comp = id; kind = kind }) (option_and_then (kind_in role) control)

abbrev pub entry_control : List Entry → ℕ → Option ControlPlan
entry_control ps id = option_and_then (λ e. control_plan id e.role e.control) (slice_get ps id)

abbrev pub controls_on : List Entry → List ControlPlan
controls_on ps = filter_map (entry_control ps) (range_with_len 0 (length ps))

-- ---- names and words

abbrev pub names_on : List Entry → List (List ℕ)
names_on ps = map (λ e. e.name) ps

-- what the host writes of a widget: its tokens, and 0 where one is absent
abbrev pub widget_plan : Entry → WidgetPlan
widget_plan e = record {
  pipe = e.index;
  periods_sink = unwrap_or e.tokens.periods_sink 0;
  periods_source = unwrap_or e.tokens.periods_source 0;
  frame_fmt = format_number (stated_format e.tokens.format);
  dai_index = unwrap_or e.tokens.dai_index 0;
  caps = unwrap_or e.tokens.caps 0;
  priority = unwrap_or e.tokens.priority 0;
  mips = unwrap_or e.tokens.mips 0;
  frames = unwrap_or e.tokens.frames 0;
  time_domain = unwrap_or e.tokens.time_domain 0;
  ramp_type = unwrap_or e.tokens.ramp_type 0;
  ramp_ms = unwrap_or e.tokens.ramp_ms 0;
}

abbrev pub widgets_on : List Entry → List WidgetPlan
widgets_on ps = map widget_plan ps
