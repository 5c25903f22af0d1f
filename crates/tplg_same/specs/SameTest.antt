-- Whether two plans are the same but for what no source carries, as a test.
use Rattle.std.specs.Prelude.{ℕ, Bool, true, false, ◌&&◌, ◌==◌, List, [], ◌∷◌, Option, Some, None}
use Rattle.std.specs.Ordering.{int_eq}
use Rattle.std.specs.Str.{bytes_eq}
use Rattle.sof_base.specs.declared.format.Format.TheVariants.{S16, S24, S32}
use Rattle.stream_law.specs.declared.graph.Kind.{Kind}
use Rattle.stream_law.specs.declared.graph.Kind.TheVariants as kind
use Rattle.stream_law.specs.declared.graph.Setting.{Setting}
use Rattle.stream_law.specs.declared.graph.Setting.TheVariants as setting
use Rattle.stream_law.specs.declared.graph.Comp.{Comp}
use Rattle.stream_law.specs.declared.graph.Edge.{Edge}
use Rattle.stream_law.specs.declared.graph.Pipe.{Pipe}
use Rattle.stream_law.specs.declared.graph.Join.{Join}
use Rattle.stream_law.specs.declared.graph.Graph.{Graph}
use Rattle.tplg_plan.specs.declared.plans.Plan.{Plan}
use Rattle.tplg_plan.specs.declared.plans.StreamPlan.{StreamPlan}
use Rattle.tplg_plan.specs.declared.plans.ControlPlan.{ControlPlan}
use Rattle.tplg_plan.specs.declared.plans.ControlKind.{ControlKind}
use Rattle.tplg_plan.specs.declared.plans.ControlKind.TheVariants as control
use Rattle.tplg_plan.specs.declared.plans.WidgetPlan.{WidgetPlan}
use Rattle.tplg_same.specs.CapsLimits.{limits_in, same_limits}

-- two lists, item by item
abbrev pub same_list : {A : Type 0} → (A → A → Bool) → List A → List A → Bool
same_list same [] [] = true
same_list same (x ∷ xs) (y ∷ ys) = same x y && same_list same xs ys
same_list same [] (y ∷ ys) = false
same_list same (x ∷ xs) [] = false

abbrev pub same_option : Option ℕ → Option ℕ → Bool
same_option None None = true
same_option (Some a) (Some b) = a == b
same_option None (Some b) = false
same_option (Some a) None = false

abbrev pub same_bool : Bool → Bool → Bool
same_bool true true = true
same_bool false false = true
same_bool true false = false
same_bool false true = false

-- a number for each kind, and for each format of a DAI
abbrev pub kind_rank : Kind → ℕ
kind_rank kind.HostPlay = 0
kind_rank kind.HostCapture = 1
kind_rank kind.Volume = 2
kind_rank kind.Mixer = 3
kind_rank kind.Mux = 4
kind_rank kind.Eq = 5
kind_rank kind.Demux = 6
kind_rank (kind.DaiPlay S16) = 7
kind_rank (kind.DaiPlay S24) = 8
kind_rank (kind.DaiPlay S32) = 9
kind_rank (kind.DaiCapture S16) = 10
kind_rank (kind.DaiCapture S24) = 11
kind_rank (kind.DaiCapture S32) = 12

abbrev pub same_setting : Setting → Setting → Bool
same_setting setting.Nothing setting.Nothing = true
same_setting (setting.Gains gains) (setting.Gains others) = same_list (λ a b. a == b) gains others
same_setting (setting.Choice choice) (setting.Choice other) = choice == other
same_setting (setting.Blob blob) (setting.Blob other) = bytes_eq blob other
same_setting (setting.Masks masks) (setting.Masks others) = same_list (λ a b. a == b) masks others
same_setting _ _ = false

abbrev pub same_comp : Comp → Comp → Bool
same_comp a b =
    (a.id == b.id) && ((kind_rank a.kind == kind_rank b.kind) && ((a.pipe == b.pipe) && ((a.ramp == b.ramp) && same_setting a.setting b.setting)))

abbrev pub same_edge : Edge → Edge → Bool
same_edge a b = (a.buffer == b.buffer) && ((a.pipe == b.pipe) && ((a.size == b.size) && (same_option a.source b.source && same_option a.sink b.sink)))

abbrev pub same_pipe : Pipe → Pipe → Bool
same_pipe a b = (a.id == b.id) && ((a.index == b.index) && ((a.sched == b.sched) && ((a.period == b.period) && same_bool a.complete b.complete)))

abbrev pub same_join : Join → Join → Bool
same_join a b = (a.source == b.source) && (a.sink == b.sink)

abbrev pub same_graph : Graph → Graph → Bool
same_graph a b = same_list same_comp a.comps b.comps && (same_list same_edge a.edges b.edges && (same_list same_pipe a.pipes b.pipes && same_list same_join a.joins b.joins))

abbrev pub same_stream : StreamPlan → StreamPlan → Bool
same_stream a b = (a.host == b.host) && (same_bool a.capture b.capture && (bytes_eq a.caps.name b.caps.name && same_limits (limits_in a.caps) (limits_in b.caps)))

abbrev pub same_control_kind : ControlKind → ControlKind → Bool
same_control_kind (control.Volume min max channels tlv_min tlv_step tlv_mute) (control.Volume least most count low step mute) =
    (min == least) && ((max == most) && ((channels == count) && (int_eq tlv_min low && ((tlv_step == step) && (tlv_mute == mute)))))
same_control_kind (control.Choice items) (control.Choice count) = items == count
same_control_kind (control.Blob max initial) (control.Blob most bytes) = (max == most) && bytes_eq initial bytes
same_control_kind (control.Masks min max channels) (control.Masks least most count) = (min == least) && ((max == most) && (channels == count))
same_control_kind _ _ = false

abbrev pub same_control : ControlPlan → ControlPlan → Bool
same_control a b = (a.comp == b.comp) && same_control_kind a.kind b.kind

abbrev pub same_widget : WidgetPlan → WidgetPlan → Bool
same_widget a b = (a.pipe == b.pipe) && ((a.periods_sink == b.periods_sink) && ((a.periods_source == b.periods_source) && ((a.frame_fmt == b.frame_fmt)
    && ((a.dai_index == b.dai_index) && ((a.caps == b.caps) && ((a.priority == b.priority) && ((a.mips == b.mips)
    && ((a.frames == b.frames) && ((a.time_domain == b.time_domain) && ((a.ramp_type == b.ramp_type) && (a.ramp_ms == b.ramp_ms)))))))))))

abbrev pub same_plans : Plan → Plan → Bool
same_plans p q =
    same_graph p.graph q.graph && (same_list same_stream p.streams q.streams && (same_list same_control p.controls q.controls
    && (same_list bytes_eq p.names q.names && same_list same_widget p.widgets q.widgets)))
