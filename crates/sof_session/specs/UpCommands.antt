-- The commands of a host that makes pipelines when a stream that needs them is opened, and unmakes them once no stream does.
use Rattle.std.specs.Prelude.{ℕ, List, [], ◌∷◌, ◌++◌, map, filter, unwrap_or, Option}
use Rattle.std.specs.List.{zip}
use Rattle.stream_law.specs.Order.{is_among}
use Rattle.stream_law.specs.declared.graph.Edge.{Edge}
use Rattle.tplg_plan.specs.declared.plans.Plan.{Plan}
use Rattle.host_widgets.specs.declared.answers.HostFault.{HostFault}
use Rattle.host_widgets.specs.declared.answers.HostFault.TheVariants.{NotLoaded, Off}
use Rattle.host_widgets.specs.declared.kept.Power.{Power}
use Rattle.host_widgets.specs.declared.kept.Record.{Record}
use Rattle.host_widgets.specs.declared.kept.Power.TheVariants as powers
use Rattle.host_widgets.specs.Kept.{controls_of}
use Rattle.host_widgets.specs.Routines.{Job}
use Rattle.host_pcm.specs.Asks.{stream_place, stream_at}
use Rattle.host_pcm.specs.StreamCalls.{host_at}
use Rattle.host_widgets.specs.There.{shown_ids}
use Rattle.host_dynamic.specs.Dynamic.{plain_job, loading_job, unloading_job, opening_job, closing_job, resuming_job, control_order, read_up_fault}
use Rattle.host_widgets.specs.UpState.{UpState, first_state, up_act_rules}
use Rattle.sof_script.specs.declared.script.Command.{Command}
use Rattle.sof_script.specs.declared.script.Command.TheVariants as commands
use Rattle.sof_session.specs.CommandRules.{CommandRules}
use Rattle.sof_session.specs.CommandTests.{fault_of}
use Rattle.sof_session.specs.Commands.{order_of}
use Rattle.sof_session.specs.Show.{power_words, widget_line, edge_line, stream_line, control_line}
use Rattle.host_widgets.specs.HostActs.{Act}

-- ---- all commands

abbrev pub up_fault : Plan → UpState → Command → Option HostFault
up_fault plan s (commands.Read name) = read_up_fault plan s name
up_fault plan s command = fault_of plan s.kept command

-- the place of the stream of this name
abbrev pub place_named : Plan → List ℕ → ℕ
place_named plan name = unwrap_or (stream_place plan name) 0

abbrev pub up_job : Plan → ℕ → UpState → Command → Job UpState Act
up_job plan heap s commands.Load = loading_job heap s
up_job plan heap s commands.Unload = unloading_job plan s
up_job plan heap s commands.Resume = resuming_job plan heap s
up_job plan heap s (commands.Open name) = opening_job plan s (host_at plan (place_named plan name))
up_job plan heap s (commands.Close name) = closing_job plan s (host_at plan (place_named plan name)) (stream_at s.kept (place_named plan name)).found
up_job plan heap s (commands.Set name values) = plain_job plan s (control_order plan s.up name (order_of plan s.kept (commands.Set name values)))
up_job plan heap s (commands.Bytes name blob) = plain_job plan s (control_order plan s.up name (order_of plan s.kept (commands.Bytes name blob)))
up_job plan heap s command = plain_job plan s (order_of plan s.kept command)

-- why a control is not read whose component is not up
abbrev pub down_fault : Power → HostFault
down_fault powers.Unloaded = NotLoaded
down_fault power = Off

-- ---- show

-- the edges that are up, and all streams and controls
abbrev pub up_edge_lines : Plan → Record → List ℕ → List (List ℕ)
up_edge_lines plan kept up = map edge_line (filter (λ (e : Edge). is_among up e.pipe) plan.graph.edges) ++ map (stream_line plan) (zip plan.streams kept.streams) ++ map (control_line plan) (controls_of plan kept)

-- the widgets that are up, and then these
abbrev pub up_lines : Plan → Record → List ℕ → List (List ℕ)
up_lines plan kept up = map (widget_line plan) (shown_ids plan up) ++ up_edge_lines plan kept up

abbrev pub up_lines_by : Power → Plan → Record → List ℕ → List (List ℕ)
up_lines_by powers.Unloaded plan kept up = []
up_lines_by power plan kept up = up_lines plan kept up

abbrev pub up_show_lines : Plan → Record → List ℕ → List (List ℕ)
up_show_lines plan kept up = power_words kept.power ∷ up_lines_by kept.power plan kept up

abbrev pub up_shown : Plan → UpState → Command → List (List ℕ)
up_shown plan s commands.Show = up_show_lines plan s.kept s.up
up_shown plan s command = []

-- a host that makes pipelines on use
abbrev pub up_rules : Plan → ℕ → CommandRules UpState Act
up_rules plan heap = record {
  acts = up_act_rules plan;
  first = first_state plan;
  fault = up_fault plan;
  job = up_job plan heap;
  shown = up_shown plan;
}
