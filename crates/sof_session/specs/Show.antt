-- The lines that say how everything stands.
use Rattle.std.specs.Prelude.{ℕ, List, [], ◌∷◌, ◌++◌, map, codes, decimal, Option, Some, None}
use Rattle.std.specs.List.{zip}
use Rattle.sof_base.specs.declared.format.Params.{Params}
use Rattle.stream_law.specs.declared.graph.Comp.{Comp}
use Rattle.stream_law.specs.declared.graph.Edge.{Edge}
use Rattle.stream_law.specs.declared.graph.Pipe.{Pipe}
use Rattle.stream_law.specs.Ways.{comp_of, edge_of}
use Rattle.tplg_plan.specs.declared.plans.Plan.{Plan}
use Rattle.tplg_plan.specs.declared.plans.StreamPlan.{StreamPlan}
use Rattle.host_widgets.specs.declared.kept.Power.{Power}
use Rattle.host_widgets.specs.declared.kept.Power.TheVariants.{Unloaded, On, Off}
use Rattle.host_widgets.specs.declared.kept.Found.{Found}
use Rattle.host_widgets.specs.declared.kept.StreamRec.{StreamRec}
use Rattle.host_widgets.specs.declared.kept.ControlRec.{ControlRec}
use Rattle.host_widgets.specs.declared.kept.Record.{Record}
use Rattle.tplg_plan.specs.declared.plans.ControlPlan.{ControlPlan}
use Rattle.tplg_plan.specs.declared.plans.ControlKind.{ControlKind}
use Rattle.tplg_plan.specs.declared.plans.ControlKind.TheVariants.{Blob}
use Rattle.host_widgets.specs.Kept.{controls_of}
use Rattle.host_widgets.specs.Acts.{widget_ids, pipe_by_id}
use Rattle.sof_script.specs.declared.script.Command.{Command}
use Rattle.sof_script.specs.declared.script.Command.TheVariants as commands
use Rattle.sof_script.specs.Text.{values_words, bytes_word, found_word}
use Rattle.sof_script.specs.KindWords.{format_words, kind_words, name_of, end_words}

-- ---- words

-- whether a topology is loaded, and if so, whether the device is on
abbrev pub power_words : Power → List ℕ
power_words Unloaded = codes "power unloaded"
power_words On = codes "power on"
power_words Off = codes "power off"

-- ---- widgets, by id

-- An id names a component: its kind and the index of its pipeline; or else a buffer: its size in bytes and that index; or else a pipeline:
-- its index and its period in µs. Its name comes last. An id that names nothing, which no plan has, has an empty line.
abbrev pub named_line : Option Comp → Option Edge → Option Pipe → ℕ → List ℕ → List ℕ
named_line (Some c) e p id name = codes "comp " ++ decimal id ++ codes " " ++ kind_words c.kind ++ codes " pipe " ++ decimal c.pipe ++ codes " " ++ name
named_line None (Some e) p id name = codes "buffer " ++ decimal id ++ codes " size " ++ decimal e.size ++ codes " pipe " ++ decimal e.pipe ++ codes " " ++ name
named_line None None (Some p) id name = codes "pipe " ++ decimal id ++ codes " index " ++ decimal p.index ++ codes " period " ++ decimal p.period ++ codes " " ++ name
named_line None None None id name = []

-- the line of the widget of an id
abbrev pub widget_line : Plan → ℕ → List ℕ
widget_line plan id = named_line (comp_of plan.graph id) (edge_of plan.graph id) (pipe_by_id plan id) id (name_of plan id)

-- ---- edges and streams

-- an edge: the component that it comes from, its buffer, and the component that it goes to, by their ids
abbrev pub edge_line : Edge → List ℕ
edge_line e = codes "edge " ++ end_words e.source ++ codes " " ++ decimal e.buffer ++ codes " " ++ end_words e.sink

-- how far a stream is, after a blank
abbrev pub found_words : Found → List ℕ
found_words found = codes " " ++ found_word found

-- frames a second, channels and format, each after a blank; nothing where there are no parameters
abbrev pub params_words : Option Params → List ℕ
params_words None = []
params_words (Some p) = codes " " ++ decimal p.rate ++ codes " " ++ decimal p.channels ++ codes " " ++ format_words p.format

-- a stream: the name of its host component, how far it is, and its parameters where it has them
abbrev pub stream_line : Plan → StreamPlan × StreamRec → List ℕ
stream_line plan (s, r) = codes "stream " ++ name_of plan s.host ++ found_words r.found ++ params_words r.params

-- ---- controls

-- a control's values by channel, each after a blank, or its blob
abbrev pub control_words : ControlKind → ControlRec → List ℕ
control_words (Blob most initial) c = codes " bytes " ++ bytes_word c.blob
control_words kind c = codes " value" ++ values_words c.values

-- a live control: the name of its component, and what it is set to
abbrev pub control_line : Plan → ControlPlan × ControlRec → List ℕ
control_line plan (k, c) = codes "control " ++ name_of plan k.comp ++ control_words k.kind c

-- ---- all lines

-- the widgets by id, the edges by buffer id, the streams in the order of the plan, and the live controls by component
abbrev pub loaded_lines : Plan → Record → List (List ℕ)
loaded_lines plan kept =
    map (widget_line plan) (widget_ids plan) ++ (map edge_line plan.graph.edges
    ++ (map (stream_line plan) (zip plan.streams kept.streams) ++ map (control_line plan) (controls_of plan kept)))

-- nothing more where nothing is loaded
abbrev pub lines_by : Power → Plan → Record → List (List ℕ)
lines_by Unloaded plan kept = []
lines_by _ plan kept = loaded_lines plan kept

-- the lines that `show` says, in order
abbrev pub show_lines : Plan → Record → List (List ℕ)
show_lines plan kept = power_words kept.power ∷ lines_by kept.power plan kept

-- the lines that a command shows
abbrev pub shown_by : Command → Plan → Record → List (List ℕ)
shown_by commands.Show plan kept = show_lines plan kept
shown_by command plan kept = []
