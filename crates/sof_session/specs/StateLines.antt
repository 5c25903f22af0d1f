-- The lines that `show` says of a loaded topology, in the parts in which they are said.
use Rattle.std.specs.Prelude.{ℕ, List, ◌++◌, map, codes, decimal}
use Rattle.std.specs.List.{zip}
use Rattle.stream_law.specs.declared.graph.Comp.{Comp}
use Rattle.stream_law.specs.declared.graph.Edge.{Edge}
use Rattle.stream_law.specs.declared.graph.Pipe.{Pipe}
use Rattle.tplg_plan.specs.declared.plans.Plan.{Plan}
use Rattle.host_widgets.specs.declared.kept.Record.{Record}
use Rattle.host_widgets.specs.Kept.{controls_of}
use Rattle.sof_script.specs.KindWords.{kind_words}
use Rattle.sof_session.specs.Show.{edge_line, stream_line, control_line}

-- the streams, in the order of the plan
abbrev pub stream_lines : Plan → Record → List (List ℕ)
stream_lines plan kept = map (stream_line plan) (zip plan.streams kept.streams)

-- the live controls, by component
abbrev pub control_lines : Plan → Record → List (List ℕ)
control_lines plan kept = map (control_line plan) (controls_of plan kept)

-- the streams, and then the controls
abbrev pub state_lines : Plan → Record → List (List ℕ)
state_lines plan kept = stream_lines plan kept ++ control_lines plan kept

-- the edges, and then these
abbrev pub edge_lines : Plan → Record → List (List ℕ)
edge_lines plan kept = map edge_line plan.graph.edges ++ state_lines plan kept

-- a component: its id, its kind, the index of its pipeline, and its name
abbrev pub comp_line : ℕ → Comp → List ℕ → List ℕ
comp_line id c name = codes "comp " ++ decimal id ++ codes " " ++ kind_words c.kind ++ codes " pipe " ++ decimal c.pipe ++ codes " " ++ name

-- a buffer: its id, its size in bytes, the index of its pipeline, and its name
abbrev pub buffer_line : ℕ → Edge → List ℕ → List ℕ
buffer_line id e name = codes "buffer " ++ decimal id ++ codes " size " ++ decimal e.size ++ codes " pipe " ++ decimal e.pipe ++ codes " " ++ name

-- a pipeline: its id, its index, its period in µs, and its name
abbrev pub pipe_line : ℕ → Pipe → List ℕ → List ℕ
pipe_line id p name = codes "pipe " ++ decimal id ++ codes " index " ++ decimal p.index ++ codes " period " ++ decimal p.period ++ codes " " ++ name
