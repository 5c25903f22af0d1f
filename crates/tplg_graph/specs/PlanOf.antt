-- The lists of a topology's graph, and its plan.
use Rattle.std.specs.Prelude.{List}
use Rattle.stream_law.specs.declared.graph.Join.{Join}
use Rattle.stream_law.specs.declared.graph.Graph.{Graph}
use Rattle.tplg_model.specs.declared.block.Topology.{Topology}
use Rattle.tplg_widgets.specs.declared.entry.Entry.{Entry}
use Rattle.tplg_plan.specs.declared.plans.Plan.{Plan}
use Rattle.tplg_widgets.specs.declared.pcm_caps.PcmCaps.{PcmCaps}
use Rattle.tplg_widgets.specs.Entries.{entries_of, interpreted}
use Rattle.tplg_widgets.specs.WiringValue.{WiringValue, wiring_of}
use Rattle.tplg_widgets.specs.GraphLists.{components_on, edges_on}
use Rattle.tplg_graph.specs.PlanLists.{pipes_on, streams_on, controls_on, names_on, widgets_on}

-- the interpreted widgets: an id is a place in this list
abbrev pub ids : Topology → List Entry
ids t = interpreted (entries_of t)

-- over the widgets, the interpreted ones and the real routes: the graph
abbrev pub graph_on : List Entry → List Entry → List Join → Graph
graph_on es ps js = record { comps = components_on ps js; edges = edges_on ps js; pipes = pipes_on es ps; joins = js }

-- the plan with a graph, over the PCMs too
abbrev pub plan_with : List Entry → List PcmCaps → Graph → Plan
plan_with ps pcms graph = record {
  graph = graph;
  streams = streams_on ps pcms;
  controls = controls_on ps;
  names = names_on ps;
  widgets = widgets_on ps;
}

abbrev pub plan_on : List Entry → List Entry → List PcmCaps → List Join → Plan
plan_on es ps pcms js = plan_with ps pcms (graph_on es ps js)

-- over what is read of a topology
abbrev pub plan_by : WiringValue → Plan
plan_by w = plan_on w.widgets (interpreted w.widgets) w.pcms w.joins

-- a topology's plan has the lists of its graph
abbrev pub plan_of : Topology → Plan
plan_of t = plan_by (wiring_of t)
