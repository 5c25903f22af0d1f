-- The picture of a plan, line by line, in DOT, the language of Graphviz: a cluster for each pipeline with a node for each of its
-- components, and an edge for each buffer. Each line has its newline.
use Rattle.std.specs.Prelude.{ℕ, ◌==◌, if◌then◌else◌, List, [], ◌∷◌, ◌++◌, map, codes, decimal}
use Rattle.std.specs.List.{flat_map}
use Rattle.stream_law.specs.declared.graph.Comp.{Comp}
use Rattle.stream_law.specs.declared.graph.Edge.{Edge}
use Rattle.stream_law.specs.declared.graph.Pipe.{Pipe}
use Rattle.tplg_model.specs.declared.block.Topology.{Topology}
use Rattle.tplg_plan.specs.declared.plans.Plan.{Plan}
use Rattle.sof_script.specs.KindWords.{end_words}
use Rattle.tplg_picture.specs.declared.shown.Shown.{Shown}
use Rattle.tplg_picture.specs.ShownNames.{shown_of}
use Rattle.tplg_picture.specs.Labels.{escaped_name, comp_label, fill_of}

-- the lines that begin a picture: boxes from left to right
abbrev pub head_lines : List (List ℕ)
head_lines =
    codes "digraph topology {\n"
    ∷ codes "graph [rankdir=LR, fontname=\"sans-serif\"];\n"
    ∷ codes "node [shape=box, style=\"rounded,filled\", fontname=\"sans-serif\"];\n"
    ∷ codes "edge [fontname=\"sans-serif\", fontsize=10];\n"
    ∷ []

-- a component's node, in the colour of its kind
unfoldable pub node_statement : Plan → Shown → Comp → List ℕ
node_statement plan shown c =
    codes "n" ++ decimal c.id ++ codes " [label=\"" ++ comp_label plan shown c ++ codes "\", fillcolor=\"" ++ fill_of c.kind ++ codes "\"];\n"

-- where it is of the pipeline of this index
abbrev pub nodes_in : Plan → Shown → ℕ → Comp → List (List ℕ)
nodes_in plan shown index c = if c.pipe == index then node_statement plan shown c ∷ [] else []

-- the first line of a pipeline's cluster
unfoldable pub cluster_line : Pipe → List ℕ
cluster_line p = codes "subgraph cluster_" ++ decimal p.index ++ codes " {\n"

-- its second line: the pipeline's name, and on a line of its own its index and its period in µs
unfoldable pub title_line : Plan → Pipe → List ℕ
title_line plan p = codes "label=\"" ++ escaped_name plan p.id ++ codes "\\nindex " ++ decimal p.index ++ codes ", period " ++ decimal p.period ++ codes " us\";\n"

-- a pipeline's cluster, with the nodes of its components
unfoldable pub cluster_lines : Plan → Shown → Pipe → List (List ℕ)
cluster_lines plan shown p = cluster_line p ∷ title_line plan p ∷ (flat_map (nodes_in plan shown p.index) plan.graph.comps ++ codes "}\n" ∷ [])

-- a buffer: an edge from its source to its sink, with its name and its size in bytes
unfoldable pub edge_statement : Plan → Edge → List ℕ
edge_statement plan e =
    codes "n" ++ end_words e.source ++ codes " -> n" ++ end_words e.sink ++ codes " [label=\"" ++ escaped_name plan e.buffer ++ codes "\\n" ++ decimal e.size ++ codes " bytes\"];\n"

-- the clusters in the order of the plan's pipelines, then the edges in that of its buffers
abbrev pub picture_with : Plan → Shown → List (List ℕ)
picture_with plan shown =
    head_lines ++ (flat_map (cluster_lines plan shown) plan.graph.pipes ++ (map (edge_statement plan) plan.graph.edges ++ codes "}\n" ∷ []))

-- the picture of a topology and its plan
abbrev pub picture_of : Topology → Plan → List (List ℕ)
picture_of topology plan = picture_with plan (shown_of topology)
