-- What makes and unmakes pipelines, message by message.
use Rattle.std.specs.Prelude.{ℕ, List, ◌++◌, map, filter, ◌==◌}
use Rattle.std.specs.List.{flat_map}
use Rattle.stream_law.specs.declared.graph.Join.{Join as Joined}
use Rattle.stream_law.specs.declared.graph.Graph.{Graph}
use Rattle.stream_law.specs.Ways.{components, buffers}
use Rattle.stream_law.specs.Order.{is_among}
use Rattle.tplg_plan.specs.declared.plans.Plan.{Plan}
use Rattle.host_widgets.specs.declared.kept.Record.{Record}
use Rattle.host_widgets.specs.Acts.{widget_ids, widget_words}
use Rattle.host_widgets.specs.ActLists.{control_acts}
use Rattle.host_widgets.specs.HostActs.{Act, Make, Join, Finish, Unmake}
use Rattle.host_widgets.specs.Kept.{controls_of}
use Rattle.host_widgets.specs.Up.{buffer_joins}
use Rattle.host_widgets.specs.Groups.{is_control_of, finish_ids}

-- ---- making

-- the widgets of an index, by id
abbrev pub widgets_at : Plan → ℕ → List ℕ
widgets_at plan i = filter (λ id. (widget_words plan id).pipe == i) (widget_ids plan)

-- those of these indices, one index after another
abbrev pub widgets_of : Plan → List ℕ → List ℕ
widgets_of plan n = flat_map (widgets_at plan) n

-- The pipelines of these indices are made: index by index each widget by id; index by index the joins of its buffers; each live control
-- of them is set, by component; and each of them is complete, by id.
abbrev pub making_acts : Plan → Record → List ℕ → List Act
making_acts plan kept n =
    map Make (widgets_of plan n)
    ++ (map (λ (j : Joined). Join j.source j.sink) (flat_map (buffer_joins plan.graph) n)
    ++ (flat_map control_acts (filter (is_control_of plan n) (controls_of plan kept))
    ++ map Finish (finish_ids plan.graph n)))

-- ---- unmaking

abbrev pub pipe_ids : Graph → List ℕ
pipe_ids g = map (λ p. p.id) g.pipes

-- of these ids first those of pipelines, then of buffers, then of components, each by id
abbrev pub unmade_order : Graph → List ℕ → List ℕ
unmade_order g ids = filter (is_among ids) (pipe_ids g ++ (buffers g ++ components g))

abbrev pub unmaking_acts : Plan → List ℕ → List Act
unmaking_acts plan ids = map Unmake (unmade_order plan.graph ids)
