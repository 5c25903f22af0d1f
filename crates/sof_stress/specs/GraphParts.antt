-- The parts of a stress as code puts them together: widgets, routes, the plan and its heap.
use Rattle.std.specs.Prelude.{ℕ, ◌+◌, ◌*◌, min, List, [], ◌∷◌, codes, ◌%◌}
use Rattle.tplg_build.specs.declared.source.WidgetKind.TheVariants as kind
use Rattle.tplg_build.specs.declared.source.SourceWidget.{SourceWidget}
use Rattle.tplg_build.specs.declared.source.SourceRoute.{SourceRoute}
use Rattle.tplg_plan.specs.declared.plans.Plan.{Plan}
use Rattle.tplg_graph.specs.PlanOf.{plan_of}
use Rattle.tplg_graph.specs.TopologyNeed.{need_of}
use Rattle.sof_stress.specs.Draws.{numbered_name, host_name, volume_name, stream_count}
use Rattle.sof_stress.specs.StressGraph.{plain_widget, buffer, scheduler, volume, equaliser, dai, along, stress_topology}

-- the widgets of a stream up to its volume
abbrev pub up_to_volume : ℕ → List SourceWidget
up_to_volume i =
    plain_widget kind.AifIn (host_name i) (numbered_name (codes "S") i) (i + 1)
    ∷ buffer (numbered_name (codes "A") i) 1536 (i + 1)
    ∷ volume (volume_name i) (i + 1)
    ∷ []

-- those after it
abbrev pub behind_volume : ℕ → List SourceWidget
behind_volume i =
    buffer (numbered_name (codes "C") i) 1536 (i + 1)
    ∷ scheduler (numbered_name (codes "PIPE") i) (host_name i) (1000 * (i + 1)) (i + 1)
    ∷ []

-- what the streams are mixed into, up to the equaliser
abbrev pub up_to_equaliser : List SourceWidget
up_to_equaliser = plain_widget kind.Mixer (codes "MIX") [] 100 ∷ buffer (codes "D0") 768 100 ∷ equaliser ∷ []

-- and after it
abbrev pub behind_equaliser : List SourceWidget
behind_equaliser = buffer (codes "D1") 768 100 ∷ dai ∷ scheduler (codes "PIPEM") (codes "DAI0") 1000 100 ∷ []

-- the j-th byte of a stream's input, from 0
abbrev pub input_byte : ℕ → ℕ → ℕ
input_byte i j = (7 * j + i) % 256

-- the plan of a stress, by its seed
abbrev pub stress_plan : ℕ → Plan
stress_plan seed = plan_of (stress_topology (stream_count seed))

-- and its heap, on a device of this room
abbrev pub stress_heap : ℕ → ℕ → ℕ
stress_heap room seed = min (need_of (stress_topology (stream_count seed))) room

-- a route
abbrev pub source_route : List ℕ → List ℕ → SourceRoute
source_route source sink = record { source = source; sink = sink }

-- the routes from the mixer to the DAI
abbrev pub mixed_routes : List SourceRoute
mixed_routes = along (codes "MIX" ∷ codes "D0" ∷ codes "EQ0" ∷ codes "D1" ∷ codes "DAI0" ∷ [])
