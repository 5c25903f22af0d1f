-- The part of a plan that is up, as a plan of its own, and what of the whole holds of it.
use Rattle.std.specs.Prelude.{◌≡◌, ℕ, List, map, filter, length, true}
use Rattle.std.specs.List.{zip}
use Rattle.stream_law.specs.Order.{is_among}
use Rattle.stream_law.specs.Ways.{is_echo, on_way, touch}
use Rattle.tplg_plan.specs.declared.plans.Plan.{Plan}
use Rattle.tplg_plan.specs.declared.plans.StreamPlan.{StreamPlan}
use Rattle.tplg_plan.specs.Sound.{IsSound}
use Rattle.host_widgets.specs.declared.kept.Record.{Record}
use Rattle.host_widgets.specs.declared.kept.StreamRec.{StreamRec}
use Rattle.host_widgets.specs.ViewOf.{record_view}
use Rattle.host_widgets.specs.Need.{HasBrought, IsEnough}
use Rattle.host_widgets.specs.Up.{is_host_up, graph_of_up, up_view}
use Rattle.host_widgets.specs.Indices.{is_up}

-- ---- a part

-- the plan with the graph of what is up, and the streams whose hosts are up
abbrev pub up_part : Plan → List ℕ → Plan
up_part plan up = record plan { graph = graph_of_up plan.graph up; streams = filter (λ (s : StreamPlan). is_up plan.graph up s.host) plan.streams }

-- and its record
abbrev pub part_record : Plan → List ℕ → Record → Record
part_record plan up kept = record kept { streams = map (λ (p : StreamPlan × StreamRec). p.1) (filter (is_host_up plan up) (zip plan.streams kept.streams)) }

-- ---- what holds of it

-- what is shown of what is up is what a record of the part says
abbrev pub PartShowsUp : Type 0
PartShowsUp = (plan : Plan) (kept : Record) (up : List ℕ) → length kept.streams ≡ length plan.streams →
    record_view (up_part plan up) (part_record plan up kept) ≡ up_view plan kept up

-- of buffers that are up the echo edges are those of the whole
abbrev pub EchoesStay : Type 0
EchoesStay = (plan : Plan) → IsSound plan → (up : List ℕ) → HasBrought plan.graph (is_among up) → (b : ℕ) → is_up plan.graph up b ≡ true →
    is_echo (graph_of_up plan.graph up) b ≡ is_echo plan.graph b

-- the way of a stream that has what it needs is that of the whole
abbrev pub WaysStay : Type 0
WaysStay = (plan : Plan) → IsSound plan → (up : List ℕ) (host : ℕ) → IsEnough plan.graph host (is_among up) → (x : ℕ) →
    on_way (graph_of_up plan.graph up) host x ≡ on_way plan.graph host x

-- and two such streams touch where they touch in the whole
abbrev pub TouchesStay : Type 0
TouchesStay = (plan : Plan) → IsSound plan → (up : List ℕ) (a b : ℕ) → IsEnough plan.graph a (is_among up) → IsEnough plan.graph b (is_among up) →
    touch (graph_of_up plan.graph up) a b ≡ touch plan.graph a b
