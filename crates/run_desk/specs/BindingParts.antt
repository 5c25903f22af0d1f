-- Parts of bindings, as code makes them.
use Rattle.std.specs.Prelude.{ℕ, Bool, false, List, find}
use Rattle.tplg_plan.specs.declared.plans.Plan.{Plan}
use Rattle.std.specs.List.{list_any, slice_get}
use Rattle.std.specs.Option.{option_map_or}
use Rattle.std.specs.Str.{bytes_eq}
use Rattle.sof_script.specs.Commands.{Bound}
use Rattle.run_desk.specs.Bindings.{is_sought}

-- the widget of this id has this name
abbrev pub has_widget_name : Plan → List ℕ → ℕ → Bool
has_widget_name plan name id = option_map_or (λ other. bytes_eq name other) (slice_get plan.names id) false

-- an endpoint of this direction has this name
abbrev pub has_endpoint : Plan → Bool → List ℕ → Bool
has_endpoint plan input name = list_any (is_sought plan input name) plan.graph.comps

-- some of these binds this endpoint
abbrev pub is_endpoint_bound : List Bound → List ℕ → Bool
is_endpoint_bound bindings endpoint = list_any (λ b. bytes_eq endpoint b.endpoint) bindings

-- the slot of an endpoint is the id of its component
abbrev pub slot_of : Plan → Bool → List ℕ → ℕ
slot_of plan input name = option_map_or (λ c. c.id) (find (is_sought plan input name) plan.graph.comps) 0
