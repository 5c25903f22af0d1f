-- Whether a stream may have parameters, by the components of a registry.
use Rattle.std.specs.Prelude.{◌≡◌, ℕ, ◌==◌, ◌&&◌, ◌||◌, not, List, Bool, true, Option, Some, None, if◌then◌else◌}
use Rattle.std.specs.List.{list_any, AllByRecursion}
use Rattle.sof_base.specs.declared.format.Params.{Params}
use Rattle.stream_law.specs.declared.graph.Graph.{Graph}
use Rattle.stream_law.specs.Ways.{components, touch, same_shape}
use Rattle.stream_law.specs.Order.{is_among}
use Rattle.fw_units.specs.declared.component.Component.{Component}
use Rattle.fw_units.specs.declared.component.Unit as units
use Rattle.fw_units.specs.declared.component.Unit.TheVariants.{Host}
use Rattle.fw_components.specs.Tally.{IsSeenIn}
use Rattle.fw_walks.specs.declared.streams.Sort.TheVariants as sorts
use Rattle.fw_walks.specs.Streams.{is_sort, any_stream}
use Rattle.fw_pipeline.specs.declared.agreeing.Given.{Given}

-- the stream of a host is Running or Paused
abbrev pub is_moving_at : List Component → ℕ → Bool
is_moving_at cs host = list_any (λ c. c.id == host && any_stream (is_sort sorts.Live) 0 c.unit) cs

-- the parameters that a component's stream has, or would have once a host's has these
abbrev pub given_to : Option Given → ℕ → Option Params → Option Params
given_to None id params = params
given_to (Some given) id params = if given.host == id then Some given.params else params

abbrev pub shape_in : Option Given → ℕ → units.Unit → Option Params
shape_in given id (Host capture phase params piece) = given_to given id params
shape_in given id unit = None

abbrev pub shape_by : Option Given → Component → Option Params
shape_by given c = shape_in given c.id c.unit

-- the streams of two components have one shape so, or do not touch
abbrev pub suits : Graph → Option Given → Component → Component → Bool
suits g given c d = same_shape (shape_by given c) (shape_by given d) || not (touch g c.id d.id)

-- each of these is a component of a graph, of its kind there
abbrev pub AreHostsIn : Graph → List Component → Type 0
AreHostsIn g cs = AllByRecursion (λ c. (is_among (components g) c.id ≡ true) × IsSeenIn g c) cs
