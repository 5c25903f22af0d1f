-- What is changed of a component, a buffer or a pipeline, and of lists of them.
use Rattle.std.specs.Prelude.{◌≡◌, ℕ, List, [], ◌∷◌, Bool, true, ◌==◌, Option, Some, if◌then◌else◌}
use Rattle.std.specs.List.{list_any}
use Rattle.sof_base.specs.declared.format.Params.{Params}
use Rattle.stream_law.specs.declared.stream.Phase.{Phase}
use Rattle.fw_units.specs.declared.component.Unit as units
use Rattle.fw_units.specs.declared.component.Unit.TheVariants.{Host, Buffer, Pipeline}
use Rattle.fw_units.specs.declared.component.Component.{Component}
use Rattle.fw_units.specs.Units.{piece_of}
use Rattle.fw_heap.specs.declared.run.Home.{Home}
use Rattle.fw_ring.specs.RingState.{RingState}
use Rattle.sof_base.specs.declared.hole.Hole.{Hole}
use Rattle.sof_base.specs.Holes.{given}
use Rattle.stream_law.specs.declared.graph.Join.{Join}

-- one of these has this id
abbrev pub has_id : List Component → ℕ → Bool
has_id cs id = list_any (λ c. c.id == id) cs

-- ---- changes of what is there

-- a component with its unit changed, and that where it has this id
abbrev pub with_unit : (units.Unit → units.Unit) → Component → Component
with_unit f c = record { id = c.id; pipe = c.pipe; channels = c.channels; unit = f c.unit }

abbrev pub unit_at : (units.Unit → units.Unit) → ℕ → Component → Component
unit_at f id c = if c.id == id then with_unit f c else c

abbrev pub completed_unit : units.Unit → units.Unit
completed_unit (Pipeline sched period complete piece) = Pipeline sched period true piece
completed_unit unit = unit

abbrev pub completed_at : ℕ → Component → Component
completed_at id c = unit_at completed_unit id c

abbrev pub emptied : RingState → RingState
emptied r = record { frames = []; words = r.words; channels = r.channels; start = 0; piece = r.piece }

abbrev pub ended_unit : units.Unit → units.Unit
ended_unit (Buffer size ring source sink) = Buffer size (emptied ring) source sink
ended_unit unit = unit

abbrev pub with_ended : ℕ → Component → Component
with_ended id c = unit_at ended_unit id c

abbrev pub set_unit : Phase → Option Params → units.Unit → units.Unit
set_unit phase params (Host capture was before piece) = Host capture phase params piece
set_unit phase params unit = unit

abbrev pub set_at : ℕ → Phase → Option Params → Component → Component
set_at id phase params c = unit_at (set_unit phase params) id c

-- ---- joins

abbrev pub sourced_unit : ℕ → units.Unit → units.Unit
sourced_unit id (Buffer size ring source sink) = Buffer size ring (Some id) sink
sourced_unit id unit = unit

abbrev pub sunk_unit : ℕ → units.Unit → units.Unit
sunk_unit id (Buffer size ring source sink) = Buffer size ring source (Some id)
sunk_unit id unit = unit

-- a buffer with the side set that a join is at
abbrev pub joined_at : Join → Component → Component
joined_at j c =
    if c.id == j.source then with_unit (sunk_unit j.sink) c
    else if c.id == j.sink then with_unit (sourced_unit j.source) c
    else c

-- ---- what goes, and what pieces leave

-- a piece is of this region
abbrev pub IsOfHome : Home → Component → Type 0
IsOfHome home c = (piece_of c.unit).home ≡ home

-- the holes once a component's piece is given back
abbrev pub given_by : Component → List Hole → List Hole
given_by c holes = given (record { place = (piece_of c.unit).place; size = (piece_of c.unit).size }) holes

abbrev pub given_all : List Component → List Hole → List Hole
given_all [] holes = holes
given_all (c ∷ cs) holes = given_all cs (given_by c holes)
