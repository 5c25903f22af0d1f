-- The firmware's state as it stands in the tables of its registry and in its region, and what is so of them between messages.
use Rattle.std.specs.Prelude.{◌≡◌, ℕ}
use Rattle.stream_law.specs.State.{FwState}
use Rattle.row_laws.specs.Tiled.{heap_bytes}
use Rattle.row_laws.specs.Kept.{FirmwareInvariant}
use Rattle.fw_heap.specs.Regions.{RegionState}
use Rattle.fw_components.specs.Tables.{Tables, carved_pieces}
use Rattle.fw_components.specs.States.{AreOf, state_over}
use Rattle.fw_schedule.specs.Ticks.{HasShapes}

-- the state at a clock: the holes are those of the region, and all else stands in the tables
abbrev pub state_in : Tables → RegionState → ℕ → FwState
state_in t r clock = state_over t r.holes clock

-- The state is one that rows keep, each piece is of the region, pieces and holes have all its usable bytes, and what is Live has the
-- shape of its stream.
pub record IsPieceHeld (t : Tables) (r : RegionState) : Type 0 where
  pub kept : (clock : ℕ) → FirmwareInvariant (state_in t r clock)
  pub homes : AreOf r.home t
  pub whole : heap_bytes (record { holes = r.holes; pieces = carved_pieces t }) ≡ r.usable
  pub shapes : HasShapes t
