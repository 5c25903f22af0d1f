-- What holds of the fields of a firmware.
use Rattle.std.specs.Prelude.{◌≡◌, [], true, false, Some, None, if◌then◌else◌}
use Rattle.sof_base.specs.Holes.{fresh_holes}
use Rattle.fw_components.specs.Tables.{Tables}
use Rattle.fw_schedule.specs.Schedules.{IsScheduleOf}
use Rattle.fw_core.specs.declared.firmware.Firmware.TheInside.{Inside}
use Rattle.fw_core.specs.Held.{state_in, IsPieceHeld}
use Rattle.fw_core.specs.Device.{FirmwareView}

-- nothing is there
abbrev pub no_tables : Tables
no_tables = record { comps = []; buffers = []; pipes = []; joins = [] }

abbrev pub firmware_view : Inside → FirmwareView
firmware_view f = record {
  state = if f.on then Some (state_in f.registry f.region f.clock) else None;
  boots = f.boots;
  most = f.region.size;
  home = f.region.home;
}

-- Where it is on, what is so between messages. Where it is off, nothing is there, and all pieces are back. Where its schedule is
-- current, it is that of its registry.
pub record IsDeviceLaid (f : Inside) : Type 0 where
  pub on : f.on ≡ true → IsPieceHeld f.registry f.region
  pub off : f.on ≡ false → (f.registry ≡ no_tables) × (f.region.holes ≡ fresh_holes f.region.usable)
  pub schedule : f.current ≡ true → IsScheduleOf f.registry f.schedule
