-- What each call on a machine answers, and the machine after it.
use Rattle.std.specs.Prelude.{◌≡◌, ◌⊎◌, ℕ, ◌+◌, List, [], ◌++◌, length, drop, Option, Some, None, is_some, Bool, true, false, not, ◌||◌, nat_lt, if◌then◌else◌}
use Rattle.sof_base.specs.declared.limits.TheConstants.{INPUT_BYTES}
use Rattle.sof_base.specs.DrainedOutputs.{drained}
use Rattle.sof_io.specs.Takes.{held_at, has_ended, input_slots}
use Rattle.sof_io.specs.Fills.{filled_at, with_input}
use Rattle.sof_io.specs.Bound.{has_slot, output_slots, with_slot}
use Rattle.sof_io.specs.Puts.{bytes_at}
use Rattle.mbox_link.specs.Step.{fresh}
use Rattle.mbox_link.specs.Exchange.{more}
use Rattle.mbox_link.specs.Calls.{World, world}
use Rattle.fw_core.specs.Device.{FirmwareView, with_state, stepped, reply_to, after_tick}
use Rattle.sof_c.specs.declared.status.TheConstants.{DONE, NO_MEMORY, ON, OFF, TOO_LARGE, SHORT, UNKNOWN, BOUND, FULL}
use Rattle.sof_c.specs.declared.machine.Machine.{Machine}

-- off, never booted, of this greatest heap, with no endpoints and no ticks
pub record IsNewMachine (room : ℕ) (m : Machine) : Type 0 where
  pub off : m.firmware.state ≡ None
  pub boots : m.firmware.boots ≡ 0
  pub most : m.firmware.most ≡ room
  pub inputs : m.inputs ≡ []
  pub outputs : m.outputs ≡ []
  pub ticks : m.ticks ≡ 0

abbrev pub is_on : Machine → Bool
is_on m = is_some m.firmware.state

-- the machine with another firmware
abbrev pub with_firmware : FirmwareView → Machine → Machine
with_firmware view m = record m { firmware = view }

-- 1 where it is on
abbrev pub power : Machine → ℕ
power m = if is_on m then 1 else 0

-- done where it is on
abbrev pub power_status : Machine → ℕ
power_status m = if is_on m then DONE else OFF

-- a boot
abbrev pub boot_status : ℕ → Machine → ℕ
boot_status heap m = if is_on m then ON else if nat_lt m.firmware.most heap then TOO_LARGE else DONE

abbrev pub booted_view : ℕ → FirmwareView → FirmwareView
booted_view heap view = record view { state = Some (fresh heap); boots = more view.boots }

abbrev pub after_boot : ℕ → Machine → Machine
after_boot heap m = if is_on m || nat_lt m.firmware.most heap then m else with_firmware (booted_view heap m.firmware) m

-- a cut, which changes nothing where it is off
abbrev pub after_cut : Machine → Machine
after_cut m = if is_on m then with_firmware (with_state None m.firmware) m else m

-- these bytes in the place of the first ones
abbrev pub with_prefix : List ℕ → List ℕ → List ℕ
with_prefix bytes old = bytes ++ drop (length bytes) old

-- an exchange, into a buffer of so many bytes: a reply has at most 384
abbrev pub exchange_status : ℕ → Machine → ℕ
exchange_status capacity m = if nat_lt capacity 384 then SHORT else power_status m

abbrev pub after_exchange : ℕ → List ℕ → Machine → Machine
after_exchange capacity request m =
    if nat_lt capacity 384 || not (is_on m) then m else with_firmware (with_state (stepped m.firmware.state request) m.firmware) m

-- the bytes of a reply, none where there is none
abbrev pub reply_bytes : Option (List ℕ) → List ℕ
reply_bytes None = []
reply_bytes (Some bytes) = bytes

abbrev pub reply_given : ℕ → List ℕ → Machine → List ℕ
reply_given capacity request m = if nat_lt capacity 384 then [] else reply_bytes (reply_to m.firmware.state request)

-- a tick, whose outputs hold its bytes alone
abbrev pub of_world : ℕ → World FirmwareView → Machine
of_world ticks w = record { firmware = w.device; inputs = w.io.inputs; outputs = w.io.outputs; ticks = ticks }

abbrev pub machine_after_tick : Machine → Machine
machine_after_tick m =
    if is_on m then of_world (more m.ticks) (after_tick m.firmware.state (world m.firmware m.inputs (drained m.outputs))) else m

-- an endpoint more, by whether its id is there already: it is there now, or memory is missing
abbrev pub IsAdded : Bool → Machine → Machine → ℕ → Machine → Type 0
IsAdded true m longer status n = (status ≡ BOUND) × (n ≡ m)
IsAdded false m longer status n = ((status ≡ DONE) × (n ≡ longer)) ⊎ ((status ≡ NO_MEMORY) × (n ≡ m))

abbrev pub IsInputAdded : ℕ → Machine → ℕ → Machine → Type 0
IsInputAdded id m = IsAdded (has_slot id (input_slots m.inputs)) m (record m { inputs = with_input id m.inputs })

abbrev pub IsOutputAdded : ℕ → Machine → ℕ → Machine → Type 0
IsOutputAdded id m = IsAdded (has_slot id (output_slots m.outputs)) m (record m { outputs = with_slot id m.outputs })

-- whether an input takes no such piece
abbrev pub is_piece_refused : ℕ → List ℕ → Machine → Bool
is_piece_refused id piece m = has_ended id m.inputs || nat_lt INPUT_BYTES (held_at id m.inputs + length piece)

-- a piece more for an input
abbrev pub fill_status : ℕ → List ℕ → Machine → ℕ
fill_status id piece m = if has_slot id (input_slots m.inputs) then (if is_piece_refused id piece m then FULL else DONE) else UNKNOWN

abbrev pub after_fill : ℕ → List ℕ → Machine → Machine
after_fill id piece m =
    if not (has_slot id (input_slots m.inputs)) || is_piece_refused id piece m then m else record m { inputs = filled_at id piece m.inputs }

-- the last tick's bytes of an output, into a buffer of so many bytes
abbrev pub read_status : ℕ → ℕ → Machine → ℕ
read_status id capacity m =
    if has_slot id (output_slots m.outputs) then (if nat_lt capacity (length (bytes_at id m.outputs)) then SHORT else DONE) else UNKNOWN

abbrev pub output_given : ℕ → ℕ → Machine → List ℕ
output_given id capacity m =
    if not (has_slot id (output_slots m.outputs)) || nat_lt capacity (length (bytes_at id m.outputs)) then [] else bytes_at id m.outputs
