-- What may be asked of a control: which control a name means, and when it is refused before any message.
use Rattle.std.specs.Prelude.{ℕ, nat_le, nat_lt, List, [], ◌∷◌, length, replicate, find, Bool, false, not, ◌&&◌, ◌||◌, ◌==◌, Option, Some, None, if◌then◌else◌}
use Rattle.std.specs.Option.{option_map}
use Rattle.sof_base.specs.BlobFaults.{blob_fault, fault_number}
use Rattle.tplg_plan.specs.declared.plans.Plan.{Plan}
use Rattle.tplg_plan.specs.declared.plans.ControlPlan.{ControlPlan}
use Rattle.tplg_plan.specs.declared.plans.ControlKind.{ControlKind}
use Rattle.tplg_plan.specs.declared.plans.ControlKind.TheVariants.{Volume, Choice, Blob, Masks}
use Rattle.host_widgets.specs.declared.answers.HostFault.{HostFault}
use Rattle.host_widgets.specs.declared.answers.HostFault.TheVariants as faults
use Rattle.host_widgets.specs.declared.kept.Record.{Record}
use Rattle.host_widgets.specs.Named.{is_named, loaded_fault, off_fault}

-- the live control of the component of this name
abbrev pub named_control : Plan → List ℕ → Option ControlPlan
named_control plan name = find (λ k. is_named plan name k.comp) plan.controls

-- ---- values

-- how many values a volume or a demux has, one for each channel; a mux has one, and an equaliser is not set by values
abbrev pub channels_of : ControlKind → Option ℕ
channels_of (Volume min max channels lowest step mute) = Some channels
channels_of (Choice items) = Some 1
channels_of (Blob most initial) = None
channels_of (Masks min max channels) = Some channels

-- a volume or a demux takes a value in its range, and a mux the number of one of its items
abbrev pub takes_value : ControlKind → ℕ → Bool
takes_value (Volume min max channels lowest step mute) v = nat_le min v && nat_le v max
takes_value (Choice items) v = nat_lt v items
takes_value (Blob most initial) v = false
takes_value (Masks min max channels) v = nat_le min v && nat_le v max

-- one value is for all channels
abbrev pub spread : ℕ → List ℕ → List ℕ
spread channels (v ∷ []) = replicate channels v
spread channels values = values

-- neither one value nor one for each channel; or the first value that is not taken
abbrev pub values_fault : ControlKind → ℕ → List ℕ → Option HostFault
values_fault kind channels values =
    if not (length values == 1 || length values == channels) then Some (faults.Range (length values))
    else option_map faults.Range (find (λ v. not (takes_value kind v)) values)

-- ---- the tests before any message, in their order: NotLoaded, NoSuch, and Off of a read or Range of values

abbrev pub kind_fault : List ℕ → ControlKind → Option ℕ → List ℕ → Option HostFault
kind_fault name kind None values = Some (faults.NoSuch name)
kind_fault name kind (Some channels) values = values_fault kind channels values

abbrev pub setting_fault : List ℕ → List ℕ → Option ControlPlan → Option HostFault
setting_fault name values None = Some (faults.NoSuch name)
setting_fault name values (Some k) = kind_fault name k.kind (channels_of k.kind) values

abbrev pub set_fault : Plan → Record → List ℕ → List ℕ → Option HostFault
set_fault plan kept name values = loaded_fault kept.power (setting_fault name values (named_control plan name))

-- ---- bytes

-- more bytes than an equaliser takes; or the number of the first fault of bytes that are no blob. No other control is set by
-- bytes
abbrev pub bytes_fault_by : List ℕ → List ℕ → ControlKind → Option HostFault
bytes_fault_by name bytes (Blob most initial) =
    if nat_lt most (length bytes) then Some (faults.Range (length bytes)) else option_map (λ fault. faults.Blob (fault_number fault)) (blob_fault bytes)
bytes_fault_by name bytes kind = Some (faults.NoSuch name)

-- the tests before any message: NotLoaded, NoSuch, Range, Blob
abbrev pub installing_fault : List ℕ → List ℕ → Option ControlPlan → Option HostFault
installing_fault name bytes None = Some (faults.NoSuch name)
installing_fault name bytes (Some k) = bytes_fault_by name bytes k.kind

abbrev pub bytes_fault : Plan → Record → List ℕ → List ℕ → Option HostFault
bytes_fault plan kept name bytes = loaded_fault kept.power (installing_fault name bytes (named_control plan name))

-- ---- what is answered

-- a control of any kind is known by its name
abbrev pub name_fault : List ℕ → Option ControlPlan → Option HostFault → Option HostFault
name_fault name None rest = Some (faults.NoSuch name)
name_fault name (Some k) rest = rest

abbrev pub get_fault : Plan → Record → List ℕ → Option HostFault
get_fault plan kept name = loaded_fault kept.power (name_fault name (named_control plan name) None)

-- what is asked of the firmware asks for the power
abbrev pub read_fault : Plan → Record → List ℕ → Option HostFault
read_fault plan kept name = loaded_fault kept.power (name_fault name (named_control plan name) (off_fault kept.power))
