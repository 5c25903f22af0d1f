-- A play over a firmware that a far side is compared with.
use Rattle.std.specs.Prelude.{◌≡◌, ◌⊎◌, ℕ, Bool, true, false, List, Option, if◌then◌else◌}
use Rattle.sof_desk.specs.declared.calls.FileUse.TheVariants.{ToRead, ToWrite}
use Rattle.sof_files.specs.RealDesk.{RealDesk, IsNew, HandsOut}
use Rattle.sof_files.specs.Streams.{untold}
use Rattle.fw_core.specs.Device.{FirmwareView, firmware}
use Rattle.ipc3_far.specs.FarDevices.{FarDevice, new_far, far, LetsAllOut}
use Rattle.sof.specs.Asked.{DriveNames, play_words}
use Rattle.sof.specs.HandedOn.{IsUnused, PlayedOver}

-- both files were handed out, that of records first
pub record OpenedFar (names : DriveNames) (old new : RealDesk) : Type 0 where
  pub mid : RealDesk
  pub requests : HandsOut ToWrite names.requests true old mid
  pub replies : HandsOut ToRead names.replies true mid new

-- one of them was not
abbrev pub NotOpenedFar : DriveNames → RealDesk → RealDesk → Type 0
NotOpenedFar names old new =
    HandsOut ToWrite names.requests false old new
    ⊎ ((mid : RealDesk) × HandsOut ToWrite names.requests true old mid × HandsOut ToRead names.replies false mid new)

-- the status of the play; after 0 all goes out that was sent, and where that fails it is 3
abbrev pub AfterFar : {P : Type 0} → (status : ℕ) → FarDevice P → (told : ℕ) → FarDevice P → Type 0
AfterFar status f told g =
    ((status ≡ 0 → ⊥) × (told ≡ status) × (g ≡ f))
    ⊎ ((status ≡ 0) × ((done : Bool) × (told ≡ (if done then 0 else 3)) × LetsAllOut f g))

-- the play's words were run over a firmware that was never booted, with a far side of which no byte is known to be read or sent before
pub record PlayedFar (room : ℕ) (names : DriveNames) (old : RealDesk) (told : ℕ) : Type 0 where
  pub desk : RealDesk
  pub opened : OpenedFar names old desk
  pub device : FirmwareView
  pub unused : IsUnused room device
  pub sent : Option (List ℕ)
  pub unread : Option (List ℕ)
  pub status : ℕ
  pub mid : FarDevice FirmwareView
  pub last : FarDevice FirmwareView
  pub over : PlayedOver (far firmware) (play_words names) desk (new_far device sent unread) status mid
  pub out : AfterFar status mid told last

-- all of `drive`
pub record Drove (room : ℕ) (names : DriveNames) (told : ℕ) : Type 0 where
  pub old : RealDesk
  pub fresh : IsNew untold old
  pub goes : ((told ≡ 3) × ((new : RealDesk) × NotOpenedFar names old new)) ⊎ PlayedFar room names old told
