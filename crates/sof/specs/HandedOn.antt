-- The status that is handed on of a call that was made over a desk of real files.
use Rattle.std.specs.Prelude.{◌≡◌, ◌⊎◌, ℕ, Bool, List, [], None, if◌then◌else◌}
use Rattle.sof_desk.specs.Desk.{DeskMeaning, Put, Spoken, Acted}
use Rattle.sof_files.specs.RealDesk.{RealDesk, real, IsNew}
use Rattle.sof_files.specs.Streams.{untold}
use Rattle.mbox_link.specs.Calls.{Meaning}
use Rattle.fw_core.specs.Device.{FirmwareView, firmware}
use Rattle.tplg_source.specs.Outcome.{source_for}
use Rattle.sof_run.specs.Run.{RunContract}
use Rattle.run_serve.specs.ServeWords.{ServeNames}
use Rattle.run_serve.specs.Served.{Serves}

-- a run's own status; after 0 nothing more is said, so that a run that said no line has its files emptied, and where that fails it is 3
abbrev pub AfterSay : {D : Type 0} → DeskMeaning D → (status : ℕ) → D → (told : ℕ) → D → Type 0
AfterSay means status mid told new =
    ((status ≡ 0 → ⊥) × (told ≡ status) × (new ≡ mid))
    ⊎ ((status ≡ 0) × ((done : Bool) × (told ≡ (if done then 0 else 3)) × Acted means (Put Spoken []) done mid new))

-- the words were run over a desk and a device, and this status is handed on
pub record PlayedOver {P : Type 0} (dsp : Meaning P) (words : List (List ℕ)) (old : RealDesk) (p : P) (told : ℕ) (q : P) : Type 0 where
  pub status : ℕ
  pub mid : RealDesk
  pub new : RealDesk
  pub ran : RunContract source_for real dsp words old p status mid q
  pub handed : AfterSay real status mid told new

-- a firmware that was never booted, with a greatest heap of so many bytes
pub record IsUnused (room : ℕ) (p : FirmwareView) : Type 0 where
  pub off : p.state ≡ None
  pub boots : p.boots ≡ 0
  pub most : p.most ≡ room

-- the words were run over a desk that was new and a firmware that was never booted
pub record Played (room : ℕ) (words : List (List ℕ)) (told : ℕ) : Type 0 where
  pub old : RealDesk
  pub desk : IsNew untold old
  pub device : FirmwareView
  pub unused : IsUnused room device
  pub last : FirmwareView
  pub over : PlayedOver firmware words old device told last

-- a driver was served over such a desk by such a firmware
pub record ServedDriver (room : ℕ) (names : ServeNames) (told : ℕ) : Type 0 where
  pub old : RealDesk
  pub desk : IsNew untold old
  pub device : FirmwareView
  pub unused : IsUnused room device
  pub new : RealDesk
  pub last : FirmwareView
  pub served : Serves real firmware names old device told new last
