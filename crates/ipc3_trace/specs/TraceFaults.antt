-- What is at fault at a place of bytes: a record's kind and size are there before either is looked at, and both are right before
-- its bytes are.
use Rattle.std.specs.Prelude.{◌≡◌, ◌⊎◌, ℕ, ◌+◌, ◌<◌, ◌≤◌, List, length, Some, None, true, false}
use Rattle.sof_base.specs.Slots.{word_at}
use Rattle.ipc3_trace.specs.declared.kind.RecordKind.{RecordKind}
use Rattle.ipc3_trace.specs.declared.fault.TraceFault.{TraceFault}
use Rattle.ipc3_trace.specs.declared.fault.TraceFault.TheVariants.{Short, Kind, Size}
use Rattle.ipc3_trace.specs.Kinds.{record_numbered, takes_size}

-- a record's kind and size stand at a place: these numbers
pub record HasHead (bytes : List ℕ) (at number size : ℕ) : Type 0 where
  pub there : at + 8 ≤ length bytes
  pub number_is : number ≡ word_at bytes at
  pub size_is : size ≡ word_at bytes (at + 4)

-- and its kind is known
pub record HasKind (bytes : List ℕ) (at : ℕ) (kind : RecordKind) (size : ℕ) : Type 0 where
  pub number : ℕ
  pub head : HasHead bytes at number size
  pub known : record_numbered number ≡ Some kind

-- fewer than eight bytes are left, but some are
abbrev pub IsHeadCut : List ℕ → ℕ → Type 0
IsHeadCut bytes at = (at < length bytes) × (length bytes < at + 8)

-- kind and size are right, and fewer bytes than that are left
abbrev pub IsBodyCut : List ℕ → ℕ → Type 0
IsBodyCut bytes at = (kind : RecordKind) × (size : ℕ) × HasKind bytes at kind size × (takes_size kind size ≡ true) × (length bytes < at + 8 + size)

-- this is at fault at the place, and nothing before it
abbrev pub IsFaultAt : List ℕ → ℕ → TraceFault → Type 0
IsFaultAt bytes at (Short place) = (place ≡ at) × (IsHeadCut bytes at ⊎ IsBodyCut bytes at)
IsFaultAt bytes at (Kind place number) = (place ≡ at) × ((size : ℕ) × HasHead bytes at number size) × (record_numbered number ≡ None)
IsFaultAt bytes at (Size place) = (place ≡ at) × ((kind : RecordKind) × (size : ℕ) × HasKind bytes at kind size × (takes_size kind size ≡ false))
