-- What stands at a place of bytes.
use Rattle.std.specs.Prelude.{◌≡◌, ℕ, ◌+◌, List, length}
use Rattle.sof_base.specs.Slots.{part}
use Rattle.ipc3_trace.specs.declared.entry.Entry.{Entry}
use Rattle.ipc3_trace.specs.declared.entry.Next.{Next}
use Rattle.ipc3_trace.specs.declared.entry.Next.TheVariants.{End, One}
use Rattle.ipc3_trace.specs.Records.{record_bytes, IsEntry}

-- a record stands at a place, and `next` is the place after it
pub record IsRecordAt (bytes : List ℕ) (at : ℕ) (e : Entry) (next : ℕ) : Type 0 where
  pub is : IsEntry e
  pub stands : part bytes at (length (record_bytes e)) ≡ record_bytes e
  pub behind : next ≡ at + length (record_bytes e)

-- the bytes end there, or a record stands there
abbrev pub IsNext : List ℕ → ℕ → Next → Type 0
IsNext bytes at End = at ≡ length bytes
IsNext bytes at (One e next) = IsRecordAt bytes at e next
