-- The records of a trace as bytes, in the project's own format: u32 kind, u32 size, and that many bytes.
use Rattle.std.specs.Prelude.{ℕ, ◌<◌, ◌≤◌, ◌^◌, List, [], ◌++◌, flat_map, length}
use Rattle.std.specs.Int.{w32, to_le_bytes}
use Rattle.ipc3_trace.specs.declared.kind.RecordKind.{RecordKind}
use Rattle.ipc3_trace.specs.declared.kind.RecordKind.TheVariants as kinds
use Rattle.ipc3_trace.specs.declared.entry.Entry.{Entry}
use Rattle.ipc3_trace.specs.declared.entry.Entry.TheVariants.{Boot, Cut, Request, Reply, Tick, Lost}
use Rattle.ipc3_trace.specs.Kinds.{record_number}

-- ---- how a record is spelled

-- the kind of a record
abbrev pub record_kind : Entry → RecordKind
record_kind (Boot heap) = kinds.Boot
record_kind Cut = kinds.Cut
record_kind (Request message) = kinds.Request
record_kind (Reply message) = kinds.Reply
record_kind Tick = kinds.Tick
record_kind Lost = kinds.Lost

-- the bytes after its kind and size
abbrev pub content_of : Entry → List ℕ
content_of (Boot heap) = to_le_bytes w32 heap
content_of Cut = []
content_of (Request message) = message
content_of (Reply message) = message
content_of Tick = []
content_of Lost = []

-- kind and size, each in four bytes, the low one first, and the bytes
unfoldable pub spelled : RecordKind → List ℕ → List ℕ
spelled kind body = to_le_bytes w32 (record_number kind) ++ (to_le_bytes w32 (length body) ++ body)

abbrev pub record_bytes : Entry → List ℕ
record_bytes e = spelled (record_kind e) (content_of e)

-- records, one after the other
abbrev pub records_bytes : List Entry → List ℕ
records_bytes es = flat_map record_bytes es

-- ---- which records there are

abbrev pub IsEntry : Entry → Type 0
IsEntry (Boot heap) = heap < 2 ^ 32
IsEntry Cut = Unit {0}
IsEntry (Request message) = length message ≤ 384
IsEntry (Reply message) = (12 ≤ length message) × (length message ≤ 384)
IsEntry Tick = Unit {0}
IsEntry Lost = Unit {0}
