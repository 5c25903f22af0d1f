-- What a reader finds at a place, test by test. No public clause rests on this alone: it is proved to be what `Records` and
-- `TraceFaults` say.
use Rattle.std.specs.Prelude.{ℕ, zero, suc, ◌+◌, List, [], ◌∷◌, length, nat_lt, ◌==◌, Option, Some, None, Result, Ok, Err, if◌then◌else◌}
use Rattle.sof_base.specs.Slots.{word_at, part}
use Rattle.ipc3_trace.specs.declared.kind.RecordKind.{RecordKind}
use Rattle.ipc3_trace.specs.declared.kind.RecordKind.TheVariants as kinds
use Rattle.ipc3_trace.specs.declared.entry.Entry.{Entry}
use Rattle.ipc3_trace.specs.declared.entry.Entry.TheVariants.{Boot, Cut, Request, Reply, Tick, Lost}
use Rattle.ipc3_trace.specs.declared.entry.Next.{Next}
use Rattle.ipc3_trace.specs.declared.entry.Next.TheVariants.{End, One}
use Rattle.ipc3_trace.specs.declared.fault.TraceFault.{TraceFault}
use Rattle.ipc3_trace.specs.declared.fault.TraceFault.TheVariants.{Short, Kind, Size}
use Rattle.ipc3_trace.specs.Kinds.{record_numbered, takes_size}

-- the record of a kind with these bytes
abbrev pub entry_in : RecordKind → List ℕ → Entry
entry_in kinds.Boot body = Boot (word_at body 0)
entry_in kinds.Cut body = Cut
entry_in kinds.Request body = Request body
entry_in kinds.Reply body = Reply body
entry_in kinds.Tick body = Tick
entry_in kinds.Lost body = Lost

-- so many bytes after kind and size, where they are there
abbrev pub whole_in : List ℕ → ℕ → RecordKind → ℕ → Result Next TraceFault
whole_in b at kind size =
    if nat_lt (length b) (at + 8 + size) then Err (Short at) else Ok (One (entry_in kind (part b (at + 8) size)) (at + 8 + size))

-- a record of this kind, where it is one
abbrev pub sized_in : List ℕ → ℕ → Option RecordKind → Result Next TraceFault
sized_in b at None = Err (Kind at (word_at b at))
sized_in b at (Some kind) = if takes_size kind (word_at b (at + 4)) then whole_in b at kind (word_at b (at + 4)) else Err (Size at)

-- a record, where its kind and size are there
abbrev pub headed_in : List ℕ → ℕ → Result Next TraceFault
headed_in b at = if nat_lt (length b) (at + 8) then Err (Short at) else sized_in b at (record_numbered (word_at b at))

-- what stands at a place
unfoldable pub next_in : List ℕ → ℕ → Result Next TraceFault
next_in b at = if at == length b then Ok End else headed_in b at

-- ---- as a whole trace

-- a record, and those after it
abbrev pub found_then : Result Next TraceFault → (ℕ → List Entry × Option TraceFault) → List Entry × Option TraceFault
found_then (Ok End) more = ([], None)
found_then (Ok (One e next)) more = let rest = more next in (e ∷ rest.0, rest.1)
found_then (Err fault) more = ([], Some fault)

-- what is found from a place on, in at most so many readings
unfoldable pub found_from : ℕ → List ℕ → ℕ → List Entry × Option TraceFault
found_from zero bytes at = ([], None)
found_from (suc n) bytes at = found_then (next_in bytes at) (λ next. found_from n bytes next)

-- the records of bytes up to their end or their first fault, which is reported; each takes eight bytes at least
abbrev pub trace_in : List ℕ → List Entry × Option TraceFault
trace_in bytes = found_from (suc (length bytes)) bytes 0
