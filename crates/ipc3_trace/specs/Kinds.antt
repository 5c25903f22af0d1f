-- The kinds of records: the number of each, and how many bytes a record of it has after its kind and size.
use Rattle.std.specs.Prelude.{ℕ, List, [], ◌∷◌, Option, Some, None, find, Bool, ◌&&◌, nat_le, ◌==◌, if◌then◌else◌}
use Rattle.sof_base.specs.Slots.{word_at}
use Rattle.ipc3_trace.specs.declared.kind.RecordKind.{RecordKind}
use Rattle.ipc3_trace.specs.declared.kind.RecordKind.TheVariants.{Boot, Cut, Request, Reply, Tick, Lost}

-- a kind's number
abbrev pub record_number : RecordKind → ℕ
record_number Boot = 1
record_number Cut = 2
record_number Request = 3
record_number Reply = 4
record_number Tick = 5
record_number Lost = 6

abbrev pub all_kinds : List RecordKind
all_kinds = Boot ∷ Cut ∷ Request ∷ Reply ∷ Tick ∷ Lost ∷ []

-- the kind whose number this is
abbrev pub record_numbered : ℕ → Option RecordKind
record_numbered n = find (λ k. n == record_number k) all_kinds

-- a heap has four bytes, a message at most 384, and a reply 12 to 384
abbrev pub takes_size : RecordKind → ℕ → Bool
takes_size Boot size = size == 4
takes_size Cut size = size == 0
takes_size Request size = nat_le size 384
takes_size Reply size = nat_le 12 size && nat_le size 384
takes_size Tick size = size == 0
takes_size Lost size = size == 0

-- ---- how many bytes follow kind and size

-- of a kind, where it may have this size
abbrev pub size_of_kind : Option RecordKind → ℕ → ℕ
size_of_kind None size = 0
size_of_kind (Some kind) size = if takes_size kind size then size else 0

-- of the kind and the size at the front of bytes, where a record may have both, and none where it may not
abbrev pub size_after : List ℕ → ℕ
size_after head = size_of_kind (record_numbered (word_at head 0)) (word_at head 4)
