-- The slots of a desk in memory that are open, and what is still to be read of them.
use Rattle.std.specs.Prelude.{ℕ, Bool, nat_eq, nat_lt, ◌+◌, ◌||◌, List, [], length, drop, find, slice_get, Option, is_some, option_map, unwrap_or}
use Rattle.sof_desk.specs.declared.calls.TheConstants.{SLOTS}
use Rattle.sof_desk.specs.declared.open_slot.OpenSlot.{OpenSlot}
use Rattle.sof_desk.specs.Edits.{changed_first, put_first}
use Rattle.sof_desk.specs.HeldFiles.{HeldFile, loaded_of}

-- whether a slot is this one
abbrev pub is_under : ℕ → OpenSlot → Bool
is_under slot o = nat_eq o.slot slot

-- whether a slot is open
abbrev pub is_opened : ℕ → List OpenSlot → Bool
is_opened slot opens = is_some (find (is_under slot) opens)

-- whether a slot can be opened: it is open, or there is room for one more
abbrev pub can_open : ℕ → List OpenSlot → Bool
can_open slot opens = is_opened slot opens || nat_lt (length opens) SLOTS

-- the open slots after a slot was opened at the place of a file
abbrev pub with_opened : (slot place : ℕ) → List OpenSlot → List OpenSlot
with_opened slot place opens = put_first (is_under slot) (record { slot = slot; place = place; position = 0 }) opens

-- an open slot of which so many bytes more were read
abbrev pub read_on : ℕ → OpenSlot → OpenSlot
read_on count o = record o { position = o.position + count }

-- the open slots after so many bytes were read of one
abbrev pub with_read : (slot count : ℕ) → List OpenSlot → List OpenSlot
with_read slot count opens = changed_first (is_under slot) (read_on count) opens

-- the bytes that are read of the file at a place: those that a load gives
abbrev pub read_of : Option HeldFile → List ℕ
read_of file = unwrap_or (loaded_of file) []

-- what is still to be read of an open slot: the bytes after those that were read
abbrev pub rest_after : List HeldFile → OpenSlot → List ℕ
rest_after files o = drop o.position (read_of (slice_get files o.place))

-- what is still to be read of a slot, where it is open
abbrev pub left_under : ℕ → List OpenSlot → List HeldFile → Option (List ℕ)
left_under slot opens files = option_map (rest_after files) (find (is_under slot) opens)
