-- The fields of a record, one after the other: how each is spelled, and where it stands.
use Rattle.std.specs.Prelude.{ℕ, zero, suc, ◌+◌, ◌-◌, ◌<◌, ◌^◌, Bool, true, false, ◌&&◌, not, nat_lt, List, [], ◌∷◌, ◌++◌, length, take, drop}
use Rattle.std.specs.Int.{w16, w32, w64, from_le_bytes, to_le_bytes}
use Rattle.sof_base.specs.Cells.{Cell, fixed, loose}

-- a u32, a u16, a u64, a size word that is ignored on reading, a name of 44 bytes, u32 words, bytes, bytes that are ignored on reading
pub data Slot : Type 0 where
  Word : ℕ → Slot
  Half : ℕ → Slot
  Long : ℕ → Slot
  Size : ℕ → Slot
  Label : List ℕ → Slot
  Words : List ℕ → Slot
  Raw : List ℕ → Slot
  Spare : List ℕ → Slot

-- so many zeros
abbrev pub zeros : ℕ → List ℕ
zeros zero = []
zeros (suc n) = 0 ∷ zeros n

-- each word in four bytes, the low one first
unfoldable pub words_bytes : List ℕ → List ℕ
words_bytes [] = []
words_bytes (n ∷ ns) = to_le_bytes w32 n ++ words_bytes ns

-- how a field is spelled
unfoldable pub slot_cells : Slot → List Cell
slot_cells (Word n) = fixed (to_le_bytes w32 n)
slot_cells (Half n) = fixed (to_le_bytes w16 n)
slot_cells (Long n) = fixed (to_le_bytes w64 n)
slot_cells (Size n) = loose (to_le_bytes w32 n)
slot_cells (Label name) = fixed (name ++ 0 ∷ []) ++ loose (zeros (43 - length name))
slot_cells (Words ns) = fixed (words_bytes ns)
slot_cells (Raw bytes) = fixed bytes
slot_cells (Spare bytes) = loose bytes

-- and fields, one after the other
unfoldable pub slots_cells : List Slot → List Cell
slots_cells [] = []
slots_cells (s ∷ ss) = slot_cells s ++ slots_cells ss

-- no byte of a name is 0
unfoldable pub NoZero : List ℕ → Type 0
NoZero [] = Unit {0}
NoZero (b ∷ bs) = (0 < b) × NoZero bs

-- at most 43 bytes, none of them 0
abbrev pub IsName : List ℕ → Type 0
IsName name = (length name < 44) × NoZero name

-- the bytes before the first 0
unfoldable pub until_zero : List ℕ → List ℕ
until_zero [] = []
until_zero (zero ∷ bs) = []
until_zero (suc b ∷ bs) = suc b ∷ until_zero bs

-- some byte is 0
unfoldable pub has_zero : List ℕ → Bool
has_zero [] = false
has_zero (zero ∷ bs) = true
has_zero (suc b ∷ bs) = has_zero bs

-- whether bytes are a name
abbrev pub is_name : List ℕ → Bool
is_name name = nat_lt (length name) 44 && not (has_zero name)

-- each fits four bytes
unfoldable pub AreWords : List ℕ → Type 0
AreWords [] = Unit {0}
AreWords (n ∷ ns) = (n < 2 ^ 32) × AreWords ns

-- the value that a field carries fits it
unfoldable pub IsSlot : Slot → Type 0
IsSlot (Word n) = n < 2 ^ 32
IsSlot (Half n) = n < 2 ^ 16
IsSlot (Long n) = n < 2 ^ 64
IsSlot (Label name) = IsName name
IsSlot (Words ns) = AreWords ns
IsSlot _ = Unit {0}

-- and those of fields
unfoldable pub AreSlots : List Slot → Type 0
AreSlots [] = Unit {0}
AreSlots (s ∷ ss) = IsSlot s × AreSlots ss

-- ---- reading

-- n bytes from a place on, fewer where the bytes end
abbrev pub part : List ℕ → ℕ → ℕ → List ℕ
part bytes at n = take n (drop at bytes)

-- the little-endian number of four bytes from a place on; zeros stand past the end
unfoldable pub word_at : List ℕ → ℕ → ℕ
word_at bytes at = from_le_bytes w32 (part bytes at 4)

-- of two
unfoldable pub half_at : List ℕ → ℕ → ℕ
half_at bytes at = from_le_bytes w16 (part bytes at 2)

-- these have a 0
unfoldable pub has_name : List ℕ → ℕ → Bool
has_name bytes at = has_zero (part bytes at 44)
