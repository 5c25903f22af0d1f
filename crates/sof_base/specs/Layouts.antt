-- Kinds of fields, read and written one after the other.
use Rattle.std.specs.Prelude.{ℕ, ◌+◌, ◌*◌, Bool, true, ◌&&◌, List, [], ◌∷◌, ◌++◌, length, zero, suc}
use Rattle.sof_base.specs.Cells.{Cell, written}
use Rattle.sof_base.specs.Slots.{Slot, slot_cells, part, word_at, half_at, has_name, Word, Half, Long, Size, Label, Words, Raw, Spare, until_zero}
use Rattle.std.specs.Int.{w64, from_le_bytes}

-- of eight
unfoldable pub long_at : List ℕ → ℕ → ℕ
long_at bytes at = from_le_bytes w64 (part bytes at 8)

-- the name in the 44 bytes from a place on
unfoldable pub name_at : List ℕ → ℕ → List ℕ
name_at bytes at = until_zero (part bytes at 44)

-- n words of four bytes from a place on
unfoldable pub words_at : ℕ → List ℕ → ℕ → List ℕ
words_at zero bytes at = []
words_at (suc n) bytes at = word_at bytes at ∷ words_at n bytes (at + 4)

-- bytes, and a field after them
unfoldable pub wrote : List ℕ → Slot → List ℕ
wrote out s = out ++ written (slot_cells s)

-- and fields
abbrev pub wrote_all : List ℕ → List Slot → List ℕ
wrote_all out [] = out
wrote_all out (s ∷ ss) = wrote_all (wrote out s) ss

-- bytes, and cells after them
unfoldable pub wrote_part : List ℕ → List Cell → List ℕ
wrote_part out cells = out ++ written cells

-- the kinds of fields
pub data Shape : Type 0 where
  A_word : Shape
  A_half : Shape
  A_long : Shape
  A_size : ℕ → Shape
  A_name : Shape
  A_words : ℕ → Shape
  Bytes : ℕ → Shape
  A_spare : List ℕ → Shape

-- how many bytes it has
abbrev pub shape_width : Shape → ℕ
shape_width A_word = 4
shape_width A_half = 2
shape_width A_long = 8
shape_width (A_size n) = 4
shape_width A_name = 44
shape_width (A_words n) = 4 * n
shape_width (Bytes n) = n
shape_width (A_spare bytes) = length bytes

-- the field that lies at a place
abbrev pub slot_at : Shape → List ℕ → ℕ → Slot
slot_at A_word bytes at = Word (word_at bytes at)
slot_at A_half bytes at = Half (half_at bytes at)
slot_at A_long bytes at = Long (long_at bytes at)
slot_at (A_size n) bytes at = Size n
slot_at A_name bytes at = Label (name_at bytes at)
slot_at (A_words n) bytes at = Words (words_at n bytes at)
slot_at (Bytes n) bytes at = Raw (part bytes at n)
slot_at (A_spare spare) bytes at = Spare spare

-- a name there has a 0
abbrev pub name_ends : Shape → List ℕ → ℕ → Bool
name_ends A_word bytes at = true
name_ends A_half bytes at = true
name_ends A_long bytes at = true
name_ends (A_size n) bytes at = true
name_ends A_name bytes at = has_name bytes at
name_ends (A_words n) bytes at = true
name_ends (Bytes n) bytes at = true
name_ends (A_spare spare) bytes at = true

-- the bytes of fields, one after the other
abbrev pub widths : List Shape → ℕ
widths [] = 0
widths (s ∷ ss) = shape_width s + widths ss

-- the fields from a place and an offset on
abbrev pub slots_from : List Shape → List ℕ → ℕ → ℕ → List Slot
slots_from [] bytes at off = []
slots_from (s ∷ ss) bytes at off = slot_at s bytes (at + off) ∷ slots_from ss bytes at (off + shape_width s)

-- each name has a 0
abbrev pub all_named : List Shape → List ℕ → ℕ → ℕ → Bool
all_named [] bytes at off = true
all_named (s ∷ ss) bytes at off = name_ends s bytes (at + off) && all_named ss bytes at (off + shape_width s)

-- the kind of a field
abbrev pub shape_of : Slot → Shape
shape_of (Word n) = A_word
shape_of (Half n) = A_half
shape_of (Long n) = A_long
shape_of (Size n) = A_size n
shape_of (Label name) = A_name
shape_of (Words ns) = A_words (length ns)
shape_of (Raw bytes) = Bytes (length bytes)
shape_of (Spare bytes) = A_spare bytes

-- and of fields
abbrev pub shapes_of : List Slot → List Shape
shapes_of [] = []
shapes_of (s ∷ ss) = shape_of s ∷ shapes_of ss
