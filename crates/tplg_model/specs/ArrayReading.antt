-- How bytes are read as vendor arrays, from left to right.
use Rattle.std.specs.Prelude.{◌≡◌, ℕ, zero, suc, ◌+◌, ◌==◌, if◌then◌else◌, List, [], ◌∷◌, ◌++◌, length, drop, Option, Some, None, Result, Ok, Err}
use Rattle.sof_base.specs.Slots.{part, word_at}
use Rattle.tplg_model.specs.declared.array_type.TheConstants.{UUID, STRING}
use Rattle.tplg_model.specs.declared.tokens.UuidTuple.{UuidTuple}
use Rattle.tplg_model.specs.declared.tokens.TextTuple.{TextTuple}
use Rattle.tplg_model.specs.declared.tokens.NumberTuple.{NumberTuple}
use Rattle.tplg_model.specs.declared.tokens.TokenArray.{TokenArray}
use Rattle.tplg_model.specs.declared.tokens.TokenArray.TheVariants.{Uuid, Text, Number}
use Rattle.tplg_model.specs.Arrays.{arrays_spelling, ArrayFault, array_fault}

-- bytes are these arrays
abbrev pub AreArraysOf : List ℕ → List TokenArray → Type 0
AreArraysOf bytes arrays = bytes ≡ arrays_spelling arrays

-- a number of elements of a size, from a place on
unfoldable pub elements_at : {A : Type 0} → ℕ → (List ℕ → ℕ → A) → ℕ → List ℕ → ℕ → List A
elements_at size element zero bytes at = []
elements_at size element (suc n) bytes at = element bytes at ∷ elements_at size element n bytes (at + size)

-- the UUID's element at a place
abbrev pub uuid_at : List ℕ → ℕ → UuidTuple
uuid_at bytes at = record { token = word_at bytes at; bytes = part bytes (at + 4) 16 }

-- the text's element at a place
abbrev pub text_at : List ℕ → ℕ → TextTuple
text_at bytes at = record { token = word_at bytes at; bytes = part bytes (at + 4) 44 }

-- the number's element at a place
abbrev pub number_tuple_at : List ℕ → ℕ → NumberTuple
number_tuple_at bytes at = record { token = word_at bytes at; value = word_at bytes (at + 4) }

-- the array of a type with a number of elements at the front of bytes
abbrev pub array_with : ℕ → ℕ → List ℕ → TokenArray
array_with kind count bytes =
    if kind == UUID then Uuid (elements_at 20 uuid_at count bytes 12)
    else if kind == STRING then Text (elements_at 48 text_at count bytes 12)
    else Number (record { kind = kind; items = elements_at 8 number_tuple_at count bytes 12 })

-- the array at the front of bytes that have no fault there
unfoldable pub array_at : List ℕ → TokenArray
array_at bytes = array_with (word_at bytes 4) (word_at bytes 8) bytes

-- a fault where there is one, and else what is read so
abbrev pub unless : Option ArrayFault → Result (List TokenArray) ArrayFault → Result (List TokenArray) ArrayFault
unless (Some fault) read = Err fault
unless None read = read

-- what is read, with arrays in front
abbrev pub with_front : List TokenArray → Result (List TokenArray) ArrayFault → Result (List TokenArray) ArrayFault
with_front front (Ok arrays) = Ok (front ++ arrays)
with_front front (Err fault) = Err fault

-- arrays up to the end of bytes that begin at a place; the first number is at least that of the bytes
unfoldable pub arrays_from : ℕ → ℕ → List ℕ → Result (List TokenArray) ArrayFault
arrays_from zero at bytes = Ok []
arrays_from (suc n) at bytes =
    if length bytes == 0 then Ok []
    else unless (array_fault at bytes) (with_front (array_at bytes ∷ []) (arrays_from n (at + word_at bytes 0) (drop (word_at bytes 0) bytes)))

-- the arrays that bytes are, or the first fault
unfoldable pub arrays_of : List ℕ → Result (List TokenArray) ArrayFault
arrays_of bytes = arrays_from (length bytes) 0 bytes
