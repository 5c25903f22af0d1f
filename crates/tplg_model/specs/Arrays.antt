-- The vendor arrays of a widget's private data, after the ALSA topology structures (ABI 5): which bytes they are, and which
-- fault of bytes is the first.
use Rattle.std.specs.Prelude.{◌≡◌, ℕ, ◌+◌, ◌*◌, ◌<◌, ◌≤◌, ◌^◌, ◌==◌, nat_lt, if◌then◌else◌, List, [], ◌∷◌, ◌++◌, length, Option, Some, None}
use Rattle.std.specs.List.{flat_map}
use Rattle.std.specs.Int.{w32, to_le_bytes}
use Rattle.sof_base.specs.Slots.{word_at}
use Rattle.tplg_model.specs.declared.array_type.TheConstants.{UUID, STRING, BOOL, SHORT}
use Rattle.tplg_model.specs.declared.tokens.UuidTuple.{UuidTuple}
use Rattle.tplg_model.specs.declared.tokens.TextTuple.{TextTuple}
use Rattle.tplg_model.specs.declared.tokens.NumberTuple.{NumberTuple}
use Rattle.tplg_model.specs.declared.tokens.TokenArray.{TokenArray}
use Rattle.tplg_model.specs.declared.tokens.TokenArray.TheVariants.{Uuid, Text, Number}

-- the bytes of an element by its array's type: a token of 4, and 16 of a UUID, 44 of a text or 4 of a number
abbrev pub element_size : ℕ → ℕ
element_size kind = if kind == UUID then 20 else if kind == STRING then 48 else 8

-- an array's type
abbrev pub array_type : TokenArray → ℕ
array_type (Uuid items) = UUID
array_type (Text items) = STRING
array_type (Number numbers) = numbers.kind

-- an array's number of elements
abbrev pub count_of : TokenArray → ℕ
count_of (Uuid items) = length items
count_of (Text items) = length items
count_of (Number numbers) = length numbers.items

-- an array's bytes: three words, and its elements
abbrev pub array_size : TokenArray → ℕ
array_size a = 12 + count_of a * element_size (array_type a)

-- a UUID's element: its token and 16 bytes
abbrev pub uuid_spelling : UuidTuple → List ℕ
uuid_spelling t = to_le_bytes w32 t.token ++ t.bytes

-- a text's element: its token and 44 bytes
abbrev pub text_spelling : TextTuple → List ℕ
text_spelling t = to_le_bytes w32 t.token ++ t.bytes

-- a number's element: its token and the number
abbrev pub number_spelling : NumberTuple → List ℕ
number_spelling t = to_le_bytes w32 t.token ++ to_le_bytes w32 t.value

-- an array's elements, one after the other
abbrev pub elements_spelling : TokenArray → List ℕ
elements_spelling (Uuid items) = flat_map uuid_spelling items
elements_spelling (Text items) = flat_map text_spelling items
elements_spelling (Number numbers) = flat_map number_spelling numbers.items

-- an array: its size, its type, its number of elements, and its elements
unfoldable pub array_spelling : TokenArray → List ℕ
array_spelling a = to_le_bytes w32 (array_size a) ++ (to_le_bytes w32 (array_type a) ++ (to_le_bytes w32 (count_of a) ++ elements_spelling a))

-- arrays, one after the other
abbrev pub arrays_spelling : List TokenArray → List ℕ
arrays_spelling arrays = flat_map array_spelling arrays

-- ---- the values of the program

-- each item of a list is so
unfoldable pub Each : {A : Type 0} → (A → Type 0) → List A → Type 0
Each Is [] = Unit {0}
Each Is (x ∷ xs) = Is x × Each Is xs

-- a UUID's element of the program
abbrev pub IsUuid : UuidTuple → Type 0
IsUuid t = (t.token < 2 ^ 32) × (length t.bytes ≡ 16)

-- a text's element of the program
abbrev pub IsText : TextTuple → Type 0
IsText t = (t.token < 2 ^ 32) × (length t.bytes ≡ 44)

-- a number's element of the program
abbrev pub IsNumber : NumberTuple → Type 0
IsNumber t = (t.token < 2 ^ 32) × (t.value < 2 ^ 32)

-- an array's elements are the program's, and an array of numbers is of type 2 to 5
abbrev pub HasElements : TokenArray → Type 0
HasElements (Uuid items) = Each IsUuid items
HasElements (Text items) = Each IsText items
HasElements (Number numbers) = (BOOL ≤ numbers.kind) × (numbers.kind ≤ SHORT) × Each IsNumber numbers.items

-- an array of the program: its size fits its word
pub record IsArray (a : TokenArray) : Type 0 where
  pub size : array_size a < 2 ^ 32
  pub elements : HasElements a

-- arrays of the program
abbrev pub AreArrays : List TokenArray → Type 0
AreArrays arrays = Each IsArray arrays

-- ---- faults

-- what is wrong with an array, with the place of its first byte: bytes are missing, its size word is wrong, or its type is unknown
pub data ArrayFault : Type 0 where
  Too_short : ℕ → ArrayFault
  Wrong_size : ℕ → ArrayFault
  Unknown_type : ℕ → ℕ → ArrayFault

-- what is wrong with the array at the front of bytes that begin at a place: the first of four faults
abbrev pub array_fault : ℕ → List ℕ → Option ArrayFault
array_fault at bytes =
    if nat_lt (length bytes) 12 then Some (Too_short at)
    else if nat_lt SHORT (word_at bytes 4) then Some (Unknown_type at (word_at bytes 4))
    else if word_at bytes 0 == 12 + word_at bytes 8 * element_size (word_at bytes 4) then
    (if nat_lt (length bytes) (word_at bytes 0) then Some (Too_short at) else None)
    else Some (Wrong_size at)

-- bytes are whole arrays, and then an array with this fault
abbrev pub IsTokenFault : List ℕ → ArrayFault → Type 0
IsTokenFault bytes fault =
    (arrays : List TokenArray) × (rest : List ℕ) × (bytes ≡ arrays_spelling arrays ++ rest) × AreArrays arrays × (0 < length rest)
    × (array_fault (length (arrays_spelling arrays)) rest ≡ Some fault)
