-- An equaliser's blob, after the standard's IIR configuration (SOF IPC3, ABI 3): the ABI header of 32 bytes, a head of 28, an
-- assignment for each channel, and responses, each a head of 24 bytes and its sections of 28. All of it is words of 32 bits.
use Rattle.std.specs.Prelude.{ℕ, zero, suc, ◌+◌, ◌*◌, List, Bool, ◌&&◌, nat_le, ℤ, pos, negsuc, int_le, int_lt}
use Rattle.std.specs.Int.{w32, cast_signed}
use Rattle.sof_base.specs.Slots.{word_at}
use Rattle.sof_base.specs.Equations.{Section}

-- Reserved words, the header's type and abi and the head's size are not looked at: nothing restricts them.

-- ---- the ranges

-- a number from 1 to 8
abbrev pub is_count : ℕ → Bool
is_count n = nat_le 1 n && nat_le n 8

-- -1, or the number of one of n responses
abbrev pub is_assignment : ℕ → ℤ → Bool
is_assignment n assignment = int_le (negsuc 0) assignment && int_lt assignment (pos n)

-- -13 to 31
abbrev pub is_shift : ℤ → Bool
is_shift shift = int_le (negsuc 12) shift && int_le shift (pos 31)

-- ---- where the parts of a blob lie

-- the signed number at a place
abbrev pub signed_at : List ℕ → ℕ → ℤ
signed_at b place = cast_signed w32 (word_at b place)

-- how many channels have an assignment, and how many responses there are
abbrev pub blob_channels : List ℕ → ℕ
blob_channels b = word_at b 36

abbrev pub blob_responses : List ℕ → ℕ
blob_responses b = word_at b 40

-- the response of a channel
abbrev pub assignment_at : List ℕ → ℕ → ℤ
assignment_at b channel = signed_at b (60 + 4 * channel)

-- the place of a response: after the assignments and the responses before it, 24 bytes of head and 28 for each section
abbrev pub response_at : List ℕ → ℕ → ℕ
response_at b zero = 60 + 4 * blob_channels b
response_at b (suc r) = response_at b r + 24 + 28 * word_at b (response_at b r)

-- how many sections it has
abbrev pub section_count : List ℕ → ℕ → ℕ
section_count b r = word_at b (response_at b r)

-- the place of a section of it
abbrev pub section_place : List ℕ → ℕ → ℕ → ℕ
section_place b r s = response_at b r + 24 + 28 * s

-- the section at a place
abbrev pub section_at : List ℕ → ℕ → Section
section_at b place = record {
  a2 = signed_at b place;
  a1 = signed_at b (place + 4);
  b2 = signed_at b (place + 8);
  b1 = signed_at b (place + 12);
  b0 = signed_at b (place + 16);
  shift = signed_at b (place + 20);
  gain = signed_at b (place + 24);
}
