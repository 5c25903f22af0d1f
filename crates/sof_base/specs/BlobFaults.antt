-- Why bytes are no blob: the tests that they have to pass, in the order in which they are read, each with the fault of bytes that
-- fail it.
use Rattle.std.specs.Prelude.{ℕ, ◌+◌, ◌-◌, ◌*◌, List, [], ◌∷◌, ◌++◌, length, Bool, ◌&&◌, ◌==◌, nat_le, Option, Some, None, is_none, if◌then◌else◌}
use Rattle.std.specs.List.{flat_map, range_with_len}
use Rattle.sof_base.specs.Slots.{word_at}
use Rattle.sof_base.specs.Blob.{is_count, is_assignment, is_shift, signed_at, blob_channels, blob_responses, assignment_at, response_at, section_count, section_place}

-- an assignment by its channel, section counts by their response, a shift by response and section
pub data BlobFault : Type 0 where
  Size : BlobFault
  Magic : BlobFault
  HeaderSize : BlobFault
  Channels : BlobFault
  Responses : BlobFault
  Assignment : ℕ → BlobFault
  Sections : ℕ → BlobFault
  Shift : ℕ → ℕ → BlobFault
  Length : BlobFault

-- a fault, and whether bytes are without it
abbrev pub BlobTest : Type 0
BlobTest = BlobFault × Bool

-- the fault of the first test that fails
abbrev pub first_fault : List BlobTest → Option BlobFault
first_fault [] = None
first_fault (test ∷ tests) = if test.1 then first_fault tests else Some test.0

-- the bytes do not end before this place
abbrev pub reach : List ℕ → ℕ → BlobTest
reach b end = (Length, nat_le end (length b))

-- ---- the tests

-- the header, of which the magic word is "SOF" and a zero, and the head
abbrev pub head_tests : List ℕ → List BlobTest
head_tests b =
    (Size, nat_le 60 (length b) && nat_le (length b) 1024)
    ∷ (Magic, word_at b 0 == 4607827)
    ∷ (HeaderSize, word_at b 8 == length b - 32)
    ∷ (Channels, is_count (blob_channels b))
    ∷ (Responses, is_count (blob_responses b))
    ∷ []

-- a channel's assignment
abbrev pub assignment_tests : List ℕ → ℕ → List BlobTest
assignment_tests b channel =
    reach b (60 + 4 * channel + 4)
    ∷ (Assignment channel, is_assignment (blob_responses b) (assignment_at b channel))
    ∷ []

-- a section
abbrev pub section_tests : List ℕ → ℕ → ℕ → List BlobTest
section_tests b response section =
    reach b (section_place b response section + 28)
    ∷ (Shift response section, is_shift (signed_at b (section_place b response section + 20)))
    ∷ []

-- the head of a response: both of its counts
abbrev pub counts_tests : List ℕ → ℕ → List BlobTest
counts_tests b response =
    reach b (response_at b response + 24)
    ∷ (Sections response, is_count (section_count b response) && word_at b (response_at b response + 4) == section_count b response)
    ∷ []

-- a response: its head, and then its sections
abbrev pub response_tests : List ℕ → ℕ → List BlobTest
response_tests b response =
    counts_tests b response ++ flat_map (section_tests b response) (range_with_len 0 (section_count b response))

-- all of them
abbrev pub blob_tests : List ℕ → List BlobTest
blob_tests b =
    head_tests b
    ++ (flat_map (assignment_tests b) (range_with_len 0 (blob_channels b))
    ++ flat_map (response_tests b) (range_with_len 0 (blob_responses b)))

-- ---- faults

-- the first fault of bytes, none where they are a blob
unfoldable pub blob_fault : List ℕ → Option BlobFault
blob_fault b = first_fault (blob_tests b)

-- the number of a fault
abbrev pub fault_number : BlobFault → ℕ
fault_number Size = 1
fault_number Magic = 2
fault_number HeaderSize = 3
fault_number Channels = 4
fault_number Responses = 5
fault_number (Assignment channel) = 6
fault_number (Sections response) = 7
fault_number (Shift response section) = 8
fault_number Length = 9

-- whether they are a blob
abbrev pub is_blob : List ℕ → Bool
is_blob b = is_none (blob_fault b)
