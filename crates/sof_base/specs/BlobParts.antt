-- A blob of an equaliser, word by word.
use Rattle.std.specs.Prelude.{◌≡◌, ℕ, ◌+◌, ◌-◌, ◌≤◌, List, [], ◌∷◌, ◌++◌, length, true, ℤ}
use Rattle.std.specs.Int.{w32, cast_signed}
use Rattle.std.specs.List.{AllByRecursion, flat_map}
use Rattle.sof_base.specs.Slots.{AreWords, words_bytes}
use Rattle.sof_base.specs.Blob.{is_count, is_assignment, is_shift}

-- the magic word, "SOF" and a zero
abbrev pub blob_magic : ℕ
blob_magic = 4607827

-- a word as a signed number
abbrev pub signed : ℕ → ℤ
signed word = cast_signed w32 word

-- a section: its coefficients, shift and gain
pub record SectionFields : Type 0 where
  pub a2 : ℕ
  pub a1 : ℕ
  pub b2 : ℕ
  pub b1 : ℕ
  pub b0 : ℕ
  pub shift : ℕ
  pub gain : ℕ

-- a response: four reserved words, and its sections, all of them in series
pub record ResponseFields : Type 0 where
  pub reserved : List ℕ
  pub sections : List SectionFields

-- a blob: of the header its type, its abi and four reserved words; of the head its size and four reserved words; the number of
-- each channel's response, -1 for none; and the responses
pub record BlobFields : Type 0 where
  pub kind : ℕ
  pub abi : ℕ
  pub header_reserved : List ℕ
  pub head_size : ℕ
  pub head_reserved : List ℕ
  pub assignments : List ℕ
  pub responses : List ResponseFields

abbrev pub section_words : SectionFields → List ℕ
section_words s = s.a2 ∷ s.a1 ∷ s.b2 ∷ s.b1 ∷ s.b0 ∷ s.shift ∷ s.gain ∷ []

-- the number of sections, how many are in series, the reserved words, and the sections
abbrev pub response_words : ResponseFields → List ℕ
response_words r = length r.sections ∷ length r.sections ∷ (r.reserved ++ flat_map section_words r.sections)

-- of a blob with so many bytes after its header
abbrev pub blob_words : ℕ → BlobFields → List ℕ
blob_words size f =
    blob_magic ∷ f.kind ∷ size ∷ f.abi
    ∷ (f.header_reserved ++ (f.head_size ∷ length f.assignments ∷ length f.responses
    ∷ (f.head_reserved ++ (f.assignments ++ flat_map response_words f.responses))))

pub record IsResponse (r : ResponseFields) : Type 0 where
  pub reserved : length r.reserved ≡ 4
  pub count : is_count (length r.sections) ≡ true
  pub shifts : AllByRecursion (λ s. is_shift (signed s.shift) ≡ true) r.sections

pub record AreBlobFields (f : BlobFields) : Type 0 where
  pub header_reserved : length f.header_reserved ≡ 4
  pub head_reserved : length f.head_reserved ≡ 4
  pub channels : is_count (length f.assignments) ≡ true
  pub count : is_count (length f.responses) ≡ true
  pub assignments : AllByRecursion (λ a. is_assignment (length f.responses) (signed a) ≡ true) f.assignments
  pub responses : AllByRecursion IsResponse f.responses

-- 60 to 1024 bytes are a blob: the words of such fields, joined, and then any rest
pub record IsBlob (b : List ℕ) : Type 0 where
  pub fields : BlobFields
  pub rest : List ℕ
  pub spelling : b ≡ words_bytes (blob_words (length b - 32) fields) ++ rest
  pub words : AreWords (blob_words (length b - 32) fields)
  pub in_range : AreBlobFields fields
  pub size : (60 ≤ length b) × (length b ≤ 1024)
