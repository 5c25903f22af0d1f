-- The words of messages on controls, ctrl_data, and what stands after them: values or a part of a blob.
use Rattle.std.specs.Prelude.{ℕ, zero, suc, ◌+◌, Bool, true, ◌&&◌, ◌||◌, List, [], ◌∷◌, ◌++◌, nat_le, ◌==◌}
use Rattle.sof_base.specs.Slots.{Slot, Word, Size, Raw, word_at, part}
use Rattle.sof_base.specs.declared.part.Part.{Part}
use Rattle.ipc3_model.specs.declared.control_kind.ControlKind.{ControlKind}
use Rattle.ipc3_model.specs.declared.control_kind.ControlKind.TheVariants.{GetValue, SetValue, GetData, SetData}
use Rattle.ipc3_model.specs.declared.control_kind.TheConstants.{VALUE_CHAN_GET, VALUE_CHAN_SET, DATA_GET, DATA_SET, CTRL_VOLUME, CTRL_ENUM, CTRL_SWITCH, CTRL_BINARY}
use Rattle.ipc3_model.specs.Places.{Place, any_word, any_words, any_bytes, word_of}
use Rattle.ipc3_model.specs.StreamWords.{host_buffer_slots}

-- the type word: VALUE_CHAN_GET 0, VALUE_CHAN_SET 1, DATA_GET 4, DATA_SET 5
abbrev pub type_of : ControlKind → ℕ
type_of GetValue = VALUE_CHAN_GET
type_of SetValue = VALUE_CHAN_SET
type_of GetData = DATA_GET
type_of SetData = DATA_SET

-- VOLUME 0, ENUM 1 or SWITCH 2 for values, BINARY 3 for parts
abbrev pub takes_command : ControlKind → ℕ → Bool
takes_command GetValue n = n == CTRL_VOLUME || n == CTRL_ENUM || n == CTRL_SWITCH
takes_command SetValue n = n == CTRL_VOLUME || n == CTRL_ENUM || n == CTRL_SWITCH
takes_command GetData n = n == CTRL_BINARY
takes_command SetData n = n == CTRL_BINARY

-- num_elems: 1 to 8 values, or 1 to 260 bytes; it is not looked at where they are asked for
abbrev pub takes_count : ControlKind → ℕ → Bool
takes_count GetValue n = true
takes_count SetValue n = nat_le 1 n && nat_le n 8
takes_count GetData n = true
takes_count SetData n = nat_le 1 n && nat_le n 260

-- elems_remaining: with the part's own bytes at most 992
abbrev pub takes_remaining : ControlKind → ℕ → ℕ → Bool
takes_remaining GetValue count n = true
takes_remaining SetValue count n = true
takes_remaining GetData count n = true
takes_remaining SetData count n = nat_le (n + count) 992

-- from the error on, 84 bytes: error, comp_id, type, cmd, index, a host buffer, num_elems, elems_remaining, msg_index and six reserved words
abbrev pub control_slots : Slot → Slot → ControlKind → Slot → Slot → Slot → Slot → List Slot
control_slots error id kind command count remaining index =
    error ∷ id ∷ Word (type_of kind) ∷ command ∷ Size 0
    ∷ (host_buffer_slots ++ count ∷ remaining ∷ index ∷ Size 0 ∷ Size 0 ∷ Size 0 ∷ Size 0 ∷ Size 0 ∷ Size 0 ∷ [])

-- the values of the channels from this one on: pairs of a channel and its value
abbrev pub value_slots : ℕ → List ℕ → List Slot
value_slots channel [] = []
value_slots channel (v ∷ vs) = Word channel ∷ Word v ∷ value_slots (channel + 1) vs

-- a part's payload: the blob's header and the part's bytes
abbrev pub part_slots : Part → List Slot
part_slots part = Raw part.header ∷ Raw part.bytes ∷ []

-- ---- places

-- the words after the type word, up to byte 92
abbrev pub control_rest_places : List ℕ → ControlKind → List Place
control_rest_places b kind =
    word_of b 20 (takes_command kind) ∷ any_words 24 8
    ++ word_of b 56 (takes_count kind) ∷ word_of b 60 (takes_remaining kind (word_at b 56)) ∷ any_words 64 7

-- the pairs from a place on, of channels from this one on
abbrev pub value_places : List ℕ → ℕ → ℕ → ℕ → List Place
value_places b channel at zero = []
value_places b channel at (suc n) = word_of b at (λ c. c == channel) ∷ any_word (at + 4) ∷ value_places b (channel + 1) (at + 8) n

-- what stands after byte 92: pairs, or eight words of a header and bytes that count as one word; nothing where it is asked for
abbrev pub payload_places : List ℕ → ControlKind → List Place
payload_places b GetValue = []
payload_places b SetValue = value_places b 0 92 (word_at b 56)
payload_places b GetData = []
payload_places b SetData = any_words 92 8 ++ any_bytes 124 (word_at b 56) ∷ []

-- all words of a message
abbrev pub control_places : List ℕ → ControlKind → List Place
control_places b kind =
    any_words 8 2 ++ word_of b 16 (λ n. n == type_of kind) ∷ (control_rest_places b kind ++ payload_places b kind)

-- ---- what the words are

-- so many values of pairs from a place on
abbrev pub pair_values_at : ℕ → List ℕ → ℕ → List ℕ
pair_values_at zero b at = []
pair_values_at (suc n) b at = word_at b (at + 4) ∷ pair_values_at n b (at + 8)

-- the values, and the part, that stand there
abbrev pub values_in : List ℕ → List ℕ
values_in b = pair_values_at (word_at b 56) b 92

abbrev pub part_in : List ℕ → Part
part_in b = record { header = part b 92 32; remaining = word_at b 60; index = word_at b 64; bytes = part b 124 (word_at b 56) }
