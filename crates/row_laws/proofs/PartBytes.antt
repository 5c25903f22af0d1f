-- The bytes of a part: joined to others, and as they stand in the bytes of a message.
use Rattle.std.proofs.Common.{subst, ℕ, zero, suc, List, [], ◌∷◌, ◌++◌, take, length, arith}
use Rattle.sof_base.specs.Cells.{Fits, fixed}
use Rattle.sof_base.specs.Slots.{Slot, Word, Size, Raw, slot_cells, slots_cells}
use Rattle.sof_base.proofs.FieldLaws.{IsBytes, IsBytes-take}
use Rattle.sof_base.proofs.Fitting.{Fits-split, is_fixed}
use Rattle.ipc3_model.specs.declared.control_kind.ControlKind.TheVariants as kinds
use Rattle.ipc3_model.specs.declared.control_kind.TheConstants.{CTRL_BINARY}
use Rattle.ipc3_model.specs.declared.message.Message.{Message}
use Rattle.ipc3_model.specs.declared.message.Message.TheVariants as messages
use Rattle.ipc3_model.specs.Commands.{command_number}
use Rattle.ipc3_model.specs.ControlWords.{control_slots, part_slots}
use Rattle.ipc3_model.specs.Messages.{size_of, command_of}
use Rattle.ipc3_model.specs.Meanings.{Means}
use Rattle.row_laws.specs.RowLaws.{HasBytes}

-- ---- lists of bytes

pub bytes-append : (xs ys : List ℕ) → IsBytes xs → IsBytes ys → IsBytes (xs ++ ys)
bytes-append [] ys first second i = second i
bytes-append (x ∷ xs) ys first second zero = first 0
bytes-append (x ∷ xs) ys first second (suc i) = bytes-append xs ys (λ j. first (suc j)) second i

bytes-first : (xs ys : List ℕ) → IsBytes (xs ++ ys) → IsBytes xs
bytes-first [] ys all i = omega arith
bytes-first (x ∷ xs) ys all zero = all 0
bytes-first (x ∷ xs) ys all (suc i) = bytes-first xs ys (λ j. all (suc j)) i

bytes-second : (xs ys : List ℕ) → IsBytes (xs ++ ys) → IsBytes ys
bytes-second [] ys all i = all i
bytes-second (x ∷ xs) ys all i = bytes-second xs ys (λ j. all (suc j)) i

-- ---- what a message carries

-- bytes that fit some fields are bytes
record AreBehind (ss : List Slot) : Type 0 where
  rest : List ℕ
  bytes : IsBytes rest
  fits : Fits rest (slots_cells ss)

-- what stands after some fields
behind : (b : List ℕ) (ss ts : List Slot) → IsBytes b → Fits b (slots_cells (ss ++ ts)) → AreBehind ts
unfolding slots_cells
behind b [] ts bytes fits = record { rest = b; bytes = bytes; fits = fits }
behind b (s ∷ ss) ts bytes fits =
    let split = Fits-split b (slot_cells s) (slots_cells (ss ++ ts)) fits in
    behind split.second ss ts (bytes-second split.first split.second (subst IsBytes split.whole bytes)) split.fits_second

-- the first of some fields, where it is bytes
raw-first : (raw : List ℕ) (ts : List Slot) → AreBehind (Raw raw ∷ ts) → IsBytes raw
unfolding slots_cells slot_cells
raw-first raw ts at =
    let split = Fits-split at.rest (fixed raw) (slots_cells ts) at.fits in
    subst IsBytes (is_fixed split.first raw split.fits_first) (bytes-first split.first split.second (subst IsBytes split.whole at.bytes))

pub means-bytes : (b : List ℕ) (m : Message) → IsBytes b → Means b m → HasBytes m
means-bytes b (messages.SetData id part) bytes means = (raw-first part.header (Raw part.bytes ∷ []) here, raw-first part.bytes [] (behind here.rest (Raw part.header ∷ []) (Raw part.bytes ∷ []) here.bytes here.fits))
  where
    here : AreBehind (part_slots part)
    here =
        behind (take (size_of (messages.SetData id part)) b)
        (Size (size_of (messages.SetData id part)) ∷ Word (command_number (command_of (messages.SetData id part))) ∷ control_slots (Size 0) (Word id) kinds.SetData (Word CTRL_BINARY) (Word (length part.bytes)) (Word part.remaining) (Word part.index))
        (part_slots part) (IsBytes-take (size_of (messages.SetData id part)) b bytes) means.fits
means-bytes b m bytes means = tt
