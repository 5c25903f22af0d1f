-- What fits a payload's size word fits the size words in it.
use Rattle.std.proofs.Common.{◌≡◌, ℕ, ◌<◌, ◌≤◌, List, [], ◌∷◌, ◌++◌, length, get_or, zero, suc, arith, length-append}
use Rattle.std.proofs.lemmas.List.{length-map}
use Rattle.sof_base.specs.Cells.{Cell, fixed, written, byte_of}
use Rattle.sof_base.specs.Slots.{Slot, Raw, slot_cells, slots_cells}
use Rattle.sof_base.proofs.FieldLaws.{length-fixed}
use Rattle.tplg_model.specs.Spelling.{items_cells, joined_cells}

-- bytes among fields
pub raw_among : (front : List Slot) (bytes : List ℕ) (rest : List Slot) → length bytes ≤ length (slots_cells (front ++ Raw bytes ∷ rest))
unfolding slots_cells slot_cells
raw_among [] bytes rest = omega (arith, length-append (fixed bytes) (slots_cells rest), length-fixed bytes)
raw_among (s ∷ front) bytes rest = omega (arith, raw_among front bytes rest, length-append (slot_cells s) (slots_cells (front ++ Raw bytes ∷ rest)))

-- a part among parts
pub part_among : (front : List (List Cell)) (part : List Cell) (rest : List (List Cell)) → length part ≤ length (joined_cells (front ++ part ∷ rest))
part_among [] part rest = omega (arith, length-append part (joined_cells rest))
part_among (c ∷ front) part rest = omega (arith, part_among front part rest, length-append c (joined_cells (front ++ part ∷ rest)))

-- an item among items
module _ {A : Type 0} (cells : A → List Cell) where
  pub item_among : (xs : List A) (i : ℕ) (d : A) → i < length xs → length (cells (get_or xs i d)) ≤ length (items_cells cells xs)
  unfolding items_cells
  item_among [] i d lt = absurd (omega arith)
  item_among (x ∷ xs) zero d lt = omega (arith, length-append (cells x) (items_cells cells xs))
  item_among (x ∷ xs) (suc i) d lt = omega (arith, item_among xs i d (omega arith), length-append (cells x) (items_cells cells xs))

pub length_written : (cells : List Cell) → length (written cells) ≡ length cells
length_written cells = length-map cells byte_of
