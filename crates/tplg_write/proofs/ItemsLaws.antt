-- Items written one after the other.
use Rattle.std.proofs.Common.{◌≡◌, ℕ, ◌+◌, ◌<◌, List, [], ◌∷◌, ◌++◌, length, take, get_or, sym, ap, ◌∙◌, append-nil, append_assoc}
use Rattle.std.proofs.lemmas.List.{map-append, take_more}
use Rattle.sof_base.specs.Cells.{Cell, written, byte_of}
use Rattle.sof_base.specs.Layouts.{wrote_part}
use Rattle.tplg_model.specs.Spelling.{items_cells}
use Rattle.tplg_model.proofs.ItemLaws.{items_cells-more}

module _ {A : Type 0} (cells : A → List Cell) where
  pub items_none : (old : List ℕ) → wrote_part old (items_cells cells []) ≡ old
  unfolding items_cells wrote_part
  items_none old = append-nil old

  pub items_more : (old : List ℕ) (xs : List A) (i : ℕ) (x : A) → i < length xs → x ≡ get_or xs i x → wrote_part (wrote_part old (items_cells cells (take i xs))) (cells x) ≡ wrote_part old (items_cells cells (take (i + 1) xs))
  unfolding wrote_part
  items_more old xs i x lt is =
      let one : written (items_cells cells (take (i + 1) xs)) ≡ written (items_cells cells (take i xs)) ++ written (cells x) =
      ap (λ (t : List A). written (items_cells cells t)) (take_more xs i x lt ∙ ap (λ (y : A). take i xs ++ y ∷ []) (sym is)) ∙ ap written (items_cells-more cells (take i xs) x) ∙ map-append byte_of (items_cells cells (take i xs)) (cells x) in
      append_assoc old (written (items_cells cells (take i xs))) (written (cells x)) ∙ ap (λ (t : List ℕ). old ++ t) (sym one)
