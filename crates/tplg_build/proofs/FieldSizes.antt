-- The bytes of parts, and of items of one size.
use Rattle.std.proofs.Common.{◌≡◌, ℕ, suc, ◌+◌, ◌*◌, List, [], ◌∷◌, length, refl, arith, length-append}
use Rattle.sof_base.specs.Cells.{Cell}
use Rattle.tplg_model.specs.Arrays.{Each}
use Rattle.tplg_model.specs.Spelling.{items_cells, joined_cells}

-- the bytes of parts
abbrev pub total : List (List Cell) → ℕ
total [] = 0
total (c ∷ cs) = length c + total cs

pub length-joined : (cs : List (List Cell)) → length (joined_cells cs) ≡ total cs
length-joined [] = refl
length-joined (c ∷ cs) = omega (arith, length-append c (joined_cells cs), length-joined cs)

-- items of one size
pub length-items : {A : Type 0} (cells : A → List Cell) (n : ℕ) (Is : A → Type 0) → ((x : A) → Is x → length (cells x) ≡ n) → (xs : List A) → Each Is xs → length (items_cells cells xs) ≡ n * length xs
unfolding items_cells Each
length-items cells n Is one [] are = omega arith
length-items cells n Is one (x ∷ xs) are =
    let k : n * suc (length xs) ≡ n + n * length xs = omega arith in
    omega (arith, k, length-append (cells x) (items_cells cells xs), one x are.0, length-items cells n Is one xs are.1)
