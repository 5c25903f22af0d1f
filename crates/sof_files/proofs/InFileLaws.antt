-- What the files of a list will give, after one of them has changed.
use Rattle.std.proofs.Common.{◌≡◌, ℕ, true, nat_eq, List, [], ◌∷◌, ◌++◌, get_or, set, position, Some, ap, ◌∙◌, subst, sym, Option, None, Result, Ok, Err, MatchResult}
use Rattle.sof_files.specs.InFiles.{InView, left_in, left_in_file, SameLeftBeside, LeavesOf}
use Rattle.sof_desk.proofs.First.{IsFirst, is_first, find-at, find-set}
use Rattle.sof_files.proofs.OpenSlots.{under, beside-set, beside-push}

-- the file that stands in the place of the first one of its slot
pub left-set : (slot : ℕ) (xs : List InView) (i : ℕ) (d y : InView) → IsFirst (under (λ f. f.slot) slot) xs i d → nat_eq y.slot slot ≡ true → left_in_file slot (set xs i y) ≡ y.left
left-set slot xs i d y first is = ap left_in (find-set (under (λ f. f.slot) slot) xs i d y first is)

pub left-at : (slot : ℕ) (xs : List InView) (i : ℕ) (d : InView) → IsFirst (under (λ f. f.slot) slot) xs i d → left_in_file slot xs ≡ (get_or xs i d).left
left-at slot xs i d first = ap left_in (find-at (under (λ f. f.slot) slot) xs i d first)

-- a read of the first file of a slot
pub leaves-set : (slot : ℕ) (xs : List InView) (i : ℕ) (d y : InView) (got : Option (List ℕ)) → position (under (λ f. f.slot) slot) xs ≡ Some i → y.slot ≡ (get_or xs i d).slot → LeavesOf got (get_or xs i d).left y.left → LeavesOf got (left_in_file slot xs) (left_in_file slot (set xs i y))
leaves-set slot xs i d y got found slots leaves =
    let first = is_first (under (λ f. f.slot) slot) xs i d found in
    subst (λ new. LeavesOf got (left_in_file slot xs) new) (sym (left-set slot xs i d y first (ap (λ n. nat_eq n slot) slots ∙ first.passes)))
    (subst (λ old. LeavesOf got old y.left) (sym (left-at slot xs i d first)) leaves)

pub all_leave-set : {E : Type 0} (result : Result ℕ E) (got : ℕ → Option (List ℕ)) (slot : ℕ) (xs : List InView) (i : ℕ) (d y : InView) → position (under (λ f. f.slot) slot) xs ≡ Some i → y.slot ≡ (get_or xs i d).slot → MatchResult result (λ n. LeavesOf (got n) (get_or xs i d).left y.left) (λ e. LeavesOf None (get_or xs i d).left y.left) → MatchResult result (λ n. LeavesOf (got n) (left_in_file slot xs) (left_in_file slot (set xs i y))) (λ e. LeavesOf None (left_in_file slot xs) (left_in_file slot (set xs i y)))
all_leave-set (Ok n) got slot xs i d y found slots leaves = leaves-set slot xs i d y (got n) found slots leaves
all_leave-set (Err e) got slot xs i d y found slots leaves = leaves-set slot xs i d y None found slots leaves

-- a file in the place of the first one of its slot leaves the other slots alone
pub left_beside : (slot : ℕ) (xs : List InView) (i : ℕ) (y : InView) → position (under (λ f. f.slot) slot) xs ≡ Some i → y.slot ≡ slot → SameLeftBeside slot xs (set xs i y)
left_beside slot xs i y found is other apart = ap left_in (beside-set (λ f. f.slot) slot xs i y found is other apart)

pub left_beside_new : (slot : ℕ) (xs : List InView) (y : InView) → y.slot ≡ slot → SameLeftBeside slot xs (xs ++ y ∷ [])
left_beside_new slot xs y is other apart = ap left_in (beside-push (λ f. f.slot) slot xs y is other apart)
