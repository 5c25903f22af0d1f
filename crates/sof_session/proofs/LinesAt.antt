-- The line of a number, in lines that stand one after the other.
use Rattle.std.proofs.Common.{◌≡◌, ℕ, zero, suc, ◌-◌, ◌<◌, ◌≤◌, Bool, true, false, List, [], ◌∷◌, ◌++◌, length, map, Some, None, refl, ap, ◌∙◌, arith}
use Rattle.std.specs.Option.{option_map}
use Rattle.std.specs.List.{slice_get, zip, range_with_len}
use Rattle.std.proofs.lemmas.Option.{slice_get-map, slice_get-get_or}
use Rattle.std.proofs.lemmas.List.FromFn.{length-range_with_len, get_or-range_with_len}
use Rattle.sof_session.specs.ShownLines.{IsLineAt}

-- ---- elements by number

get-front : {A : Type 0} (xs ys : List A) (k : ℕ) → k < length xs → slice_get (xs ++ ys) k ≡ slice_get xs k
get-front [] ys k within = absurd (omega (arith, within))
get-front (x ∷ xs) ys zero within = refl
get-front (x ∷ xs) ys (suc k) within = get-front xs ys k (omega (arith, within))

get-behind : {A : Type 0} (xs ys : List A) (k : ℕ) → length xs ≤ k → slice_get (xs ++ ys) k ≡ slice_get ys (k - length xs)
get-behind [] ys k past = ap (slice_get ys) (omega arith)
get-behind (x ∷ xs) ys zero past = absurd (omega (arith, past))
get-behind (x ∷ xs) ys (suc k) past = get-behind xs ys k (omega (arith, past)) ∙ ap (slice_get ys) (omega arith)

pub get-zip : {A B : Type 0} (xs : List A) (ys : List B) (k : ℕ) (x : A) (y : B) → slice_get xs k ≡ Some x → slice_get ys k ≡ Some y → slice_get (zip xs ys) k ≡ Some (x, y)
get-zip [] ys k x y first second = absurd (cc first)
get-zip (a ∷ xs) [] k x y first second = absurd (cc second)
get-zip (a ∷ xs) (b ∷ ys) zero x y first second = cc (first, second)
get-zip (a ∷ xs) (b ∷ ys) (suc k) x y first second = get-zip xs ys k x y first second

pub get-zip_first : {A B : Type 0} (xs : List A) (ys : List B) (k : ℕ) → slice_get xs k ≡ None → slice_get (zip xs ys) k ≡ None
get-zip_first [] ys k none = refl
get-zip_first (a ∷ xs) [] k none = refl
get-zip_first (a ∷ xs) (b ∷ ys) zero none = absurd (cc none)
get-zip_first (a ∷ xs) (b ∷ ys) (suc k) none = get-zip_first xs ys k none

pub get-zip_second : {A B : Type 0} (xs : List A) (ys : List B) (k : ℕ) → slice_get ys k ≡ None → slice_get (zip xs ys) k ≡ None
get-zip_second [] ys k none = refl
get-zip_second (a ∷ xs) [] k none = refl
get-zip_second (a ∷ xs) (b ∷ ys) zero none = absurd (cc none)
get-zip_second (a ∷ xs) (b ∷ ys) (suc k) none = get-zip_second xs ys k none

pub get-range : {A : Type 0} (f : ℕ → A) (n k : ℕ) → k < n → slice_get (map f (range_with_len 0 n)) k ≡ Some (f k)
get-range f n k within =
    slice_get-map f (range_with_len 0 n) k
    ∙ ap (option_map f) (slice_get-get_or (range_with_len 0 n) k 0 (omega (arith, length-range_with_len 0 n, within)))
    ∙ ap (λ (i : ℕ). Some (f i)) (get_or-range_with_len 0 n k 0 within ∙ omega arith)

-- ---- lines by number

pub IsLineAt-some : (lines : List (List ℕ)) (k : ℕ) (line text : List ℕ) → slice_get lines k ≡ Some text → line ≡ text → IsLineAt lines k true line
IsLineAt-some lines k line text is same = rw is (refl, same)

pub IsLineAt-none : (lines : List (List ℕ)) (k : ℕ) (line : List ℕ) → slice_get lines k ≡ None → IsLineAt lines k false line
IsLineAt-none lines k line is = rw is refl

pub IsLineAt-front : (lines more : List (List ℕ)) (k : ℕ) (line text : List ℕ) → k < length lines → slice_get lines k ≡ Some text → line ≡ text → IsLineAt (lines ++ more) k true line
IsLineAt-front lines more k line text within is same = IsLineAt-some (lines ++ more) k line text (get-front lines more k within ∙ is) same

pub IsLineAt-first : (lines more : List (List ℕ)) (k : ℕ) (there : Bool) (line : List ℕ) → k < length lines → IsLineAt lines k there line → IsLineAt (lines ++ more) k there line
IsLineAt-first lines more k there line within rest = rw (get-front lines more k within) rest

pub IsLineAt-behind : (lines more : List (List ℕ)) (k : ℕ) (there : Bool) (line : List ℕ) → length lines ≤ k → IsLineAt more (k - length lines) there line → IsLineAt (lines ++ more) k there line
IsLineAt-behind lines more k there line past rest = rw (get-behind lines more k past) rest

-- of a list by its elements
pub IsLineAt-map : {A : Type 0} (f : A → List ℕ) (xs : List A) (k : ℕ) (x : A) (line : List ℕ) → slice_get xs k ≡ Some x → line ≡ f x → IsLineAt (map f xs) k true line
IsLineAt-map f xs k x line is same = IsLineAt-some (map f xs) k line (f x) (slice_get-map f xs k ∙ ap (option_map f) is) same
