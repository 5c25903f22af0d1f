-- The first fault of tests that stand one after another.
use Rattle.std.proofs.Common.{◌≡◌, refl, ap, ◌∙◌, ℕ, zero, suc, ◌+◌, ◌-◌, ◌<◌, true, false, List, [], ◌∷◌, ◌++◌, arith}
use Rattle.std.specs.Prelude.{Some, None}
use Rattle.std.specs.List.{flat_map, range_with_len}
use Rattle.sof_base.specs.BlobFaults.{BlobFault, BlobTest, first_fault}

pub first-append : (xs ys : List BlobTest) → first_fault xs ≡ None → first_fault (xs ++ ys) ≡ first_fault ys
first-append [] ys none = refl
first-append ((f, true) ∷ xs) ys none = first-append xs ys none
first-append ((f, false) ∷ xs) ys none = absurd cc

pub first-found : (xs ys : List BlobTest) (fault : BlobFault) → first_fault xs ≡ Some fault → first_fault (xs ++ ys) ≡ Some fault
first-found [] ys fault e = absurd cc
first-found ((f, true) ∷ xs) ys fault e = first-found xs ys fault e
first-found ((f, false) ∷ xs) ys fault e = e

-- two lists without a fault
pub first-both : (xs ys : List BlobTest) → first_fault (xs ++ ys) ≡ None → (first_fault xs ≡ None) × (first_fault ys ≡ None)
first-both [] ys none = (refl, none)
first-both ((f, true) ∷ xs) ys none = first-both xs ys none
first-both ((f, false) ∷ xs) ys none = absurd cc

-- ---- the tests of items by their numbers

abbrev pub tests_of : (ℕ → List BlobTest) → ℕ → ℕ → List BlobTest
tests_of tests a n = flat_map tests (range_with_len a n)

pub first-range : (tests : ℕ → List BlobTest) (a k n : ℕ) → first_fault (tests_of tests a k) ≡ None → first_fault (tests_of tests a (k + n)) ≡ first_fault (tests_of tests (a + k) n)
first-range tests a zero n none =
    (λ i. first_fault (tests_of tests ((let e : a ≡ a + 0 = omega arith in e) i) ((let e : 0 + n ≡ n = omega arith in e) i)))
first-range tests a (suc k) n none =
    let parts = first-both (tests a) (tests_of tests (a + 1) k) none in
    ap (λ m. first_fault (tests_of tests a m)) (let e : suc k + n ≡ suc (k + n) = omega arith in e)
    ∙ first-append (tests a) (tests_of tests (a + 1) (k + n)) parts.0
    ∙ first-range tests (a + 1) k n parts.1
    ∙ ap (λ m. first_fault (tests_of tests m n)) (let e : a + 1 + k ≡ a + suc k = omega arith in e)

-- one item more without a fault
pub first-more : (tests : ℕ → List BlobTest) (k : ℕ) → first_fault (tests_of tests 0 k) ≡ None → first_fault (tests k) ≡ None → first_fault (tests_of tests 0 (k + 1)) ≡ None
first-more tests k none here =
    first-range tests 0 k 1 none
    ∙ ap (λ m. first_fault (tests_of tests m 1)) (let e : 0 + k ≡ k = omega arith in e)
    ∙ first-append (tests k) [] here

-- the first of n items that has a fault
pub first-at : (tests : ℕ → List BlobTest) (k n : ℕ) (fault : BlobFault) → k < n → first_fault (tests_of tests 0 k) ≡ None → first_fault (tests k) ≡ Some fault → first_fault (tests_of tests 0 n) ≡ Some fault
first-at tests k n fault low none here = by (n - suc k) (omega arith)
  where
    by : (m : ℕ) → n ≡ k + suc m → first_fault (tests_of tests 0 n) ≡ Some fault
    by m e =
        ap (λ j. first_fault (tests_of tests 0 j)) e
        ∙ first-range tests 0 k (suc m) none
        ∙ ap (λ j. first_fault (tests_of tests j (suc m))) (let s : 0 + k ≡ k = omega arith in s)
        ∙ first-found (tests k) (tests_of tests (k + 1) m) fault here

-- each of n items without a fault
pub first-each : (tests : ℕ → List BlobTest) (a n k : ℕ) → first_fault (tests_of tests a n) ≡ None → k < n → first_fault (tests (a + k)) ≡ None
first-each tests a zero k none low = absurd (omega arith)
first-each tests a (suc n) zero none low =
    ap (λ j. first_fault (tests j)) (let e : a + 0 ≡ a = omega arith in e) ∙ (first-both (tests a) (tests_of tests (a + 1) n) none).0
first-each tests a (suc n) (suc k) none low =
    ap (λ j. first_fault (tests j)) (let e : a + suc k ≡ a + 1 + k = omega arith in e)
    ∙ first-each tests (a + 1) n k (first-both (tests a) (tests_of tests (a + 1) n) none).1 (omega arith)

pub first-none : (tests : ℕ → List BlobTest) (a n : ℕ) → ((k : ℕ) → k < n → first_fault (tests (a + k)) ≡ None) → first_fault (tests_of tests a n) ≡ None
first-none tests a zero each = refl
first-none tests a (suc n) each =
    first-append (tests a) (tests_of tests (a + 1) n) (ap (λ j. first_fault (tests j)) (let e : a ≡ a + 0 = omega arith in e) ∙ each 0 (omega arith))
    ∙ first-none tests (a + 1) n (λ k low. ap (λ j. first_fault (tests j)) (let e : a + 1 + k ≡ a + suc k = omega arith in e) ∙ each (suc k) (omega arith))
