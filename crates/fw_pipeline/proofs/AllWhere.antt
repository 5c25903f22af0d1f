-- A test of all in a list, where the test of one is known only under what is so of each.
use Rattle.std.proofs.Common.{◌≡◌, refl, sym, ap, ◌∙◌, ℕ, zero, suc, ◌<◌, List, [], ◌∷◌, Bool, true, false, ◌&&◌, length, arith, MatchBool}
use Rattle.std.specs.List.{list_all, AllByRecursion, AllWithin, HoldsAt}
use Rattle.std.proofs.lemmas.Bool.{and_from}

and-none : (h : Bool) → (h && false) ≡ false
and-none true = refl
and-none false = refl

module _ {X : Type 0} (test : X → Bool) (W : X → Type 0) where
  each-passes : (xs : List X) → AllByRecursion W xs → AllWithin (λ x. W x → test x ≡ true) xs 0 (length xs) → list_all test xs ≡ true
  each-passes [] are pass = refl
  each-passes (x ∷ xs) are pass = and_from (test x) _ (pass 0 x (omega arith) (omega arith) are.0) (each-passes xs are.1 (λ k d low high. pass (suc k) d (omega arith) (omega (arith, high))))

  one-fails : (xs : List X) → AllByRecursion W xs → (k : ℕ) → k < length xs → HoldsAt (λ x. W x → test x ≡ false) xs k → list_all test xs ≡ false
  one-fails [] are k low fails = absurd (omega (arith, low))
  one-fails (x ∷ xs) are zero low fails = ap (λ h. h && list_all test xs) (fails x are.0)
  one-fails (x ∷ xs) are (suc k) low fails = ap (λ h. test x && h) (one-fails xs are.1 k (omega (arith, low)) fails) ∙ and-none (test x)

  pub all-where : (r : Bool) (xs : List X) → AllByRecursion W xs → MatchBool r (AllWithin (λ x. W x → test x ≡ true) xs 0 (length xs)) ((k : ℕ) × (k < length xs) × HoldsAt (λ x. W x → test x ≡ false) xs k) → r ≡ list_all test xs
  all-where true xs are cases = sym (each-passes xs are cases)
  all-where false xs are cases = sym (one-fails xs are cases.0 cases.1 cases.2)

-- two things that are so of all
pub both-all : {X : Type 0} (P Q : X → Type 0) (xs : List X) → AllByRecursion P xs → AllByRecursion Q xs → AllByRecursion (λ x. P x × Q x) xs
both-all P Q [] ps qs = tt
both-all P Q (x ∷ xs) ps qs = ((ps.0, qs.0), both-all P Q xs ps.1 qs.1)
