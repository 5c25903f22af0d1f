-- Two that are placed in a list, by one key.
use Rattle.std.proofs.Common.{◌≡◌, refl, sym, ap, ◌∙◌, ℕ, ◌<◌, ◌≤◌, List, [], ◌∷◌, Bool, true, false, cond, ◌==◌, inl, inr, arith}
use Rattle.std.specs.Prelude.{nat_lt, ◌⊎◌}
use Rattle.std.proofs.lemmas.Bool.{true≢false, eq-eqb, lt-ltb, le-ltb, ltb-true, ltb-false}
use Rattle.stream_law.specs.Placed.{placed}
use Rattle.stream_law.proofs.Members.{IsIn}

module _ {X : Type 0} (key : X → ℕ) (x y : X) (apart : (key x == key y) ≡ false) where
  below : nat_lt (key x) (key y) ≡ false → nat_lt (key y) (key x) ≡ true
  below e = lt-ltb (key y) (key x) (less (ltb-false (key x) (key y) e))
    where
      less : key y ≤ key x → key y < key x
      less le = by (cases (key y) (key x) le)
        where
          cases : (m n : ℕ) → m ≤ n → (m < n) ⊎ (n ≡ m)
          cases m n le = at (nat_lt m n) refl
            where
              at : (h : Bool) → nat_lt m n ≡ h → (m < n) ⊎ (n ≡ m)
              at true e = inl (ltb-true m n e)
              at false e = let ge = ltb-false m n e in inr (omega arith)

          by : (key y < key x) ⊎ (key x ≡ key y) → key y < key x
          by (inl h) = h
          by (inr same) = absurd (true≢false (sym (eq-eqb (key x) (key y) same) ∙ apart))

  above : nat_lt (key x) (key y) ≡ true → nat_lt (key y) (key x) ≡ false
  above e = let h = ltb-true (key x) (key y) e in le-ltb (key y) (key x) (omega arith)

  pub placed-both : (zs : List X) → placed key x (placed key y zs) ≡ placed key y (placed key x zs)
  placed-both [] = by (nat_lt (key x) (key y)) refl
    where
      by : (h : Bool) → nat_lt (key x) (key y) ≡ h → cond h (x ∷ y ∷ []) (y ∷ x ∷ []) ≡ placed key y (x ∷ [])
      by true e = sym (ap (λ h. cond h (y ∷ x ∷ []) (x ∷ y ∷ [])) (above e))
      by false e = sym (ap (λ h. cond h (y ∷ x ∷ []) (x ∷ y ∷ [])) (below e))
  placed-both (z ∷ zs) = by (nat_lt (key y) (key z)) refl (nat_lt (key x) (key z)) refl (nat_lt (key x) (key y)) refl (placed-both zs)
    where
      left : Bool → Bool → List X
      left a b = cond a (x ∷ y ∷ z ∷ zs) (y ∷ cond b (x ∷ z ∷ zs) (z ∷ placed key x zs))

      right : Bool → Bool → List X
      right a b = cond a (y ∷ x ∷ z ∷ zs) (x ∷ cond b (y ∷ z ∷ zs) (z ∷ placed key y zs))

      by : (h : Bool) → nat_lt (key y) (key z) ≡ h → (k : Bool) → nat_lt (key x) (key z) ≡ k → (m : Bool) → nat_lt (key x) (key y) ≡ m → placed key x (placed key y zs) ≡ placed key y (placed key x zs) → placed key x (cond h (y ∷ z ∷ zs) (z ∷ placed key y zs)) ≡ placed key y (cond k (x ∷ z ∷ zs) (z ∷ placed key x zs))
      by true yz true xz true xy rest = (λ i. left (xy i) (xz i)) ∙ sym (λ i. right (above xy i) (yz i))
      by true yz true xz false xy rest = (λ i. left (xy i) (xz i)) ∙ sym (λ i. right (below xy i) (yz i))
      by true yz false xz true xy rest = let a = ltb-true (key y) (key z) yz in let b = ltb-false (key x) (key z) xz in let c = ltb-true (key x) (key y) xy in absurd (omega arith)
      by true yz false xz false xy rest = (λ i. left (xy i) (xz i)) ∙ sym (ap (λ h. cond h (y ∷ z ∷ placed key x zs) (z ∷ placed key y (placed key x zs))) yz)
      by false yz true xz true xy rest = ap (λ h. cond h (x ∷ z ∷ placed key y zs) (z ∷ placed key x (placed key y zs))) xz ∙ sym (λ i. right (above xy i) (yz i))
      by false yz true xz false xy rest = let a = ltb-false (key y) (key z) yz in let b = ltb-true (key x) (key z) xz in let c = ltb-false (key x) (key y) xy in absurd (omega arith)
      by false yz false xz m xy rest = ap (λ h. cond h (x ∷ z ∷ placed key y zs) (z ∷ placed key x (placed key y zs))) xz ∙ ap (λ ws. z ∷ ws) rest ∙ sym (ap (λ h. cond h (y ∷ z ∷ placed key x zs) (z ∷ placed key y (placed key x zs))) yz)

pub in-placed : {X : Type 0} (key : X → ℕ) (x y : X) (xs : List X) → IsIn y (placed key x xs) → (y ≡ x) ⊎ IsIn y xs
in-placed key x y [] (inl same) = inl same
in-placed key x y [] (inr there) = absurd there
in-placed {X} key x y (z ∷ zs) there = by (nat_lt (key x) (key z)) there (in-placed key x y zs)
  where
    turned : (y ≡ x) ⊎ IsIn y zs → (y ≡ x) ⊎ IsIn y (z ∷ zs)
    turned (inl same) = inl same
    turned (inr more) = inr (inr more)

    by : (h : Bool) → IsIn y (cond h (x ∷ z ∷ zs) (z ∷ placed key x zs)) → (IsIn y (placed key x zs) → (y ≡ x) ⊎ IsIn y zs) → (y ≡ x) ⊎ IsIn y (z ∷ zs)
    by true (inl same) rest = inl same
    by true (inr more) rest = inr more
    by false (inl same) rest = inr (inl same)
    by false (inr more) rest = turned (rest more)
