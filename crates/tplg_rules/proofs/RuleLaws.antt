-- The laws of rules: one rule and one item are told, and only where some rule fails.
use Rattle.std.proofs.Common.{is_some, ◌↔◌, ◌≡◌, refl, sym, ap, ◌∙◌, ℕ, zero, suc, ◌+◌, ◌<◌, ◌≤◌, List, [], ◌∷◌, Bool, true, false, cond, not, Option, Some, None, ◌⊎◌, inl, inr, arith}
use Rattle.std.specs.List.{find, range_with_len}
use Rattle.std.proofs.lemmas.Bool.{true≢false, cases_order}
use Rattle.tplg_walks.specs.Rules.{Rule, item_test, HoldsAll, FailsFirst, AllHold, BreaksOf}
use Rattle.tplg_walks.specs.FirstFailing.{IsFirstFailing}

-- where all rules hold, none is broken
pub none_breaks : (rs : List Rule) (number item : ℕ) → AllHold rs → BreaksOf rs number item → ⊥
none_breaks [] number item all b = b
none_breaks (r ∷ rs) number item all (inl b) = b.1.fails (all.0 item b.1.within)
none_breaks (r ∷ rs) number item all (inr b) = none_breaks rs number item all.1 b.1

same_item : (r : Rule) (i j : ℕ) → FailsFirst r i → FailsFirst r j → i ≡ j
same_item r i j f g = by_order (cases_order i j)
  where
    by_order : (i ≡ j) ⊎ ((i < j) ⊎ (j < i)) → i ≡ j
    by_order (inl e) = e
    by_order (inr (inl h)) = absurd (f.fails (g.before i h))
    by_order (inr (inr h)) = absurd (g.fails (f.before j h))

-- one rule and one item are told
pub one_breaks : (rs : List Rule) (n i m j : ℕ) → BreaksOf rs n i → BreaksOf rs m j → (n ≡ m) × (i ≡ j)
one_breaks [] n i m j b c = absurd b
one_breaks (r ∷ rs) n i m j (inl b) (inl c) = (sym b.0 ∙ c.0, same_item r i j b.1 c.1)
one_breaks (r ∷ rs) n i m j (inl b) (inr c) = absurd (b.1.fails (c.0 i b.1.within))
one_breaks (r ∷ rs) n i m j (inr b) (inl c) = absurd (c.1.fails (b.0 j c.1.within))
one_breaks (r ∷ rs) n i m j (inr b) (inr c) = one_breaks rs n i m j b.1 c.1

-- ---- the first number at which a test fails

pub record IsLeast (test : ℕ → Bool) (from items : ℕ) (item : ℕ) : Type 0 where
  pub above : from ≤ item
  pub within : item < from + items
  pub fails : test item ≡ false
  pub before : (i : ℕ) → from ≤ i → i < item → test i ≡ true

least-found : (test : ℕ → Bool) (from n item : ℕ) → find (λ k. not (test k)) (range_with_len from n) ≡ Some item → IsLeast test from n item
least-found test from zero item e = cc
least-found test from (suc n) item e = by_test (test from) refl e (least-found test (from + 1) n item)
  where
    later : test from ≡ true → IsLeast test (from + 1) n item → IsLeast test from (suc n) item
    later h l = record { above = omega (arith, l.above); within = omega (arith, l.within); fails = l.fails; before = before }
      where
        by_order : (i : ℕ) → from ≤ i → i < item → (from ≡ i) ⊎ ((from < i) ⊎ (i < from)) → test i ≡ true
        by_order i low high (inl s) = ap test (sym s) ∙ h
        by_order i low high (inr (inl s)) = l.before i (omega arith) high
        by_order i low high (inr (inr s)) = absurd (omega arith)

        before : (i : ℕ) → from ≤ i → i < item → test i ≡ true
        before i low high = by_order i low high (cases_order from i)

    by_test : (b : Bool) → test from ≡ b → cond (not b) (Some from) (find (λ k. not (test k)) (range_with_len (from + 1) n)) ≡ Some item → (find (λ k. not (test k)) (range_with_len (from + 1) n) ≡ Some item → IsLeast test (from + 1) n item) → IsLeast test from (suc n) item
    by_test true h e rest = later h (rest e)
    by_test false h e rest = let s : from ≡ item = cc in record { above = omega arith; within = omega arith; fails = ap test (sym s) ∙ h; before = λ i low high. absurd (omega arith) }

least-none : (test : ℕ → Bool) (from n : ℕ) → find (λ k. not (test k)) (range_with_len from n) ≡ None → (i : ℕ) → from ≤ i → i < from + n → test i ≡ true
least-none test from zero e i low high = absurd (omega arith)
least-none test from (suc n) e i low high = by_test (test from) refl e (least-none test (from + 1) n)
  where
    by_order : test from ≡ true → ((i : ℕ) → from + 1 ≤ i → i < (from + 1) + n → test i ≡ true) → (from ≡ i) ⊎ ((from < i) ⊎ (i < from)) → test i ≡ true
    by_order h rest (inl s) = ap test (sym s) ∙ h
    by_order h rest (inr (inl s)) = rest i (omega arith) (omega arith)
    by_order h rest (inr (inr s)) = absurd (omega arith)

    by_test : (b : Bool) → test from ≡ b → cond (not b) (Some from) (find (λ k. not (test k)) (range_with_len (from + 1) n)) ≡ None → (find (λ k. not (test k)) (range_with_len (from + 1) n) ≡ None → (i : ℕ) → from + 1 ≤ i → i < (from + 1) + n → test i ≡ true) → test i ≡ true
    by_test true h e rest = by_order h (rest e) (cases_order from i)
    by_test false h e rest = cc

-- a search by `find` has found the first item
pub first-found : (number items : ℕ) (test : ℕ → Bool) (o : Option ℕ) → o ≡ find (λ k. not (test k)) (range_with_len 0 items) → IsFirstFailing (item_test number items test) o
first-found number items test None e = λ i within. least-none test 0 items (sym e) i (omega arith) (omega arith)
first-found number items test (Some item) e =
    let l = least-found test 0 items item (sym e) in
    record { within = omega (arith, l.within); fails = λ h. true≢false (sym h ∙ l.fails); before = λ i high. l.before i (omega arith) high }

-- a search that finds none says that the rule holds
pub kept : (number items : ℕ) (test : ℕ → Bool) (o : Option ℕ) (b : Bool) → is_some o ≡ not b → o ≡ find (λ k. not (test k)) (range_with_len 0 items) → (b ≡ true) ↔ HoldsAll (item_test number items test)
kept number items test o b same e = by_found o b (first-found number items test o e) same
  where
    by_found : (o : Option ℕ) (b : Bool) → IsFirstFailing (item_test number items test) o → is_some o ≡ not b → (b ≡ true) ↔ HoldsAll (item_test number items test)
    by_found None true f same = (λ h. f, λ all. refl)
    by_found None false f same = absurd (true≢false (sym same))
    by_found (Some i) true f same = absurd (true≢false same)
    by_found (Some i) false f same = (λ h. absurd (true≢false (sym h)), λ all. absurd (f.fails (all i f.within)))
