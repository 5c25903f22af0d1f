-- The first place that passes a test, and what stands before it.
use Rattle.std.proofs.Common.{◌≡◌, refl, sym, ap, ◌∙◌, ℕ, zero, suc, ◌+◌, ◌<◌, ◌≤◌, List, [], ◌∷◌, length, take, get_or, Bool, true, false, cond, not, ◌&&◌, ◌||◌, ◌==◌, nat_lt, slice_get, Some, None, ◌⊎◌, inl, inr, position, arith}
use Rattle.std.specs.List.{position_or_len, list_any, find, range_with_len}
use Rattle.std.specs.Option.{option_map_or}
use Rattle.std.proofs.lemmas.Bool.{false≢true, lt-ltb, le-ltb, cases_lt, ne_eqb}
use Rattle.std.proofs.lemmas.Bool.Decides.{nat_tests}
use Rattle.std.specs.Str.{bytes_eq}
use Rattle.std.proofs.lemmas.Slice.Eq.{bytes_eq-Decides}
use Rattle.std.proofs.lemmas.Option.{slice_get_cases}
use Rattle.tplg_widgets.specs.declared.entry.Entry.{Entry}
use Rattle.tplg_widgets.specs.Entries.{is_interpreted}
use Rattle.tplg_widgets.specs.Names.{is_interpreted_named}
use Rattle.tplg_plan.specs.Printable.{is_widget_name}
use Rattle.tplg_rules.specs.RuleTable.{at, name_holds}
use Rattle.tplg_widgets.specs.KeptNumbers.{is_number}

-- a place that passes is the first where none before it passes
pub first-place : {X : Type 0} (p : X → Bool) (xs : List X) (k : ℕ) (d : X) → k < length xs → p (get_or xs k d) ≡ true → is_number (position p xs) k ≡ not (list_any p (take k xs))
first-place p [] k d within here = absurd (omega arith)
first-place p (x ∷ xs) zero d within here = ap (λ b. is_number (cond (nat_lt (cond (not b) (1 + position_or_len p xs) 0) (suc (length xs))) (Some (cond (not b) (1 + position_or_len p xs) 0)) None) 0) here ∙ by_lt (nat_lt 0 (suc (length xs))) (lt-ltb 0 (suc (length xs)) (omega arith))
  where
    by_lt : (b : Bool) → b ≡ true → is_number (cond b (Some 0) None) 0 ≡ true
    by_lt true e = refl
    by_lt false e = absurd (false≢true e)
first-place p (x ∷ xs) (suc k) d within here = by_test (p x) (first-place p xs k d (omega arith) here)
  where
    by_test : (b : Bool) → is_number (position p xs) k ≡ not (list_any p (take k xs)) → is_number (cond (nat_lt (cond (not b) (1 + position_or_len p xs) 0) (suc (length xs))) (Some (cond (not b) (1 + position_or_len p xs) 0)) None) (suc k) ≡ not (b || list_any p (take k xs))
    by_test true rest = by_lt (nat_lt 0 (suc (length xs)))
      where
        by_lt : (b : Bool) → is_number (cond b (Some 0) None) (suc k) ≡ false
        by_lt true = ne_eqb 0 (suc k) (λ e. absurd (omega arith))
        by_lt false = refl
    by_test false rest = later (position_or_len p xs) (length xs) ∙ rest
      where
        later : (n l : ℕ) → is_number (cond (nat_lt (1 + n) (suc l)) (Some (1 + n)) None) (suc k) ≡ is_number (cond (nat_lt n l) (Some n) None) k
        later n l = by_order (cases_lt n l)
          where
            by_order : (n < l) ⊎ (l ≤ n) → is_number (cond (nat_lt (1 + n) (suc l)) (Some (1 + n)) None) (suc k) ≡ is_number (cond (nat_lt n l) (Some n) None) k
            by_order (inl h) = ap (λ b. is_number (cond b (Some (1 + n)) None) (suc k)) (lt-ltb (1 + n) (suc l) (omega arith)) ∙ same_test ∙ sym (ap (λ b. is_number (cond b (Some n) None) k) (lt-ltb n l h))
              where
                same_test : (1 + n == suc k) ≡ (n == k)
                same_test = grind (arith, nat_tests)
            by_order (inr h) = ap (λ b. is_number (cond b (Some (1 + n)) None) (suc k)) (le-ltb (1 + n) (suc l) (omega arith)) ∙ sym (ap (λ b. is_number (cond b (Some n) None) k) (le-ltb n l h))

-- two tests of an item agree where they agree at each item
pub at-agree : {X : Type 0} (xs : List X) (k : ℕ) (f g : X → Bool) → ((x : X) → k < length xs → get_or xs k x ≡ x → f x ≡ g x) → at xs k f ≡ at xs k g
at-agree {X} xs k f g same = by_place (slice_get_cases xs k).1
  where
    by_place : ((x : X) × (k < length xs) × (slice_get xs k ≡ Some x) × (get_or xs k x ≡ x)) ⊎ ((length xs ≤ k) × (slice_get xs k ≡ None)) → at xs k f ≡ at xs k g
    by_place (inl h) = ap (λ o. option_map_or f o true) h.2 ∙ same h.0 h.1 h.3 ∙ sym (ap (λ o. option_map_or g o true) h.2)
    by_place (inr h) = ap (λ o. option_map_or f o true) h.1 ∙ sym (ap (λ o. option_map_or g o true) h.1)

-- a name differs from those of all earlier interpreted widgets where its widget is the first of it
abbrev pub is_named_first : List Entry → ℕ → Entry → Bool
is_named_first es k e = not (is_interpreted e) || (is_widget_name e.name && is_number (position (is_interpreted_named e.name) es) k)

pub names-agree : (es : List Entry) (k : ℕ) → at es k (is_named_first es k) ≡ name_holds es k
names-agree es k = at-agree es k _ _ (λ e within here. by_test e within here (is_interpreted e) refl)
  where
    by_test : (e : Entry) → k < length es → get_or es k e ≡ e → (b : Bool) → is_interpreted e ≡ b → (not (is_interpreted e) || (is_widget_name e.name && is_number (position (is_interpreted_named e.name) es) k)) ≡ (not (is_interpreted e) || (is_widget_name e.name && not (list_any (is_interpreted_named e.name) (take k es))))
    by_test e within here false i = ap (λ b. not b || (is_widget_name e.name && is_number (position (is_interpreted_named e.name) es) k)) i ∙ sym (ap (λ b. not b || (is_widget_name e.name && not (list_any (is_interpreted_named e.name) (take k es)))) i)
    by_test e within here true i = ap (λ t. not (is_interpreted e) || (is_widget_name e.name && t)) (first-place (is_interpreted_named e.name) es k e within (ap (is_interpreted_named e.name) here ∙ ap (λ b. b && bytes_eq e.name e.name) i ∙ (bytes_eq-Decides e.name e.name).1 refl))

-- a search by one test is a search by another that agrees
pub same-search : (f g : ℕ → Bool) (n : ℕ) → ((k : ℕ) → f k ≡ g k) → find (λ k. not (f k)) (range_with_len 0 n) ≡ find (λ k. not (g k)) (range_with_len 0 n)
same-search f g n same = ap (λ (h : ℕ → Bool). find (λ k. not (h k)) (range_with_len 0 n)) (λ i k. same k i)
