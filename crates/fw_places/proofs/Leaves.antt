-- Walks that leave each place once.
use Rattle.std.proofs.Common.{◌≡◌, ◌≢◌, refl, sym, ap, ◌∙◌, ℕ, zero, suc, ◌+◌, ◌<◌, ◌≤◌, List, [], ◌∷◌, ◌++◌, Bool, true, false, cond, length, get_or, set, take, replicate, ltb, ◌==◌, ◌||◌, arith, below_more, get_or-set_other, get_or-set_same, length-append}
use Rattle.std.proofs.lemmas.Bool.{true≢false, false≢true, or_left, or_right, eqb-true, eq-eqb, ltb-true, ltb-false}
use Rattle.std.proofs.lemmas.List.{length-set, length-replicate}
use Rattle.std.proofs.lemmas.List.Folds.{list_any-append}
use Rattle.stream_law.specs.declared.graph.Join.{Join}
use Rattle.stream_law.specs.Order.{is_among}
use Rattle.fw_places.specs.Walks.{near_of, far_of, unmarked, place_in, IsClosed}
use Rattle.fw_places.specs.Leaving.{no_join, last_from, AreFound, GoOn}
use Rattle.fw_places.proofs.Marking.{unmarked-set, unmarked-most, each-at, none-marked}
use Rattle.fw_places.proofs.Reaching.{at-place}

-- ---- the joins that leave a place

module _ (back : Bool) (joins : List Join) (x : ℕ) where
  abbrev at : ℕ → Join
  at n = get_or joins n no_join

  pub last-most : (n : ℕ) → last_from back joins n x ≤ n
  last-most zero = omega arith
  last-most (suc n) = by (near_of back (at n) == x) (last-most n)
    where
      by : (h : Bool) → last_from back joins n x ≤ n → cond h (suc n) (last_from back joins n x) ≤ suc n
      by true rest = omega arith
      by false rest = omega (arith, rest)

  -- none of the first n does
  pub last-none : (n : ℕ) → last_from back joins n x ≡ 0 → (m : ℕ) → m < n → near_of back (at m) ≢ x
  last-none zero is m low = absurd (omega (arith, low))
  last-none (suc n) is m low = by (near_of back (at n) == x) refl is (last-none n) m (omega (arith, low))
    where
      by : (h : Bool) → (near_of back (at n) == x) ≡ h → cond h (suc n) (last_from back joins n x) ≡ 0 → (last_from back joins n x ≡ 0 → (m : ℕ) → m < n → near_of back (at m) ≢ x) → (m : ℕ) → m < n + 1 → near_of back (at m) ≢ x
      by true same is rest = absurd (omega (arith, is))
      by false other is rest = below_more (λ m. near_of back (at m) ≢ x) n (rest is) (λ same. true≢false (sym (eq-eqb (near_of back (at n)) x same) ∙ other))

  -- the last one does, and none after it
  pub last-one : (n k : ℕ) → last_from back joins n x ≡ suc k → (k < n) × ((near_of back (at k) ≡ x) × ((m : ℕ) → m < n → k < m → near_of back (at m) ≢ x))
  last-one zero k is = absurd (omega (arith, is))
  last-one (suc n) k is = by (near_of back (at n) == x) refl is (last-one n k)
    where
      by : (h : Bool) → (near_of back (at n) == x) ≡ h → cond h (suc n) (last_from back joins n x) ≡ suc k → (last_from back joins n x ≡ suc k → (k < n) × ((near_of back (at k) ≡ x) × ((m : ℕ) → m < n → k < m → near_of back (at m) ≢ x))) → (k < suc n) × ((near_of back (at k) ≡ x) × ((m : ℕ) → m < suc n → k < m → near_of back (at m) ≢ x))
      by true same is rest =
          let e : n ≡ k = omega (arith, is) in
          (omega (arith, e), (ap (λ (j : ℕ). near_of back (at j)) (sym e) ∙ eqb-true (near_of back (at n)) x same, λ m below above. absurd (omega (arith, e, above, below))))
      by false other is rest =
          let r = rest is in
          (omega (arith, r.0), (r.1.0, λ m below above. below_more (λ m. k < m → near_of back (at m) ≢ x) n r.1.1 (λ above same. true≢false (sym (eq-eqb (near_of back (at n)) x same) ∙ other)) m (omega (arith, below)) above))

-- what is left once the last one is gone along
module _ (back : Bool) (joins : List Join) (x : ℕ) (marks marks' : List Bool) (n : ℕ)
    (rest : (m : ℕ) → n ≤ m → m < length joins → near_of back (get_or joins m no_join) ≡ x → get_or marks (far_of back (get_or joins m no_join)) false ≡ true) where
  pub rest-more : (k : ℕ) → last_from back joins n x ≡ suc k → ((i : ℕ) → get_or marks i false ≡ true → get_or marks' i false ≡ true) → get_or marks' (far_of back (get_or joins k no_join)) false ≡ true
      → (m : ℕ) → k ≤ m → m < length joins → near_of back (get_or joins m no_join) ≡ x → get_or marks' (far_of back (get_or joins m no_join)) false ≡ true
  rest-more k is kept here m above below same = by (m == k) refl (ltb m n) refl
    where
      by : (h : Bool) → (m == k) ≡ h → (i : Bool) → ltb m n ≡ i → get_or marks' (far_of back (get_or joins m no_join)) false ≡ true
      by true e i low = ap (λ (j : ℕ). get_or marks' (far_of back (get_or joins j no_join)) false) (eqb-true m k e) ∙ here
      by false e true low = absurd ((last-one back joins x n k is).1.1 m (ltb-true m n low) (omega (arith, above, λ (j : m ≡ k). true≢false (sym (eq-eqb m k j) ∙ e))) same)
      by false e false low = kept (far_of back (get_or joins m no_join)) (rest m (ltb-false m n low) below same)

  pub rest-all : last_from back joins n x ≡ 0 → (m : ℕ) → m < length joins → near_of back (get_or joins m no_join) ≡ x → get_or marks (far_of back (get_or joins m no_join)) false ≡ true
  rest-all is m below same = by (ltb m n) refl
    where
      by : (h : Bool) → ltb m n ≡ h → get_or marks (far_of back (get_or joins m no_join)) false ≡ true
      by true low = absurd (last-none back joins x n is m (ltb-true m n low) same)
      by false low = rest m (ltb-false m n low) below same

pub zeros : (n k : ℕ) → let none : ℕ = 0 in get_or (replicate n none) k none ≡ none
zeros zero k = refl
zeros (suc n) zero = refl
zeros (suc n) (suc k) = zeros n k

-- ---- one more join is linked

module _ (back : Bool) (joins : List Join) (last before : List ℕ) (k : ℕ) where
  abbrev from : ℕ
  from = near_of back (get_or joins k no_join)

  pub last-more : ((x : ℕ) → get_or last x 0 ≡ last_from back joins k x) → from < length last → (x : ℕ) → get_or (set last from (suc k)) x 0 ≡ last_from back joins (suc k) x
  last-more so_far low x = by (from == x) refl
    where
      by : (h : Bool) → (from == x) ≡ h → get_or (set last from (suc k)) x 0 ≡ cond h (suc k) (last_from back joins k x)
      by true same = ap (λ (y : ℕ). get_or (set last from (suc k)) y 0) (sym (eqb-true from x same)) ∙ get_or-set_same last from (suc k) 0 low
      by false other = get_or-set_other last from x (suc k) 0 (λ e. true≢false (sym (eq-eqb from x (sym e)) ∙ other)) ∙ so_far x

  pub links-more : ((n : ℕ) → n < k → get_or before n 0 ≡ last_from back joins n (near_of back (get_or joins n no_join))) → (value : ℕ) → value ≡ last_from back joins k from → k < length before → (n : ℕ) → n < k + 1 → get_or (set before k value) n 0 ≡ last_from back joins n (near_of back (get_or joins n no_join))
  links-more so_far value is low = below_more (λ n. get_or (set before k value) n 0 ≡ last_from back joins n (near_of back (get_or joins n no_join))) k
      (λ n below. get_or-set_other before k n value 0 (λ e. absurd (omega (arith, e, below))) ∙ so_far n below)
      (get_or-set_same before k value 0 low ∙ is)

-- ---- what is found

get-front : (xs ys : List ℕ) (j : ℕ) → j < length xs → get_or (xs ++ ys) j 0 ≡ get_or xs j 0
get-front [] ys j low = absurd (omega (arith, low))
get-front (x ∷ xs) ys zero low = refl
get-front (x ∷ xs) ys (suc j) low = get-front xs ys j (omega (arith, low))

get-last : (xs : List ℕ) (y : ℕ) → get_or (xs ++ y ∷ []) (length xs) 0 ≡ y
get-last [] y = refl
get-last (x ∷ xs) y = get-last xs y

pub go-same : (marks : List Bool) (found : List ℕ) → GoOn marks marks found found
go-same marks found = record { size = refl; kept = λ k e. e; longer = omega arith; same = λ j low. refl }

pub go-then : (a b c : List Bool) (f g h : List ℕ) → GoOn a b f g → GoOn b c g h → GoOn a c f h
go-then a b c f g h first second = record {
  size = second.size ∙ first.size;
  kept = λ k e. second.kept k (first.kept k e);
  longer = omega (arith, first.longer, second.longer);
  same = λ j low. second.same j (omega (arith, low, first.longer)) ∙ first.same j low;
}

-- one more place is marked, and found
module _ (marks : List Bool) (found : List ℕ) (x : ℕ) (are : AreFound marks found) (low : x < length marks) (off : get_or marks x false ≡ false) where
  kept-one : (k : ℕ) → get_or marks k false ≡ true → get_or (set marks x true) k false ≡ true
  kept-one k is = by (k == x) refl
    where
      by : (h : Bool) → (k == x) ≡ h → get_or (set marks x true) k false ≡ true
      by true same = ap (λ (j : ℕ). get_or (set marks x true) j false) (eqb-true k x same) ∙ get_or-set_same marks x true false low
      by false other = get_or-set_other marks x k true false (λ e. true≢false (sym (eq-eqb k x e) ∙ other)) ∙ is

  longer-by : length (found ++ x ∷ []) ≡ length found + 1
  longer-by = length-append found (x ∷ [])

  pub found-one : AreFound (set marks x true) (found ++ x ∷ [])
  found-one = record {
    room = omega (arith, are.room, unmarked-set marks x low off, longer-by, length-set marks x true);
    marked = λ j below. below_more (λ j. get_or (set marks x true) (get_or (found ++ x ∷ []) j 0) false ≡ true) (length found)
        (λ j below. ap (λ (k : ℕ). get_or (set marks x true) k false) (get-front found (x ∷ []) j below) ∙ kept-one (get_or found j 0) (are.marked j below))
        (ap (λ (k : ℕ). get_or (set marks x true) k false) (get-last found x) ∙ get_or-set_same marks x true false low) j (omega (arith, below, longer-by));
    all = λ k is. list_any-append (λ y. y == k) found (x ∷ []) ∙ by k is (k == x) refl;
  }
    where
      by : (k : ℕ) → get_or (set marks x true) k false ≡ true → (h : Bool) → (k == x) ≡ h → (is_among found k || (x == k || false)) ≡ true
      by k is true same = or_right (is_among found k) _ (or_left (x == k) false (eq-eqb x k (sym (eqb-true k x same))))
      by k is false other = or_left (is_among found k) _ (are.all k (sym (get_or-set_other marks x k true false (λ e. true≢false (sym (eq-eqb k x e) ∙ other))) ∙ is))

  pub go-one : GoOn marks (set marks x true) found (found ++ x ∷ [])
  go-one = record { size = length-set marks x true; kept = kept-one; longer = omega (arith, longer-by); same = λ j below. get-front found (x ∷ []) j below }

  pub least-one : (p : ℕ → Bool) → p x ≡ true → ((k : ℕ) → get_or marks k false ≡ true → p k ≡ true) → (k : ℕ) → get_or (set marks x true) k false ≡ true → p k ≡ true
  least-one p here old k is = by (k == x) refl
    where
      by : (h : Bool) → (k == x) ≡ h → p k ≡ true
      by true same = ap p (eqb-true k x same) ∙ here
      by false other = old k (sym (get_or-set_other marks x k true false (λ e. true≢false (sym (eq-eqb k x e) ∙ other))) ∙ is)

-- a place that is marked is one of them
pub marked-low : (marks : List Bool) (k : ℕ) → get_or marks k false ≡ true → k < length marks
marked-low [] k is = absurd (false≢true is)
marked-low (h ∷ marks) zero is = omega arith
marked-low (h ∷ marks) (suc k) is = omega (arith, marked-low marks k is)

-- ---- all places that are marked

unmarked-more : (marks : List Bool) (k : ℕ) → k < length marks → unmarked (take (suc k) marks) ≡ unmarked (take k marks) + cond (get_or marks k false) 0 1
unmarked-more [] k low = absurd (omega (arith, low))
unmarked-more (true ∷ marks) zero low = refl
unmarked-more (false ∷ marks) zero low = refl
unmarked-more (true ∷ marks) (suc k) low = unmarked-more marks k (omega (arith, low))
unmarked-more (false ∷ marks) (suc k) low = let e = unmarked-more marks k (omega (arith, low)) in omega (arith, e)

unmarked-next : (marks : List Bool) (k : ℕ) → k < length marks → (h : Bool) → get_or marks k false ≡ h → unmarked (take (k + 1) marks) ≡ unmarked (take k marks) + cond h 0 1
unmarked-next marks k low h is = let e : k + 1 ≡ suc k = omega arith in ap (λ (n : ℕ). unmarked (take n marks)) e ∙ unmarked-more marks k low ∙ ap (λ h. unmarked (take k marks) + cond h 0 1) is

-- the first k are found
pub record AreFirst (marks : List Bool) (found : List ℕ) (k : ℕ) : Type 0 where
  pub room : length found + unmarked (take k marks) ≡ k
  pub marked : (j : ℕ) → j < length found → get_or marks (get_or found j 0) false ≡ true
  pub all : (m : ℕ) → m < k → get_or marks m false ≡ true → is_among found m ≡ true

pub first-none : (marks : List Bool) → AreFirst marks [] 0
first-none marks = record { room = refl; marked = λ j low. absurd (omega (arith, low)); all = λ m low. absurd (omega (arith, low)) }

module _ (marks : List Bool) (found : List ℕ) (k : ℕ) (are : AreFirst marks found k) (low : k < length marks) where
  pub first-found : get_or marks k false ≡ true → AreFirst marks (found ++ k ∷ []) (k + 1)
  first-found is = record {
    room = (let e : unmarked (take (k + 1) marks) ≡ unmarked (take k marks) + 0 = unmarked-next marks k low true is in omega (arith, e, are.room, length-append found (k ∷ [])));
    marked = λ j below. below_more (λ j. get_or marks (get_or (found ++ k ∷ []) j 0) false ≡ true) (length found)
        (λ j below. ap (λ (n : ℕ). get_or marks n false) (get-front found (k ∷ []) j below) ∙ are.marked j below)
        (ap (λ (n : ℕ). get_or marks n false) (get-last found k) ∙ is) j (omega (arith, below, length-append found (k ∷ [])));
    all = below_more (λ m. get_or marks m false ≡ true → is_among (found ++ k ∷ []) m ≡ true) k
        (λ m below e. list_any-append (λ y. y == m) found (k ∷ []) ∙ or_left (is_among found m) _ (are.all m below e))
        (λ e. list_any-append (λ y. y == k) found (k ∷ []) ∙ or_right (is_among found k) _ (or_left (k == k) false (eq-eqb k k refl)));
  }

  pub first-passed : get_or marks k false ≡ false → AreFirst marks found (k + 1)
  first-passed is = record {
    room = (let e : unmarked (take (k + 1) marks) ≡ unmarked (take k marks) + 1 = unmarked-next marks k low false is in omega (arith, e, are.room));
    marked = are.marked;
    all = below_more (λ m. get_or marks m false ≡ true → is_among found m ≡ true) k are.all (λ e. absurd (true≢false (sym e ∙ is)));
  }

pub first-all : (marks : List Bool) (found : List ℕ) (k : ℕ) → AreFirst marks found k → length marks ≤ k → take k marks ≡ marks → k ≡ length marks → AreFound marks found
first-all marks found k are end whole is = record {
  room = (let e : unmarked (take k marks) ≡ unmarked marks = ap unmarked whole in omega (arith, are.room, e, is));
  marked = are.marked;
  all = λ m e. are.all m (omega (arith, marked-low marks m e, is)) e;
}

-- where none is marked nothing is found, and then the one that is marked alone
found-none : (n : ℕ) → AreFound (replicate n false) []
found-none n = record { room = omega (arith, unmarked-most (replicate n false)); marked = λ j low. absurd (omega (arith, low)); all = λ k is. absurd (false≢true (sym (none-marked n k) ∙ is)) }

pub found-first : (n x : ℕ) → x < n → AreFound (set (replicate n false) x true) (x ∷ [])
found-first n x low = found-one (replicate n false) [] x (found-none n) (omega (arith, low, length-replicate n false)) (none-marked n x)

-- ---- all joins are gone along

pub all-left : (back : Bool) (joins : List Join) (marks : List Bool) (found : List ℕ) (i : ℕ) → AreFound marks found → length found ≤ i
    → ((j : ℕ) → j < i → (n : ℕ) → n < length joins → near_of back (get_or joins n no_join) ≡ get_or found j 0 → get_or marks (far_of back (get_or joins n no_join)) false ≡ true)
    → IsClosed back joins (λ k. get_or marks k false)
all-left back joins marks found i are end left = each-at (λ j. get_or marks (near_of back j) false ≡ true → get_or marks (far_of back j) false ≡ true) joins no_join (λ n low is.
    let at = at-place found (near_of back (get_or joins n no_join)) (are.all (near_of back (get_or joins n no_join)) is) in
    left (place_in found (near_of back (get_or joins n no_join))) (omega (arith, at.0, end)) n low (sym at.1))
