-- A chart of ids and joins.
use Rattle.std.proofs.Common.{◌≡◌, refl, sym, ap, ◌∙◌, subst, ℕ, zero, suc, drop, ◌+◌, ◌≤◌, ◌<◌, ◌%◌, ltb, List, [], ◌∷◌, Bool, true, false, length, map, take, get_or, replicate, set, ◌==◌, ◌&&◌, ◌||◌, Some, None, not, cond, ◌≢◌, arith, get_or-set_other, get_or-set_same}
use Rattle.std.proofs.lemmas.Bool.{true≢false, false≢true, and_parts, and_from, eqb-true, eq-eqb, ltb-true, ltb-false, false_from_ne_true}
use Rattle.std.proofs.lemmas.List.{get_or-replicate, length-replicate}
use Rattle.std.proofs.lemmas.List.Sums.{fails_before_first}
use Rattle.std.specs.Prelude.{position, unwrap_or, nat_lt}
use Rattle.std.specs.List.{AllByRecursion}
use Rattle.stream_law.specs.declared.graph.Join.{Join}
use Rattle.stream_law.proofs.Members.{IsIn, in-all, in-each, in-any, any-in}
use Rattle.stream_law.specs.Order.{is_among}
use Rattle.fw_places.specs.Walks.{place_in, by_places, near_of, far_of, IsListed, IsWithin, IsClosed, leads_by, is_marked, is_reached}
use Rattle.fw_places.specs.Charts.{by_ids, IsChart}
use Rattle.fw_places.proofs.Reaching.{at-place, in-at, reach-closed, both-true, mapped}

-- ---- joins there and back

there-back : (ids : List ℕ) (j : Join) → IsListed ids j → by_ids ids (by_places ids j) ≡ j
there-back ids j listed = λ i. let r : Join = record { source = (at-place ids j.source listed.0).1 i; sink = (at-place ids j.sink listed.1).1 i } in r

all-back : (ids : List ℕ) (joins : List Join) → AllByRecursion (IsListed ids) joins → map (by_ids ids) (map (by_places ids) joins) ≡ joins
all-back ids [] listed = refl
all-back ids (j ∷ joins) listed = ap (λ (p : Join × List Join). p.0 ∷ p.1) (λ i. (there-back ids j listed.0 i, all-back ids joins listed.1 i))

module _ (ids : List ℕ) (joins ends : List Join) (count : ℕ) (is : take count ends ≡ map (by_places ids) joins) (listed : AllByRecursion (IsListed ids) joins) where
  pub chart-joins : map (by_ids ids) (take count ends) ≡ joins
  chart-joins = ap (map (by_ids ids)) is ∙ all-back ids joins listed

  pub chart-is : length ids ≤ 256 → count ≤ 256 → IsChart ids ends count
  chart-is few within = record {
    few = few;
    within = within;
    places = is ∙ ap (map (by_places ids)) (sym chart-joins);
    listed = subst (AllByRecursion (IsListed ids)) (sym chart-joins) listed;
  }

-- ---- what is reached from one id

pub place-past : (ids : List ℕ) (x : ℕ) → is_among ids x ≡ false → place_in ids x ≡ length ids
place-past [] x none = refl
place-past (y ∷ ids) x none = by (y == x) refl none (place-past ids x)
  where
    by : (h : Bool) → (y == x) ≡ h → (h || is_among ids x) ≡ false → (is_among ids x ≡ false → place_in ids x ≡ length ids) → place_in (y ∷ ids) x ≡ suc (length ids)
    by true is none rest = absurd (true≢false none)
    by false is none rest = ap (λ h. cond (not h) (1 + place_in ids x) 0) is ∙ (let e : 1 + place_in ids x ≡ suc (length ids) = omega (arith, rest none) in e)

pub place-most : (ids : List ℕ) (x : ℕ) → place_in ids x ≤ length ids
place-most ids x = by (is_among ids x) refl
  where
    by : (h : Bool) → is_among ids x ≡ h → place_in ids x ≤ length ids
    by true there = omega (arith, (at-place ids x there).0)
    by false none = omega (arith, place-past ids x none)

pub member-listed : (ids : List ℕ) (x : ℕ) → IsIn x ids → is_among ids x ≡ true
member-listed ids x there = in-any (λ y. y == x) ids x there (eq-eqb x x refl)

pub listed-member : (ids : List ℕ) (x : ℕ) → is_among ids x ≡ true → IsIn x ids
listed-member ids x there = let r = any-in (λ y. y == x) ids there in subst (λ y. IsIn y ids) (eqb-true r.0 x r.2) r.1

-- where a walk ends at what is listed, it begins at what is listed
pub begins-listed : (back : Bool) (ids : List ℕ) (joins : List Join) → AllByRecursion (IsListed ids) joins → (a b : ℕ) → leads_by back joins a b ≡ true → is_among ids b ≡ true → is_among ids a ≡ true
begins-listed true ids joins listed a b led there = reach-closed false joins (is_among ids) (in-each _ joins (λ j here is. (in-all (IsListed ids) joins j listed here).1)) b a led there
begins-listed false ids joins listed a b led there = reach-closed true joins (is_among ids) (in-each _ joins (λ j here is. (in-all (IsListed ids) joins j listed here).0)) b a led there

pub one-reached : (back : Bool) (ids : List ℕ) (joins : List Join) → AllByRecursion (IsListed ids) joins → (n : ℕ) → length ids < n → (id x : ℕ) → is_among ids x ≡ true → is_reached back ids joins (set (replicate n false) (place_in ids id) true) x ≡ leads_by back joins id x
one-reached back ids joins listed n few id x there = both-true _ _ forth back_again
  where
    marks : List Bool
    marks = set (replicate n false) (place_in ids id) true

    same-place : (s : ℕ) → IsIn s ids → place_in ids s ≡ place_in ids id → s ≡ id
    same-place s here same = by (is_among ids id) refl
      where
        at : (place_in ids s < length ids) × (get_or ids (place_in ids s) 0 ≡ s)
        at = at-place ids s (member-listed ids s here)

        by : (h : Bool) → is_among ids id ≡ h → s ≡ id
        by true is = sym at.1 ∙ ap (λ k. get_or ids k 0) same ∙ (at-place ids id is).1
        by false none = absurd (omega (arith, at.0, same, place-past ids id none))

    marked-there : (s : ℕ) → IsIn s ids → is_marked ids marks s ≡ true → s ≡ id
    marked-there s here is = by (place_in ids s == place_in ids id) refl
      where
        by : (h : Bool) → (place_in ids s == place_in ids id) ≡ h → s ≡ id
        by true same = same-place s here (eqb-true (place_in ids s) (place_in ids id) same)
        by false other =
            let apart : place_in ids s ≢ place_in ids id = λ e. true≢false (sym (eq-eqb (place_in ids s) (place_in ids id) e) ∙ other) in
            absurd (false≢true (sym (get_or-set_other (replicate n false) (place_in ids id) (place_in ids s) true false apart ∙ get_or-replicate n (place_in ids s) false false (omega (arith, few, place-most ids s))) ∙ is))

    forth : is_reached back ids joins marks x ≡ true → leads_by back joins id x ≡ true
    forth is =
        let s = any-in (λ s. is_marked ids marks s && leads_by back joins s x) ids is in
        let both = and_parts (is_marked ids marks s.0) (leads_by back joins s.0 x) s.2 in
        subst (λ y. leads_by back joins y x ≡ true) (marked-there s.0 s.1 both.0) both.1

    back_again : leads_by back joins id x ≡ true → is_reached back ids joins marks x ≡ true
    back_again led =
        let here = listed-member ids id (begins-listed back ids joins listed id x led there) in
        let low : place_in ids id < length (replicate n false) = omega (arith, few, place-most ids id, length-replicate n false) in
        in-any (λ s. is_marked ids marks s && leads_by back joins s x) ids id here (and_from (is_marked ids marks id) (leads_by back joins id x) (get_or-set_same (replicate n false) (place_in ids id) true false low) led)

-- the place of the first that passes, and the length where none does
pub place-is : (ids : List ℕ) (x : ℕ) → unwrap_or (position (λ y. y == x) ids) (length ids) ≡ place_in ids x
place-is ids x = by (nat_lt (place_in ids x) (length ids)) refl
  where
    by : (h : Bool) → nat_lt (place_in ids x) (length ids) ≡ h → unwrap_or (cond h (Some (place_in ids x)) None) (length ids) ≡ place_in ids x
    by true e = refl
    by false e = let past : length ids ≤ place_in ids x = ltb-false (place_in ids x) (length ids) e in omega (arith, past, place-most ids x)

-- a place of an id is its first where no id that ends so stands before
pub noted-first : (ids firsts : List ℕ) → ((k : ℕ) → k < length ids → get_or firsts (get_or ids k 0 % 256) 0 ≤ k) → (x first : ℕ) → first ≡ get_or firsts (x % 256) 0 → first < length ids → get_or ids first 0 ≡ x → first ≡ place_in ids x
noted-first ids firsts noted x first is low here = omega (arith, no_later, no_earlier)
  where
    at : (place_in ids x < length ids) × (get_or ids (place_in ids x) 0 ≡ x)
    at = at-place ids x (in-any (λ y. y == x) ids (get_or ids first 0) (in-at ids first low) (eq-eqb (get_or ids first 0) x here))

    no_later : first ≤ place_in ids x
    no_later = omega (arith, is, ap (λ n. get_or firsts (n % 256) 0) at.1, noted (place_in ids x) at.0)

    no_earlier : place_in ids x ≤ first
    no_earlier = by (ltb first (place_in ids x)) refl
      where
        by : (h : Bool) → ltb first (place_in ids x) ≡ h → place_in ids x ≤ first
        by true before = absurd (true≢false (sym (eq-eqb (get_or ids first 0) x here) ∙ fails_before_first (λ y. y == x) ids first 0 (ltb-true first (place_in ids x) before)))
        by false after = ltb-false first (place_in ids x) after

-- one more is written
pub written-more : {X Y : Type 0} (f : X → Y) (xs : List X) (ys : List Y) (i : ℕ) (y : Y) (d : X) → i < length xs → i < length ys → take i ys ≡ map f (take i xs) → y ≡ f (get_or xs i d) → take (suc i) (set ys i y) ≡ map f (take (suc i) xs)
written-more f [] ys i y d low high so_far is = absurd (omega (arith, low))
written-more f (x ∷ xs) [] i y d low high so_far is = absurd (omega (arith, high))
written-more {X} {Y} f (x ∷ xs) (z ∷ ys) zero y d low high so_far is = ap (λ (w : Y). w ∷ []) is
written-more {X} {Y} f (x ∷ xs) (z ∷ ys) (suc i) y d low high so_far is =
    let first : z ≡ f x = ap (λ (l : List Y). get_or l 0 z) so_far in
    let rest : take i ys ≡ map f (take i xs) = ap (λ (l : List Y). drop 1 l) so_far in
    ap (λ (p : Y × List Y). p.0 ∷ p.1) (λ k. (first k, written-more f xs ys i y d (omega (arith, low)) (omega (arith, high)) rest is k))

-- the joins of places are within them
pub places-within : (ids : List ℕ) (n : ℕ) → length ids < n → (joins : List Join) → AllByRecursion (IsWithin n) (map (by_places ids) joins)
places-within ids n few [] = tt
places-within ids n few (j ∷ joins) = ((omega (arith, few, place-most ids j.source), omega (arith, few, place-most ids j.sink)), places-within ids n few joins)

-- no walk leads to the place after the last
pub none-past : (back : Bool) (ids : List ℕ) (joins : List Join) → AllByRecursion (IsListed ids) joins → (old new : List Bool)
    → ((q : ℕ → Bool) → IsClosed back (map (by_places ids) joins) q → ((k : ℕ) → get_or old k false ≡ true → q k ≡ true) → (k : ℕ) → get_or new k false ≡ true → q k ≡ true)
    → get_or old (length ids) false ≡ false → get_or new (length ids) false ≡ false
none-past back ids joins listed old new least none = false_from_ne_true _ (λ e. true≢false (sym (least q closed begins (length ids) e) ∙ ap not (eq-eqb (length ids) (length ids) refl)))
  where
    q : ℕ → Bool
    q k = not (k == length ids)

    before : (k : ℕ) → k < length ids → q k ≡ true
    before k low = ap not (false_from_ne_true (k == length ids) (λ e. let same = eqb-true k (length ids) e in absurd (omega (arith, low, same))))

    far : (h : Bool) (j : Join) → IsListed ids j → q (far_of h (by_places ids j)) ≡ true
    far true j both = before (place_in ids j.source) (at-place ids j.source both.0).0
    far false j both = before (place_in ids j.sink) (at-place ids j.sink both.1).0

    closed : IsClosed back (map (by_places ids) joins) q
    closed = mapped ids (λ j. q (near_of back j) ≡ true → q (far_of back j) ≡ true) joins (in-each (λ j. q (near_of back (by_places ids j)) ≡ true → q (far_of back (by_places ids j)) ≡ true) joins (λ j there near. far back j (in-all (IsListed ids) joins j listed there)))

    begins : (k : ℕ) → get_or old k false ≡ true → q k ≡ true
    begins k is = ap not (false_from_ne_true (k == length ids) (λ e. true≢false (sym is ∙ ap (λ (n : ℕ). get_or old n false) (eqb-true k (length ids) e) ∙ none)))

pub take-few : (n : ℕ) (joins : List Join) → length (take n joins) ≤ n
take-few zero joins = omega arith
take-few (suc n) [] = omega arith
take-few (suc n) (j ∷ joins) = omega (arith, take-few n joins)
