-- The lists of a graph, read off the widgets one after another.
use Rattle.std.proofs.Common.{◌≡◌, refl, sym, ap, ◌∙◌, ℕ, zero, suc, ◌+◌, ◌≤◌, List, [], ◌∷◌, ◌++◌, length, count_by, Bool, true, false, cond, slice_get, Option, Some, None, option_and_then, arith}
use Rattle.std.specs.Option.{option_to_list}
use Rattle.std.specs.List.{filter_map, cons_option, range_with_len}
use Rattle.std.proofs.lemmas.List.Sums.{sum_by-cons}
use Rattle.tplg_widgets.specs.declared.entry.Entry.{Entry}

-- what f gives of each, by ids from i on
abbrev pub indexed : {Y : Type 0} → (ℕ → Entry → Option Y) → ℕ → List Entry → List Y
indexed f i [] = []
indexed f i (p ∷ ps) = cons_option (f i p) (indexed f (i + 1) ps)

-- a search by places is the same
by-places : {Y : Type 0} (f : ℕ → Entry → Option Y) (whole : List Entry) (i : ℕ) (ps : List Entry) → ((k : ℕ) → slice_get whole (i + k) ≡ slice_get ps k) → filter_map (λ id. option_and_then (f id) (slice_get whole id)) (range_with_len i (length ps)) ≡ indexed f i ps
by-places f whole i [] same = refl
by-places {Y} f whole i (p ∷ ps) same =
    ap (λ o. cons_option o (filter_map (λ id. option_and_then (f id) (slice_get whole id)) (range_with_len (i + 1) (length ps)))) (ap (option_and_then (f i)) here)
    ∙ ap (cons_option (f i p)) (by-places f whole (i + 1) ps later)
  where
    here : slice_get whole i ≡ Some p
    here = (let e : i ≡ i + 0 = omega arith in ap (slice_get whole) e) ∙ same 0

    later : (k : ℕ) → slice_get whole (i + 1 + k) ≡ slice_get ps k
    later k = (let e : i + 1 + k ≡ i + suc k = omega arith in ap (slice_get whole) e) ∙ same (suc k)

pub by-index : {Y : Type 0} (f : ℕ → Entry → Option Y) (ps : List Entry) → filter_map (λ id. option_and_then (f id) (slice_get ps id)) (range_with_len 0 (length ps)) ≡ indexed f 0 ps
by-index f ps = by-places f ps 0 ps (λ k. let e : 0 + k ≡ k = omega arith in ap (slice_get ps) e)

-- one more place of a search
cons-append : {Y : Type 0} (o : Option Y) (xs ys : List Y) → cons_option o (xs ++ ys) ≡ cons_option o xs ++ ys
cons-append None xs ys = refl
cons-append (Some y) xs ys = refl

one-alone : {Y : Type 0} (o : Option Y) → cons_option o [] ≡ option_to_list o
one-alone None = refl
one-alone (Some y) = refl

pub filter_map-more : {Y : Type 0} (f : ℕ → Option Y) (a n : ℕ) → filter_map f (range_with_len a (suc n)) ≡ filter_map f (range_with_len a n) ++ option_to_list (f (a + n))
filter_map-more f a zero = one-alone (f a) ∙ (let e : a ≡ a + 0 = omega arith in ap (λ k. option_to_list (f k)) e)
filter_map-more f a (suc n) =
    ap (cons_option (f a)) (filter_map-more f (a + 1) n)
    ∙ cons-append (f a) (filter_map f (range_with_len (a + 1) n)) (option_to_list (f (a + 1 + n)))
    ∙ (let e : a + 1 + n ≡ a + suc n = omega arith in ap (λ k. cons_option (f a) (filter_map f (range_with_len (a + 1) n)) ++ option_to_list (f k)) e)

-- and at the end
pub filter_map-next : {Y : Type 0} (f : ℕ → Option Y) (n : ℕ) → filter_map f (range_with_len 0 (n + 1)) ≡ filter_map f (range_with_len 0 n) ++ option_to_list (f n)
filter_map-next f n = (let e : n + 1 ≡ suc n = omega arith in ap (λ k. filter_map f (range_with_len 0 k)) e) ∙ filter_map-more f 0 n ∙ (let e : 0 + n ≡ n = omega arith in ap (λ k. filter_map f (range_with_len 0 n) ++ option_to_list (f k)) e)

-- no more of them than widgets that pass a test, where the others give nothing
pub length-indexed : {Y : Type 0} (f : ℕ → Entry → Option Y) (q : Entry → Bool) → ((i : ℕ) (p : Entry) → q p ≡ false → f i p ≡ None) → (i : ℕ) (ps : List Entry) → length (indexed f i ps) ≤ count_by q ps
length-indexed f q none i [] = omega arith
length-indexed {Y} f q none i (p ∷ ps) = by_test (q p) refl (f i p) refl (length-indexed f q none (i + 1) ps)
  where
    by_test : (b : Bool) → q p ≡ b → (o : Option Y) → f i p ≡ o → length (indexed f (i + 1) ps) ≤ count_by q ps → length (cons_option o (indexed f (i + 1) ps)) ≤ count_by q (p ∷ ps)
    by_test b e None g low = let s = sum_by-cons (λ x. cond (q x) 1 0) p ps in omega (arith, s, low)
    by_test true e (Some y) g low = let s = sum_by-cons (λ x. cond (q x) 1 0) p ps ∙ ap (λ t. cond t 1 0 + count_by q ps) e in omega (arith, s, low)
    by_test false e (Some y) g low = let n = sym g ∙ none i p e in cc
