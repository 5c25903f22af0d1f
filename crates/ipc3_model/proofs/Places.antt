-- Places none of which is bad.
use Rattle.std.proofs.Common.{◌≡◌, ℕ, zero, suc, ◌+◌, ◌≤◌, Bool, true, false, ◌&&◌, cond, List, [], ◌∷◌, ◌++◌, Option, Some, None, refl, arith}
use Rattle.std.specs.List.{find}
use Rattle.std.proofs.lemmas.Bool.{leb-true, le-leb, and_parts, not-false}
use Rattle.std.specs.Prelude.{nat_le}
use Rattle.sof_base.specs.Slots.{word_at}
use Rattle.ipc3_model.specs.Places.{Place, is_bad}

-- the word lies within the size word, and its value is allowed
pub record Good (b : List ℕ) (place : Place) : Type 0 where
  pub within : place.at + place.width ≤ word_at b 0
  pub allowed : place.good ≡ true

abbrev pub AllGood : List ℕ → List Place → Type 0
AllGood b [] = Unit {0}
AllGood b (place ∷ places) = Good b place × AllGood b places

pub Good-not_bad : (b : List ℕ) (place : Place) → Good b place → is_bad b place ≡ false
Good-not_bad b place g = rw (le-leb (place.at + place.width) (word_at b 0) g.within, g.allowed) refl

pub not_bad-Good : (b : List ℕ) (place : Place) → is_bad b place ≡ false → Good b place
not_bad-Good b place e =
    let both = and_parts (nat_le (place.at + place.width) (word_at b 0)) place.good (not-false _ e) in
    record { within = leb-true _ _ both.0; allowed = both.1 }

-- no place is bad exactly where all are good
pub find-none : (b : List ℕ) (places : List Place) → AllGood b places → find (is_bad b) places ≡ None
find-none b [] g = refl
find-none b (place ∷ places) g = rw (Good-not_bad b place g.0) (find-none b places g.1)

found_none : {A : Type 0} (t : Bool) (x : A) (o : Option A) → cond t (Some x) o ≡ None → (t ≡ false) × (o ≡ None)
found_none true x o e = absurd cc
found_none false x o e = (refl, e)

pub none-AllGood : (b : List ℕ) (places : List Place) → find (is_bad b) places ≡ None → AllGood b places
none-AllGood b [] e = tt
none-AllGood b (place ∷ places) e =
    let both = found_none (is_bad b place) place (find (is_bad b) places) e in
    (not_bad-Good b place both.0, none-AllGood b places both.1)

pub AllGood-append : (b : List ℕ) (ps qs : List Place) → AllGood b ps → AllGood b qs → AllGood b (ps ++ qs)
AllGood-append b [] qs g h = h
AllGood-append b (p ∷ ps) qs g h = (g.0, AllGood-append b ps qs g.1 h)

pub AllGood-split : (b : List ℕ) (ps qs : List Place) → AllGood b (ps ++ qs) → AllGood b ps × AllGood b qs
AllGood-split b [] qs g = (tt, g)
AllGood-split b (p ∷ ps) qs g =
    let rest = AllGood-split b ps qs g.1 in
    ((g.0, rest.0), rest.1)

-- ---- places that end by a number, and whose values are allowed

-- all values are allowed
abbrev pub all_allowed : List Place → Bool
all_allowed [] = true
all_allowed (place ∷ places) = place.good && all_allowed places

-- all end by n
abbrev pub end_by : ℕ → List Place → Bool
end_by n [] = true
end_by n (place ∷ places) = nat_le (place.at + place.width) n && end_by n places

pub AllGood-from : (b : List ℕ) (n : ℕ) (places : List Place) → n ≤ word_at b 0 → end_by n places ≡ true → all_allowed places ≡ true → AllGood b places
AllGood-from b n [] room ends allowed = tt
AllGood-from b n (place ∷ places) room ends allowed =
    let end = and_parts (nat_le (place.at + place.width) n) (end_by n places) ends in
    let both = and_parts place.good (all_allowed places) allowed in
    let here : place.at + place.width ≤ n = leb-true _ _ end.0 in
    (record { within = omega (arith, here, room); allowed = both.0 }, AllGood-from b n places room end.1 both.1)

-- ---- the place of a number

-- the place of this number, where there is one
abbrev pub GoodAt : List ℕ → List Place → ℕ → Type 0
GoodAt b [] i = Unit {0}
GoodAt b (place ∷ places) zero = Good b place
GoodAt b (place ∷ places) (suc i) = GoodAt b places i

pub good_at : (b : List ℕ) (places : List Place) (i : ℕ) → AllGood b places → GoodAt b places i
good_at b [] i g = tt
good_at b (place ∷ places) zero g = g.0
good_at b (place ∷ places) (suc i) g = good_at b places i g.1
