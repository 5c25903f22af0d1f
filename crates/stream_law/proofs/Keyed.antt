-- Lemmas on lists of records with a key, as tables from keys to values.
use Rattle.std.proofs.Common.{◌≡◌, refl, ap, ◌∙◌, ℕ, List, [], ◌∷◌, map, Some, Bool, true, false, cond, ◌==◌, ◌||◌}
use Rattle.std.proofs.lemmas.Bool.{eq-eqb, eqb-true, true≢false}
use Rattle.std.specs.Option.{option_map_or}
use Rattle.std.specs.List.{AllByRecursion, IsDistinct, find, list_any}
use Rattle.stream_law.specs.Table.{value_of}
use Rattle.stream_law.specs.Placed.{HasDistinct}
use Rattle.stream_law.specs.Order.{is_among}

-- the table of records' keys and values
abbrev pub keyed : {X Y : Type 0} → (X → ℕ) → (X → Y) → List X → List (ℕ × Y)
keyed key value xs = map (λ x. (key x, value x)) xs

-- where no key comes twice, each record has the value of its key
pub keyed-values : {X Y : Type 0} (key : X → ℕ) (value : X → Y) (other : Y) (xs : List X) → HasDistinct key xs → AllByRecursion (λ x. value_of other (keyed key value xs) (key x) ≡ value x) xs
unfolding IsDistinct
keyed-values key value other [] distinct = tt
keyed-values {X} {Y} key value other (x ∷ xs) distinct =
    (ap (λ h. cond h (value x) (value_of other (keyed key value xs) (key x))) (eq-eqb (key x) (key x) refl), behind xs distinct.0 (keyed-values key value other xs distinct.1))
  where
    behind : (ys : List X) → AllByRecursion (λ n. (key x == n) ≡ false) (map key ys) → AllByRecursion (λ y. value_of other (keyed key value xs) (key y) ≡ value y) ys → AllByRecursion (λ y. cond (key x == key y) (value x) (value_of other (keyed key value xs) (key y)) ≡ value y) ys
    behind [] apart rest = tt
    behind (y ∷ ys) apart rest = (ap (λ h. cond h (value x) (value_of other (keyed key value xs) (key y))) apart.0 ∙ rest.0, behind ys apart.1 rest.1)

-- records that are each made anew as they were are the same list
pub map-same : {X : Type 0} (make : X → X) (xs : List X) → AllByRecursion (λ x. make x ≡ x) xs → map make xs ≡ xs
map-same make [] same = refl
map-same make (x ∷ xs) same = ap (λ y. y ∷ map make xs) same.0 ∙ ap (λ ys. x ∷ ys) (map-same make xs same.1)

-- what follows for each record
pub all-from : {X : Type 0} {P Q : X → Type 0} (xs : List X) → ((x : X) → P x → Q x) → AllByRecursion P xs → AllByRecursion Q xs
all-from [] step all = tt
all-from (x ∷ xs) step all = (step x all.0, all-from xs step all.1)

-- and from two facts for each record
pub all-both : {X : Type 0} {P Q R : X → Type 0} (xs : List X) → ((x : X) → P x → Q x → R x) → AllByRecursion P xs → AllByRecursion Q xs → AllByRecursion R xs
all-both [] step ps qs = tt
all-both (x ∷ xs) step ps qs = (step x ps.0 qs.0, all-both xs step ps.1 qs.1)

-- ---- look-ups by key

-- a look-up in a list of records is one in the table of their keys and values
pub value_of-keyed : {X Y : Type 0} (key : X → ℕ) (value : X → Y) (other : Y) (xs : List X) (id : ℕ) → value_of other (map (λ x. (key x, value x)) xs) id ≡ option_map_or value (find (λ x. key x == id) xs) other
value_of-keyed key value other [] id = refl
value_of-keyed {X} {Y} key value other (x ∷ xs) id = by_equal (key x == id) (value_of-keyed key value other xs id)
  where
    by_equal : (h : Bool) → value_of other (map (λ x. (key x, value x)) xs) id ≡ option_map_or value (find (λ x. key x == id) xs) other → cond h (value x) (value_of other (map (λ x. (key x, value x)) xs) id) ≡ option_map_or value (cond h (Some x) (find (λ x. key x == id) xs)) other
    by_equal true rest = refl
    by_equal false rest = rest

-- records that were made anew, each from its key
pub find-remade : {X Y : Type 0} (key : X → ℕ) (value : X → Y) (make : X → X) (f : ℕ → Y) (other : Y) → ((x : X) → key (make x) ≡ key x) → ((x : X) → value (make x) ≡ f (key x)) → (xs : List X) (id : ℕ) → option_map_or value (find (λ x. key x == id) (map make xs)) other ≡ cond (is_among (map key xs) id) (f id) other
find-remade key value make f other keys values [] id = refl
find-remade {X} {Y} key value make f other keys values (x ∷ xs) id =
    ap (λ k. option_map_or value (cond (k == id) (Some (make x)) (find (λ x. key x == id) (map make xs))) other) (keys x)
    ∙ by_equal (key x == id) refl (find-remade key value make f other keys values xs id)
  where
    by_equal : (h : Bool) → (key x == id) ≡ h → option_map_or value (find (λ x. key x == id) (map make xs)) other ≡ cond (is_among (map key xs) id) (f id) other → option_map_or value (cond h (Some (make x)) (find (λ x. key x == id) (map make xs))) other ≡ cond (h || is_among (map key xs) id) (f id) other
    by_equal true e rest = values x ∙ ap f (eqb-true (key x) id e)
    by_equal false e rest = rest

-- and have their keys
pub keys-remade : {X : Type 0} (key : X → ℕ) (make : X → X) → ((x : X) → key (make x) ≡ key x) → (xs : List X) → map key (map make xs) ≡ map key xs
keys-remade key make keys [] = refl
keys-remade key make keys (x ∷ xs) = ap (λ k. k ∷ map key (map make xs)) (keys x) ∙ ap (λ l. key x ∷ l) (keys-remade key make keys xs)

-- a record with a key is there where the key is among the keys
pub list_any-keys : {X : Type 0} (key : X → ℕ) (xs : List X) (id : ℕ) → list_any (λ x. key x == id) xs ≡ is_among (map key xs) id
list_any-keys key [] id = refl
list_any-keys key (x ∷ xs) id = ap (λ t. (key x == id) || t) (list_any-keys key xs id)

-- a key that is not there is not found
pub find-keyless : {X Y : Type 0} (key : X → ℕ) (value : X → Y) (other : Y) (xs : List X) (id : ℕ) → is_among (map key xs) id ≡ false → option_map_or value (find (λ x. key x == id) xs) other ≡ other
find-keyless key value other [] id gone = refl
find-keyless {X} {Y} key value other (x ∷ xs) id gone = by_equal (key x == id) gone (find-keyless key value other xs id)
  where
    by_equal : (h : Bool) → (h || is_among (map key xs) id) ≡ false → (is_among (map key xs) id ≡ false → option_map_or value (find (λ x. key x == id) xs) other ≡ other) → option_map_or value (cond h (Some x) (find (λ x. key x == id) xs)) other ≡ other
    by_equal true h rest = absurd (true≢false h)
    by_equal false h rest = rest h
