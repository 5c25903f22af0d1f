-- The slots of a list of open files.
use Rattle.std.proofs.Common.{◌≡◌, ◌≤◌, ℕ, zero, suc, Bool, true, false, nat_eq, List, [], ◌∷◌, ◌++◌, length, get_or, set, map, find, position, Some, None, option_map, refl, sym, ◌∙◌, ap, subst, arith, ◌||◌, if◌then◌else◌}
use Rattle.std.specs.List.{position_or_len}
use Rattle.std.proofs.lemmas.List.{map-append}
use Rattle.sof_files.specs.RealDesk.{is_slot_of, slots_with}
use Rattle.sof_desk.proofs.CountLaws.{same_number}
use Rattle.sof_desk.specs.Edits.{put_first}
use Rattle.sof_desk.proofs.First.{IsFirst, is_first, later, head_fails, none_passes, find-set-beside, find-push, put_first-at, put_first-none}

-- whether a file is open under a slot
abbrev pub under : {X : Type 0} → (X → ℕ) → ℕ → X → Bool
under f slot x = nat_eq (f x) slot

is_slot-at : {X : Type 0} (f : X → ℕ) (slot : ℕ) (xs : List X) (i : ℕ) (d : X) → IsFirst (under f slot) xs i d → is_slot_of slot (map f xs) ≡ true
is_slot-at f slot [] i d first = absurd (omega (arith, first.within))
is_slot-at f slot (x ∷ xs) zero d first = rw first.passes refl
is_slot-at f slot (x ∷ xs) (suc i) d first =
    rw (first.before 0 (omega arith)) (is_slot-at f slot xs i d (later (under f slot) x xs i d first))

map-set-under : {X : Type 0} (f : X → ℕ) (slot : ℕ) (xs : List X) (i : ℕ) (d y : X) → IsFirst (under f slot) xs i d → f y ≡ slot → map f (set xs i y) ≡ map f xs
map-set-under f slot [] i d y first is = absurd (omega (arith, first.within))
map-set-under f slot (x ∷ xs) zero d y first is = ap (λ n. n ∷ map f xs) (is ∙ sym (same_number (f x) slot first.passes))
map-set-under f slot (x ∷ xs) (suc i) d y first is =
    ap (λ ns. f x ∷ ns) (map-set-under f slot xs i d y (later (under f slot) x xs i d first) is)

-- a file in the place of another one of its slot
pub slots-set : {X : Type 0} (f : X → ℕ) (slot : ℕ) (xs : List X) (i : ℕ) (y : X) → position (under f slot) xs ≡ Some i → f y ≡ slot → map f (set xs i y) ≡ slots_with slot (map f xs)
slots-set f slot xs i y found is =
    let first = is_first (under f slot) xs i y found in
    rw (is_slot-at f slot xs i y first) (map-set-under f slot xs i y y first is)

is_slot-past : {X : Type 0} (f : X → ℕ) (slot : ℕ) (xs : List X) → length xs ≤ position_or_len (under f slot) xs → is_slot_of slot (map f xs) ≡ false
is_slot-past f slot [] fails = refl
is_slot-past f slot (x ∷ xs) fails =
    let both = head_fails (under f slot) x xs fails in rw both.0 (is_slot-past f slot xs both.1)

-- a file of a new slot
pub slots-push : {X : Type 0} (f : X → ℕ) (slot : ℕ) (xs : List X) (y : X) → position (under f slot) xs ≡ None → f y ≡ slot → map f (xs ++ y ∷ []) ≡ slots_with slot (map f xs)
slots-push f slot xs y nowhere is =
    let none = is_slot-past f slot xs (none_passes (under f slot) xs nowhere) in
    rw none (map-append f xs (y ∷ []) ∙ ap (λ n. map f xs ++ n ∷ []) is)

-- an item in the place of one of the same slot
pub map-set-alike : {X B : Type 0} (f : X → B) (xs : List X) (i : ℕ) (d y : X) → f y ≡ f (get_or xs i d) → map f (set xs i y) ≡ map f xs
map-set-alike f [] i d y same = refl
map-set-alike f (x ∷ xs) zero d y same = ap (λ n. n ∷ map f xs) same
map-set-alike f (x ∷ xs) (suc i) d y same = ap (λ ns. f x ∷ ns) (map-set-alike f xs i d y same)

-- what is found under another slot, where a file stands in the place of the first one of its slot, or after all others
pub beside-set : {X : Type 0} (f : X → ℕ) (slot : ℕ) (xs : List X) (i : ℕ) (y : X) → position (under f slot) xs ≡ Some i → f y ≡ slot → (other : ℕ) → nat_eq slot other ≡ false → find (under f other) (set xs i y) ≡ find (under f other) xs
beside-set f slot xs i y found is other apart =
    let first = is_first (under f slot) xs i y found in
    find-set-beside (under f other) xs i y y first.within (ap (λ n. nat_eq n other) (same_number _ _ first.passes) ∙ apart) (ap (λ n. nat_eq n other) is ∙ apart)

pub beside-push : {X : Type 0} (f : X → ℕ) (slot : ℕ) (xs : List X) (y : X) → f y ≡ slot → (other : ℕ) → nat_eq slot other ≡ false → find (under f other) (xs ++ y ∷ []) ≡ find (under f other) xs
beside-push f slot xs y is other apart = find-push (under f other) xs y (ap (λ n. nat_eq n other) is ∙ apart)

is_slot-push : (slot other : ℕ) (slots : List ℕ) → is_slot_of other (slots ++ slot ∷ []) ≡ (if nat_eq slot other then true else is_slot_of other slots)
is_slot-push slot other [] = elim (nat_eq slot other) as (λ b. (b || false) ≡ (if b then true else false)) [ true ↦ refl | false ↦ refl ]
is_slot-push slot other (n ∷ slots) =
    let rest = is_slot-push slot other slots in
    ap (λ b. nat_eq n other || b) rest
    ∙ elim (nat_eq n other) as (λ a. (a || (if nat_eq slot other then true else is_slot_of other slots)) ≡ (if nat_eq slot other then true else (a || is_slot_of other slots))) [ true ↦ (elim (nat_eq slot other) as (λ b. true ≡ (if b then true else true)) [ true ↦ refl | false ↦ refl ]) | false ↦ refl ]

-- whether a slot is one of these, where there is one more
pub is_slot-with : (slot other : ℕ) (slots : List ℕ) → is_slot_of other (slots_with slot slots) ≡ (if nat_eq slot other then true else is_slot_of other slots)
is_slot-with slot other slots = by_test (is_slot_of slot slots) refl (nat_eq slot other) refl
  where
    by_test : (there : Bool) → is_slot_of slot slots ≡ there → (same : Bool) → nat_eq slot other ≡ same → is_slot_of other (slots_with slot slots) ≡ (if same then true else is_slot_of other slots)
    by_test true there true same = rw there (subst (λ n. is_slot_of n slots ≡ true) (same_number slot other same) there)
    by_test true there false same = rw there refl
    by_test false there same is = rw there (is_slot-push slot other slots ∙ rw is refl)

-- whether a slot is one of these after a call that may add one
pub is_slot-after : (slot : ℕ) (done : Bool) (old new : List ℕ) → new ≡ (if done then slots_with slot old else old) → (other : ℕ) → is_slot_of other new ≡ (if done then (if nat_eq slot other then true else is_slot_of other old) else is_slot_of other old)
is_slot-after slot true old new is other = ap (is_slot_of other) is ∙ is_slot-with slot other old
is_slot-after slot false old new is other = ap (is_slot_of other) is

-- each slot with a name
abbrev pub tag : {X : Type 0} → (X → ℕ) → (X → List ℕ) → X → ℕ × List ℕ
tag f name x = (f x, name x)

map-put_first : {X : Type 0} (f : X → ℕ) (name : X → List ℕ) (slot : ℕ) (xs : List X) (y : X) → map (tag f name) (put_first (under f slot) y xs) ≡ put_first (λ named. nat_eq named.0 slot) (tag f name y) (map (tag f name) xs)
map-put_first f name slot [] y = refl
map-put_first f name slot (x ∷ xs) y =
    let rest = map-put_first f name slot xs y in
    by_test (nat_eq (f x) slot) refl rest
  where
    by_test : (b : Bool) → nat_eq (f x) slot ≡ b → map (tag f name) (put_first (under f slot) y xs) ≡ put_first (λ named. nat_eq named.0 slot) (tag f name y) (map (tag f name) xs) → map (tag f name) (put_first (under f slot) y (x ∷ xs)) ≡ put_first (λ named. nat_eq named.0 slot) (tag f name y) (map (tag f name) (x ∷ xs))
    by_test true is rest = rw is refl
    by_test false is rest = rw is (ap (λ ts. tag f name x ∷ ts) rest)

-- a file in the place of another one of its slot, or of a new slot
pub names-set : {X : Type 0} (f : X → ℕ) (name : X → List ℕ) (slot : ℕ) (told : List ℕ) (xs : List X) (i : ℕ) (y : X) → position (under f slot) xs ≡ Some i → f y ≡ slot → name y ≡ told → map (tag f name) (set xs i y) ≡ put_first (λ named. nat_eq named.0 slot) (slot, told) (map (tag f name) xs)
names-set f name slot told xs i y found is called =
    ap (map (tag f name)) (sym (put_first-at (under f slot) y xs i y (is_first (under f slot) xs i y found)))
    ∙ map-put_first f name slot xs y
    ∙ (λ k. put_first (λ named. nat_eq named.0 slot) (is k, called k) (map (tag f name) xs))

pub names-push : {X : Type 0} (f : X → ℕ) (name : X → List ℕ) (slot : ℕ) (told : List ℕ) (xs : List X) (y : X) → position (under f slot) xs ≡ None → f y ≡ slot → name y ≡ told → map (tag f name) (xs ++ y ∷ []) ≡ put_first (λ named. nat_eq named.0 slot) (slot, told) (map (tag f name) xs)
names-push f name slot told xs y nowhere is called =
    ap (map (tag f name)) (sym (put_first-none (under f slot) y xs nowhere))
    ∙ map-put_first f name slot xs y
    ∙ (λ k. put_first (λ named. nat_eq named.0 slot) (is k, called k) (map (tag f name) xs))

-- what is found under a slot, by the names
pub named-at : {X : Type 0} (f : X → ℕ) (name : X → List ℕ) (slot : ℕ) (xs : List X) → find (λ named. nat_eq named.0 slot) (map (tag f name) xs) ≡ option_map (tag f name) (find (under f slot) xs)
named-at f name slot [] = refl
named-at f name slot (x ∷ xs) = by_test (nat_eq (f x) slot) refl (named-at f name slot xs)
  where
    by_test : (b : Bool) → nat_eq (f x) slot ≡ b → find (λ named. nat_eq named.0 slot) (map (tag f name) xs) ≡ option_map (tag f name) (find (under f slot) xs) → find (λ named. nat_eq named.0 slot) (map (tag f name) (x ∷ xs)) ≡ option_map (tag f name) (find (under f slot) (x ∷ xs))
    by_test true is rest = rw is refl
    by_test false is rest = rw is rest

find-past : {X : Type 0} (p : X → Bool) (xs : List X) → length xs ≤ position_or_len p xs → find p xs ≡ None
find-past p [] fails = refl
find-past p (x ∷ xs) fails = let both = head_fails p x xs fails in rw both.0 (find-past p xs both.1)

pub find-none : {X : Type 0} (p : X → Bool) (xs : List X) → position p xs ≡ None → find p xs ≡ None
find-none p xs nowhere = find-past p xs (none_passes p xs nowhere)
