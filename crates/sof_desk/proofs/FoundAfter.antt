-- What is found in a list after an edit of it.
use Rattle.std.proofs.Common.{◌≡◌, Bool, true, false, List, [], ◌∷◌, map, find, Option, Some, refl, sym, ◌∙◌, ap, if◌then◌else◌}
use Rattle.std.specs.Option.{option_map}
use Rattle.sof_desk.specs.Edits.{changed_first}

-- as far as v sees, a search for q finds the same in front of any rest, whether this item stands there or that
abbrev pub SeenAs : {X Y : Type 0} (q : X → Bool) (v : Option X → Y) (x y : X) → Type 0
SeenAs {X} q v x y = (r s : Option X) → v r ≡ v s → v (if q x then Some x else r) ≡ v (if q y then Some y else s)

pub seen_itself : {X Y : Type 0} (q : X → Bool) (v : Option X → Y) (x : X) → SeenAs q v x x
seen_itself q v x r s same =
    elim (q x) as (λ b. v (if b then Some x else r) ≡ v (if b then Some x else s)) [ true ↦ refl | false ↦ same ]

-- two items that pass and are seen as the same
pub seen_alike : {X Y : Type 0} (q : X → Bool) (v : Option X → Y) (x y : X) → q x ≡ q y → v (Some x) ≡ v (Some y) → SeenAs q v x y
seen_alike {X} {Y} q v x y tests sees r s same =
    rw tests (elim (q y) as (λ b. v (if b then Some x else r) ≡ v (if b then Some y else s)) [ true ↦ sees | false ↦ same ])

-- two items that do not pass
pub seen_past : {X Y : Type 0} (q : X → Bool) (v : Option X → Y) (x y : X) → q x ≡ false → q y ≡ false → SeenAs q v x y
seen_past q v x y here there r s same = rw (here, there) same

pub find-map-seen : {X Y : Type 0} (q : X → Bool) (v : Option X → Y) (f : X → X) → ((x : X) → SeenAs q v (f x) x) → (xs : List X) → v (find q (map f xs)) ≡ v (find q xs)
find-map-seen q v f seen [] = refl
find-map-seen q v f seen (x ∷ xs) = seen x _ _ (find-map-seen q v f seen xs)

pub find-map-same : {X : Type 0} (q : X → Bool) (f : X → X) → ((x : X) → q (f x) ≡ q x) → (xs : List X) → find q (map f xs) ≡ option_map f (find q xs)
find-map-same q f same [] = refl
find-map-same {X} q f same (x ∷ xs) =
    let rest = find-map-same q f same xs in
    rw (same x) (elim (q x) as (λ b. (if b then Some (f x) else find q (map f xs)) ≡ option_map f (if b then Some x else find q xs)) [ true ↦ refl | false ↦ rest ])

-- the first that passes is changed, and seen as before
pub find-changed_first-seen : {X Y : Type 0} (q p : X → Bool) (v : Option X → Y) (change : X → X) (xs : List X) → ((x : X) → find p xs ≡ Some x → SeenAs q v (change x) x) → v (find q (changed_first p change xs)) ≡ v (find q xs)
find-changed_first-seen q p v change [] seen = refl
find-changed_first-seen {X} {Y} q p v change (x ∷ xs) seen =
    by_test (p x) refl (λ fails. find-changed_first-seen q p v change xs (λ y found. seen y (rw fails found)))
  where
    by_test : (b : Bool) → p x ≡ b → (p x ≡ false → v (find q (changed_first p change xs)) ≡ v (find q xs)) → v (find q (changed_first p change (x ∷ xs))) ≡ v (find q (x ∷ xs))
    by_test true passes rest = rw passes (seen x (rw passes refl) _ _ refl)
    by_test false fails rest = rw fails (seen_itself q v x _ _ (rest fails))

-- the first that passes is changed, and passes still
pub find-changed_first-same : {X : Type 0} (p : X → Bool) (change : X → X) → ((x : X) → p (change x) ≡ p x) → (xs : List X) → find p (changed_first p change xs) ≡ option_map change (find p xs)
find-changed_first-same p change same [] = refl
find-changed_first-same {X} p change same (x ∷ xs) = by_test (p x) refl (find-changed_first-same p change same xs)
  where
    by_test : (b : Bool) → p x ≡ b → find p (changed_first p change xs) ≡ option_map change (find p xs) → find p (changed_first p change (x ∷ xs)) ≡ option_map change (find p (x ∷ xs))
    by_test true passes rest = rw passes (rw (same x ∙ passes) refl)
    by_test false fails rest = rw fails (rw fails rest)

-- where no item passes before, the one that is changed is found
pub find-changed_first-new : {X : Type 0} (q p : X → Bool) (f change : X → X) → ((x : X) → q (f x) ≡ false) → ((x : X) → q (change x) ≡ true) → (xs : List X) → find q (changed_first p change (map f xs)) ≡ option_map change (find p (map f xs))
find-changed_first-new q p f change before after [] = refl
find-changed_first-new {X} q p f change before after (x ∷ xs) =
    by_test (p (f x)) refl (find-changed_first-new q p f change before after xs)
  where
    by_test : (b : Bool) → p (f x) ≡ b → find q (changed_first p change (map f xs)) ≡ option_map change (find p (map f xs)) → find q (changed_first p change (map f (x ∷ xs))) ≡ option_map change (find p (map f (x ∷ xs)))
    by_test true passes rest = rw passes (rw (after (f x)) refl)
    by_test false fails rest = rw fails (rw (before x) rest)

-- what is found passes
pub found_passes : {X : Type 0} (p : X → Bool) (xs : List X) (x : X) → find p xs ≡ Some x → p x ≡ true
found_passes p [] x found = cc
found_passes {X} p (y ∷ ys) x found = by_test (p y) refl (λ there. found_passes p ys x there)
  where
    by_test : (b : Bool) → p y ≡ b → (find p ys ≡ Some x → p x ≡ true) → p x ≡ true
    by_test true passes rest = let same : Some y ≡ Some x = rw passes at found in let is : y ≡ x = cc in ap p (sym is) ∙ passes
    by_test false fails rest = rest (rw fails at found)
