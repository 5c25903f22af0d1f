-- Walks of joins as lists of the ids that they come to.
use Rattle.std.proofs.Common.{◌≡◌, refl, sym, ap, ◌∙◌, subst, ℕ, zero, suc, List, [], ◌∷◌, filter, length, Bool, true, false, not, inl, inr, ◌⊎◌, ◌==◌, ◌&&◌}
use Rattle.std.proofs.lemmas.Bool.{and_parts, and_from, eqb-true, eq-eqb}
use Rattle.std.specs.List.{list_any}
use Rattle.stream_law.specs.declared.graph.Join.{Join}
use Rattle.stream_law.specs.declared.graph.Graph.{Graph}
use Rattle.stream_law.specs.Ways.{leads, reaches, is_echo, way_joins, ways_to}
use Rattle.stream_law.proofs.Members.{any-in, in-any, in-kept}
use Rattle.stream_law.proofs.Walking.{Path, Walks, path-of, walks-lead}
use Rattle.row_laws.proofs.Fewer.{any-of_kept, eq-refl}

-- a join goes from a to c
abbrev pub goes_from : List Join → ℕ → ℕ → Bool
goes_from js a c = list_any (λ j. j.source == a && j.sink == c) js

-- joins lead from a over each id of a list to b, the last
abbrev pub IsTrip : List Join → ℕ → List ℕ → ℕ → Type 0
IsTrip js a [] b = a ≡ b
IsTrip js a (c ∷ cs) b = (goes_from js a c ≡ true) × IsTrip js c cs b

-- there is such a list
pub record Trip (js : List Join) (a b : ℕ) : Type 0 where
  pub ids : List ℕ
  pub goes : IsTrip js a ids b

pub trip-none : (js : List Join) (a b : ℕ) → a ≡ b → Trip js a b
trip-none js a b e = record { ids = []; goes = e }

pub trip-first : (js : List Join) (a c b : ℕ) → goes_from js a c ≡ true → Trip js c b → Trip js a b
trip-first js a c b step t = record { ids = c ∷ t.ids; goes = (step, t.goes) }

pub trip-last : (js : List Join) (a c b : ℕ) → Trip js a c → goes_from js c b ≡ true → Trip js a b
trip-last js a c b t step = by t.ids a t.goes
  where
    by : (ids : List ℕ) (x : ℕ) → IsTrip js x ids c → Trip js x b
    by [] x e = trip-first js x b b (ap (λ n. goes_from js n b) e ∙ step) (trip-none js b b refl)
    by (y ∷ ids) x g = trip-first js x y b g.0 (by ids y g.1)

-- a trip ends where it begins, or has a last step
pub trip-end : (js : List Join) (a b : ℕ) → Trip js a b → (a ≡ b) ⊎ ((c : ℕ) × Trip js a c × (goes_from js c b ≡ true))
trip-end js a b t = by t.ids a t.goes
  where
    more : (x y : ℕ) → goes_from js x y ≡ true → (y ≡ b) ⊎ ((c : ℕ) × Trip js y c × (goes_from js c b ≡ true)) → (c : ℕ) × Trip js x c × (goes_from js c b ≡ true)
    more x y step (inl e) = (x, trip-none js x x refl, ap (λ n. goes_from js x n) (sym e) ∙ step)
    more x y step (inr r) = (r.0, trip-first js x y r.0 step r.1, r.2)

    by : (ids : List ℕ) (x : ℕ) → IsTrip js x ids b → (x ≡ b) ⊎ ((c : ℕ) × Trip js x c × (goes_from js c b ≡ true))
    by [] x e = inl e
    by (y ∷ ids) x g = inr (more x y g.0 (by ids y g.1))

-- and a first
pub trip-start : (js : List Join) (a b : ℕ) → Trip js a b → (a ≡ b) ⊎ ((c : ℕ) × (goes_from js a c ≡ true) × Trip js c b)
trip-start js a b t = by t.ids t.goes
  where
    by : (ids : List ℕ) → IsTrip js a ids b → (a ≡ b) ⊎ ((c : ℕ) × (goes_from js a c ≡ true) × Trip js c b)
    by [] e = inl e
    by (c ∷ ids) g = inr (c, g.0, record { ids = ids; goes = g.1 })

-- ---- walks of joins are trips, and trips are walks

trip-walked : (js : List Join) (n a b : ℕ) → Path js n a b → Trip js a b
trip-walked js zero a b e = trip-none js a b e
trip-walked js (suc n) a b (j, there, from, rest) =
    trip-first js a j.sink b (in-any (λ (k : Join). k.source == a && k.sink == j.sink) js j there (and_from (j.source == a) (j.sink == j.sink) (eq-eqb j.source a from) (eq-refl j.sink))) (trip-walked js n j.sink b rest)

walked-trip : (js : List Join) (ids : List ℕ) (a b : ℕ) → IsTrip js a ids b → Walks js a b
walked-trip js [] a b e = (0, e)
walked-trip js (c ∷ ids) a b goes =
    let found = any-in (λ (j : Join). j.source == a && j.sink == c) js goes.0 in
    let j : Join = found.0 in
    let parts = and_parts (j.source == a) (j.sink == c) found.2 in
    let rest = walked-trip js ids c b goes.1 in
    (suc rest.0, (j, found.1, eqb-true j.source a parts.0, subst (λ n. Path js rest.0 n b) (sym (eqb-true j.sink c parts.1)) rest.1))

pub trip-of : (js : List Join) (n a b : ℕ) → leads js n a b ≡ true → Trip js a b
trip-of js n a b e = let w = path-of js n a b e in trip-walked js w.0 a b w.1

pub trip-leads : (js : List Join) (a b : ℕ) → Trip js a b → leads js (length js) a b ≡ true
trip-leads js a b t = walks-lead js a b (walked-trip js t.ids a b t.goes)

-- ---- of a graph

pub trip-reached : (g : Graph) (a b : ℕ) → reaches g a b ≡ true → Trip g.joins a b
unfolding reaches
trip-reached g a b e = trip-of g.joins (length g.joins) a b e

pub reached-trip : (g : Graph) (a b : ℕ) → Trip g.joins a b → reaches g a b ≡ true
unfolding reaches
reached-trip g a b t = trip-leads g.joins a b t

-- ---- without echo edges

pub trip-ways : (g : Graph) (a b : ℕ) → ways_to g a b ≡ true → Trip (way_joins g) a b
unfolding ways_to
trip-ways g a b e = trip-of (way_joins g) (length (way_joins g)) a b e

pub ways-trip : (g : Graph) (a b : ℕ) → Trip (way_joins g) a b → ways_to g a b ≡ true
unfolding ways_to
ways-trip g a b t = trip-leads (way_joins g) a b t

-- a join of a way is a join, and one between what is no echo edge is a join of ways
pub way-goes : (g : Graph) (a b : ℕ) → goes_from (way_joins g) a b ≡ true → goes_from g.joins a b ≡ true
unfolding way_joins
way-goes g a b e = any-of_kept (λ (j : Join). not (is_echo g j.source) && not (is_echo g j.sink)) (λ j. j.source == a && j.sink == b) g.joins e

pub goes-way : (g : Graph) (a b : ℕ) → is_echo g a ≡ false → is_echo g b ≡ false → goes_from g.joins a b ≡ true → goes_from (way_joins g) a b ≡ true
unfolding way_joins
goes-way g a b from to e =
    let found = any-in (λ (j : Join). j.source == a && j.sink == b) g.joins e in
    let j : Join = found.0 in
    let parts = and_parts (j.source == a) (j.sink == b) found.2 in
    let plain : (not (is_echo g j.source) && not (is_echo g j.sink)) ≡ true =
    and_from _ _ (ap (λ n. not (is_echo g n)) (eqb-true j.source a parts.0) ∙ ap not from) (ap (λ n. not (is_echo g n)) (eqb-true j.sink b parts.1) ∙ ap not to) in
    in-any (λ (k : Join). k.source == a && k.sink == b) (filter (λ k. not (is_echo g k.source) && not (is_echo g k.sink)) g.joins) j (in-kept (λ (k : Join). not (is_echo g k.source) && not (is_echo g k.sink)) g.joins j found.1 plain) found.2
