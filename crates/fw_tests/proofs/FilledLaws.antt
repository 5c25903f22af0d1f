-- What becomes of a registry while it is filled, and of its region.
use Rattle.std.proofs.Common.{arith, ◌≡◌, refl, ap, ◌∙◌, ℕ, ◌+◌, ◌-◌, ◌*◌, ◌<◌, ◌≤◌, List, [], ◌∷◌, ◌++◌, Bool, true, false, cond, not, ◌==◌, ◌||◌, Some, eq-eqb, filter}
use Rattle.std.specs.Prelude.{find, nat_lt}
use Rattle.std.specs.List.{list_any}
use Rattle.std.proofs.lemmas.Bool.{eqb-true, lt-ltb, le-leb}
use Rattle.sof_base.specs.declared.hole.Hole.{Hole}
use Rattle.sof_base.specs.Holes.{carved, first_fit, given, shortened, joined}
use Rattle.stream_law.specs.Placed.{placed}
use Rattle.fw_heap.specs.Pieces.{PieceState}
use Rattle.fw_units.specs.declared.component.Component.{Component}
use Rattle.fw_units.specs.declared.component.Unit.TheVariants.{Mixer}
use Rattle.fw_components.specs.Tables.{Tables}
use Rattle.fw_units.specs.Changes.{has_id}
use Rattle.fw_components.specs.Changes.{added, is_there, found, tables_without, without_by}
use Rattle.fw_tests.specs.Filled.{AreBelow, IsFilled, rest_behind}

-- what is added
abbrev pub mixer : ℕ → PieceState → Component
mixer n piece = record { id = n; pipe = 1; channels = 2; unit = Mixer piece }

-- ---- ids

other : (m n : ℕ) → m < n → (m == n) ≡ false
other m n below = by (m == n) refl
  where
    by : (h : Bool) → (m == n) ≡ h → h ≡ false
    by false is = refl
    by true is = absurd (omega (arith, below, eqb-true m n is))

absent : (n : ℕ) (cs : List Component) → AreBelow n cs → has_id cs n ≡ false
absent n [] below = refl
absent n (c ∷ cs) below = ap (λ (p : Bool × Bool). p.0 || p.1) (λ i. (other c.id n below.0 i, absent n cs below.1 i))

weaker : (n : ℕ) (cs : List Component) → AreBelow n cs → AreBelow (n + 1) cs
weaker n [] below = tt
weaker n (c ∷ cs) below = (omega (arith, below.0), weaker n cs below.1)

-- ---- one more is there

more : (n : ℕ) (piece : PieceState) (cs : List Component) → AreBelow n cs → AreBelow (n + 1) (placed (λ x. x.id) (mixer n piece) cs)
more n piece [] below = (omega arith, tt)
more n piece (c ∷ cs) below = by (nat_lt n c.id) (more n piece cs below.1)
  where
    by : (h : Bool) → AreBelow (n + 1) (placed (λ x. x.id) (mixer n piece) cs) → AreBelow (n + 1) (cond h (mixer n piece ∷ c ∷ cs) (c ∷ placed (λ x. x.id) (mixer n piece) cs))
    by true rest = (omega arith, weaker n (c ∷ cs) below)
    by false rest = (omega (arith, below.0), rest)

present : (n : ℕ) (piece : PieceState) (cs : List Component) → has_id (placed (λ x. x.id) (mixer n piece) cs) n ≡ true
present n piece [] = ap (λ h. h || false) (eq-eqb n n refl)
present n piece (c ∷ cs) = by (nat_lt n c.id) (present n piece cs)
  where
    behind : (h : Bool) → (h || true) ≡ true
    behind true = refl
    behind false = refl

    by : (h : Bool) → has_id (placed (λ x. x.id) (mixer n piece) cs) n ≡ true → has_id (cond h (mixer n piece ∷ c ∷ cs) (c ∷ placed (λ x. x.id) (mixer n piece) cs)) n ≡ true
    by true rest = ap (λ h. h || has_id (c ∷ cs) n) (eq-eqb n n refl)
    by false rest = ap (λ h. (c.id == n) || h) rest ∙ behind (c.id == n)

found-in : (n : ℕ) (piece : PieceState) (cs rest : List Component) → AreBelow n cs → find (λ c. c.id == n) (placed (λ x. x.id) (mixer n piece) cs ++ rest) ≡ Some (mixer n piece)
found-in n piece [] rest below = ap (λ h. cond h (Some (mixer n piece)) (find (λ c. c.id == n) rest)) (eq-eqb n n refl)
found-in n piece (c ∷ cs) rest below = by (nat_lt n c.id) (found-in n piece cs rest below.1)
  where
    by : (h : Bool) → find (λ c. c.id == n) (placed (λ x. x.id) (mixer n piece) cs ++ rest) ≡ Some (mixer n piece) → find (λ c. c.id == n) (cond h (mixer n piece ∷ c ∷ cs) (c ∷ placed (λ x. x.id) (mixer n piece) cs) ++ rest) ≡ Some (mixer n piece)
    by true next = ap (λ h. cond h (Some (mixer n piece)) (find (λ c. c.id == n) (c ∷ cs ++ rest))) (eq-eqb n n refl)
    by false next = ap (λ h. cond h (Some c) (find (λ c. c.id == n) (placed (λ x. x.id) (mixer n piece) cs ++ rest))) (other c.id n below.0) ∙ next

kept : (n : ℕ) (cs : List Component) → AreBelow n cs → filter (λ c. not (c.id == n)) cs ≡ cs
kept n [] below = refl
kept n (c ∷ cs) below = ap (λ h. cond (not h) (c ∷ filter (λ c. not (c.id == n)) cs) (filter (λ c. not (c.id == n)) cs)) (other c.id n below.0) ∙ ap (λ (xs : List Component). c ∷ xs) (kept n cs below.1)

less : (n : ℕ) (piece : PieceState) (cs : List Component) → AreBelow n cs → filter (λ c. not (c.id == n)) (placed (λ x. x.id) (mixer n piece) cs) ≡ cs
less n piece [] below = ap (λ h. cond (not h) (mixer n piece ∷ []) []) (eq-eqb n n refl)
less n piece (c ∷ cs) below = by (nat_lt n c.id) (less n piece cs below.1)
  where
    by : (h : Bool) → filter (λ c. not (c.id == n)) (placed (λ x. x.id) (mixer n piece) cs) ≡ cs → filter (λ c. not (c.id == n)) (cond h (mixer n piece ∷ c ∷ cs) (c ∷ placed (λ x. x.id) (mixer n piece) cs)) ≡ c ∷ cs
    by true rest = ap (λ h. cond (not h) (mixer n piece ∷ filter (λ c. not (c.id == n)) (c ∷ cs)) (filter (λ c. not (c.id == n)) (c ∷ cs))) (eq-eqb n n refl) ∙ kept n (c ∷ cs) below
    by false rest = ap (λ h. cond (not h) (c ∷ filter (λ c. not (c.id == n)) (placed (λ x. x.id) (mixer n piece) cs)) (filter (λ c. not (c.id == n)) (placed (λ x. x.id) (mixer n piece) cs))) (other c.id n below.0) ∙ ap (λ (xs : List Component). c ∷ xs) rest

-- ---- the registry

pub filled-absent : (n : ℕ) (t : Tables) → IsFilled n t → is_there t n ≡ false
filled-absent n t filled = (λ i. list_any (λ c. c.id == n) (t.comps ++ (filled.buffers i ++ filled.pipes i))) ∙ ap (list_any (λ c. c.id == n)) (bare t.comps) ∙ absent n t.comps filled.comps
  where
    bare : (cs : List Component) → cs ++ [] ≡ cs
    bare [] = refl
    bare (c ∷ cs) = ap (λ (xs : List Component). c ∷ xs) (bare cs)

pub filled-more : (n : ℕ) (piece : PieceState) (t : Tables) → IsFilled n t → IsFilled (n + 1) (added (mixer n piece) t)
filled-more n piece t filled = record { comps = more n piece t.comps filled.comps; buffers = filled.buffers; pipes = filled.pipes; joins = filled.joins }

pub more-there : (n : ℕ) (piece : PieceState) (t : Tables) → is_there (added (mixer n piece) t) n ≡ true
more-there n piece t = before (placed (λ x. x.id) (mixer n piece) t.comps) (present n piece t.comps)
  where
    before : (cs : List Component) → has_id cs n ≡ true → list_any (λ c. c.id == n) (cs ++ (t.buffers ++ t.pipes)) ≡ true
    before [] there = absurd (cc there)
    before (c ∷ cs) there = by (c.id == n) there (before cs)
      where
        by : (h : Bool) → (h || has_id cs n) ≡ true → (has_id cs n ≡ true → list_any (λ c. c.id == n) (cs ++ (t.buffers ++ t.pipes)) ≡ true) → (h || list_any (λ c. c.id == n) (cs ++ (t.buffers ++ t.pipes))) ≡ true
        by true there rest = refl
        by false there rest = rest there

pub more-found : (n : ℕ) (piece : PieceState) (t : Tables) → IsFilled n t → found (added (mixer n piece) t) n ≡ Some (mixer n piece)
more-found n piece t filled = found-in n piece t.comps (t.buffers ++ t.pipes) filled.comps

pub more-less : (n : ℕ) (piece : PieceState) (t : Tables) → IsFilled n t → tables_without n (added (mixer n piece) t) ≡ t
more-less n piece t filled =
    ap (λ h. without_by h (has_id t.buffers n) n (added (mixer n piece) t)) (present n piece t.comps)
    ∙ (λ i. record { comps = less n piece t.comps filled.comps i; buffers = t.buffers; pipes = t.pipes; joins = t.joins })

-- ---- the region

-- two holes are the same
hole : (place place' size size' : ℕ) → place ≡ place' → size ≡ size' → ◌≡◌ {A = List Hole} (record { place = place; size = size } ∷ []) (record { place = place'; size = size' } ∷ [])
hole place place' size size' same_place same_size = λ i. record { place = same_place i; size = same_size i } ∷ []

pub rest-first : (n : ℕ) → n ≤ 128 → first_fit 16 (rest_behind n) ≡ 16 * n
rest-first n low = ap (λ h. cond h (16 * n) 0) (le-leb 16 (2080 - 16 * n) (omega (arith, low)))

pub rest-carved : (n : ℕ) → n ≤ 128 → carved 16 (rest_behind n) ≡ rest_behind (n + 1)
rest-carved n low =
    ap (λ h. cond h (shortened 16 (record { place = 16 * n; size = 2080 - 16 * n }) []) (record { place = 16 * n; size = 2080 - 16 * n } ∷ [])) (le-leb 16 (2080 - 16 * n) (omega (arith, low)))
    ∙ ap (λ h. cond h [] (record { place = 16 * n + 16; size = 2080 - 16 * n - 16 } ∷ [])) (longer (2080 - 16 * n) (omega (arith, low)))
    ∙ hole (16 * n + 16) (16 * (n + 1)) (2080 - 16 * n - 16) (2080 - 16 * (n + 1)) (omega arith) (omega (arith, low))
  where
    longer : (size : ℕ) → 16 < size → (size == 16) ≡ false
    longer size more = by (size == 16) refl
      where
        by : (h : Bool) → (size == 16) ≡ h → h ≡ false
        by false is = refl
        by true is = absurd (omega (arith, more, eqb-true size 16 is))

pub rest-given : (n place size : ℕ) → n ≤ 128 → place ≡ 16 * n → size ≡ 16 → given (record { place = place; size = size }) (rest_behind (n + 1)) ≡ rest_behind n
rest-given n place size low place_is size_is =
    (λ i. given (record { place = place_is i; size = size_is i }) (rest_behind (n + 1)))
    ∙ ap (λ h. cond h (joined own (rest_behind (n + 1))) (cond (16 * (n + 1) + (2080 - 16 * (n + 1)) == 16 * n) (joined (record { place = 16 * (n + 1); size = 2080 - 16 * (n + 1) + 16 }) []) (record { place = 16 * (n + 1); size = 2080 - 16 * (n + 1) } ∷ given own []))) (lt-ltb (16 * n) (16 * (n + 1)) (omega arith))
    ∙ ap (λ h. cond h (record { place = 16 * n; size = 16 + (2080 - 16 * (n + 1)) } ∷ []) (own ∷ rest_behind (n + 1))) (eq-eqb (16 * n + 16) (16 * (n + 1)) (omega arith))
    ∙ hole (16 * n) (16 * n) (16 + (2080 - 16 * (n + 1))) (2080 - 16 * n) refl (omega (arith, low))
  where
    own : Hole
    own = record { place = 16 * n; size = 16 }
