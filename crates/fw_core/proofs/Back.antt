-- All pieces that are given back leave one hole.
use Rattle.std.proofs.Common.{◌≡◌, refl, sym, ap, ◌∙◌, subst, ℕ, ◌+◌, ◌≤◌, List, [], ◌∷◌, map, filter, not, find, Some, Bool, true, false, cond, ◌==◌, ◌||◌, arith}
use Rattle.std.specs.Prelude.{nat_lt}
use Rattle.std.specs.List.{list_any, AllByRecursion, IsDistinct}
use Rattle.std.proofs.lemmas.Bool.{eq-eqb, eqb-true}
use Rattle.sof_base.specs.declared.hole.Hole.{Hole}
use Rattle.sof_base.specs.Holes.{fresh_holes}
use Rattle.sof_base.specs.Spacing.{total, Spaced}
use Rattle.stream_law.specs.State.{PieceView, HeapView}
use Rattle.stream_law.specs.Placed.{placed, HasDistinct}
use Rattle.stream_law.proofs.Placing.{find-placed_there}
use Rattle.mbox_link.specs.Step.{without_piece, holes_after_free}
use Rattle.row_laws.specs.Tiled.{IsTiled}
use Rattle.row_laws.proofs.Tiling.{give-tiled}
use Rattle.fw_heap.specs.Regions.{RegionState}
use Rattle.fw_units.specs.declared.component.Component.{Component}
use Rattle.fw_units.specs.Units.{pieces_by, piece_by}
use Rattle.fw_components.specs.Tables.{Tables, all_of, carved_pieces}
use Rattle.fw_units.specs.Changes.{given_all, given_by}
use Rattle.fw_core.specs.Held.{IsPieceHeld}

-- ---- what is placed among keys that come once

-- what is left without a key that none has
pub filter-apart : {X : Type 0} (key : X → ℕ) (n : ℕ) (zs : List X) → list_any (λ z. key z == n) zs ≡ false → filter (λ z. not (key z == n)) zs ≡ zs
filter-apart key n [] none = refl
filter-apart {X} key n (z ∷ zs) none = each (key z == n) refl none (filter-apart key n zs)
  where
    each : (h : Bool) → (key z == n) ≡ h → (h || list_any (λ z. key z == n) zs) ≡ false → (list_any (λ z. key z == n) zs ≡ false → filter (λ z. not (key z == n)) zs ≡ zs) → cond (not (key z == n)) (z ∷ filter (λ z. not (key z == n)) zs) (filter (λ z. not (key z == n)) zs) ≡ z ∷ zs
    each true is none rest = cc
    each false is none rest = ap (λ h. cond (not h) (z ∷ filter (λ z. not (key z == n)) zs) (filter (λ z. not (key z == n)) zs)) is ∙ ap (λ zs. z ∷ zs) (rest none)

module _ {X : Type 0} (key : X → ℕ) (x : X) where
  -- no other has its key
  pub placed-apart : (xs : List X) → HasDistinct key (placed key x xs) → list_any (λ y. key y == key x) xs ≡ false
  unfolding IsDistinct
  placed-apart [] distinct = refl
  placed-apart (y ∷ ys) distinct = by (nat_lt (key x) (key y)) distinct (placed-apart ys)
    where
      turned : (m n : ℕ) → (m == n) ≡ false → (n == m) ≡ false
      turned m n apart = at (n == m) refl
        where
          at : (h : Bool) → (n == m) ≡ h → h ≡ false
          at false is = refl
          at true is = sym (eq-eqb m n (sym (eqb-true n m is))) ∙ apart

      none : (zs : List X) → AllByRecursion (λ n. (key x == n) ≡ false) (map key zs) → list_any (λ z. key z == key x) zs ≡ false
      none [] apart = refl
      none (z ∷ zs) apart = ap (λ (p : Bool × Bool). p.0 || p.1) (λ i. (turned (key x) (key z) apart.0 i, none zs apart.1 i))

      within : (zs : List X) → AllByRecursion (λ n. (key y == n) ≡ false) (map key (placed key x zs)) → (key y == key x) ≡ false
      within [] apart = apart.0
      within (z ∷ zs) apart = at (nat_lt (key x) (key z)) apart (within zs)
        where
          at : (h : Bool) → AllByRecursion (λ n. (key y == n) ≡ false) (map key (cond h (x ∷ z ∷ zs) (z ∷ placed key x zs))) → (AllByRecursion (λ n. (key y == n) ≡ false) (map key (placed key x zs)) → (key y == key x) ≡ false) → (key y == key x) ≡ false
          at true apart rest = apart.0
          at false apart rest = rest apart.1

      by : (h : Bool) → HasDistinct key (cond h (x ∷ y ∷ ys) (y ∷ placed key x ys)) → (HasDistinct key (placed key x ys) → list_any (λ z. key z == key x) ys ≡ false) → list_any (λ z. key z == key x) (y ∷ ys) ≡ false
      by true distinct rest = none (y ∷ ys) distinct.0
      by false distinct rest = ap (λ (p : Bool × Bool). p.0 || p.1) (λ i. (within ys distinct.0 i, rest distinct.1 i))

  -- the others are those without its key
  pub placed-others : (xs : List X) → list_any (λ y. key y == key x) xs ≡ false → filter (λ y. not (key y == key x)) (placed key x xs) ≡ xs
  placed-others [] apart = ap (λ h. cond (not h) (x ∷ []) []) (eq-eqb (key x) (key x) refl)
  placed-others (y ∷ ys) apart = by (key y == key x) refl apart (nat_lt (key x) (key y)) (placed-others ys)
    where
      by : (h : Bool) → (key y == key x) ≡ h → (h || list_any (λ z. key z == key x) ys) ≡ false → (k : Bool) → (list_any (λ z. key z == key x) ys ≡ false → filter (λ z. not (key z == key x)) (placed key x ys) ≡ ys) → filter (λ z. not (key z == key x)) (cond k (x ∷ y ∷ ys) (y ∷ placed key x ys)) ≡ y ∷ ys
      by true is none k rest = cc
      by false is none true rest = ap (λ h. cond (not h) (x ∷ filter (λ z. not (key z == key x)) (y ∷ ys)) (filter (λ z. not (key z == key x)) (y ∷ ys))) (eq-eqb (key x) (key x) refl) ∙ ap (λ h. cond (not h) (y ∷ filter (λ z. not (key z == key x)) ys) (filter (λ z. not (key z == key x)) ys)) is ∙ ap (λ zs. y ∷ zs) (filter-apart key (key x) ys none)
      by false is none false rest = ap (λ h. cond (not h) (y ∷ filter (λ z. not (key z == key x)) (placed key x ys)) (filter (λ z. not (key z == key x)) (placed key x ys))) is ∙ ap (λ zs. y ∷ zs) (rest none)

-- ---- one after the other

pub given-tiled : (usable : ℕ) (cs : List Component) (holes : List Hole) → IsTiled usable (record { holes = holes; pieces = pieces_by cs }) → IsTiled usable (record { holes = given_all cs holes; pieces = [] })
given-tiled usable [] holes tiled = tiled
given-tiled usable (c ∷ cs) holes tiled =
    let key : PieceView → ℕ = λ p. p.id in
    let none = placed-apart key (piece_by c) (pieces_by cs) tiled.ids in
    let heap : HeapView = record { holes = holes; pieces = pieces_by (c ∷ cs) } in
    let found : find (λ (p : PieceView). p.id == c.id) (pieces_by (c ∷ cs)) ≡ Some (piece_by c) = find-placed_there (λ p. p.id == c.id) key (piece_by c) (pieces_by cs) (eq-eqb c.id c.id refl) none in
    let left : without_piece c.id heap ≡ record { holes = given_by c holes; pieces = pieces_by cs } = λ i. record { holes = holes_after_free (found i) holes; pieces = placed-others key (piece_by c) (pieces_by cs) none i } in
    given-tiled usable cs (given_by c holes) (subst (IsTiled usable) left (give-tiled usable c.id heap tiled))

-- ---- one hole

spaced-total : (low high : ℕ) (h : Hole) (hs : List Hole) → Spaced low high (h ∷ hs) → low + total (h ∷ hs) ≤ high
spaced-total low high h [] spaced = let a = spaced.0 in let b = spaced.4 in omega arith
spaced-total low high h (k ∷ hs) spaced =
    let a = spaced.0 in
    let rest = spaced-total (h.place + h.size + 1) high k hs spaced.5 in
    omega arith

pub whole-hole : (usable : ℕ) (hs : List Hole) → Spaced 0 usable hs → total hs ≡ usable → hs ≡ fresh_holes usable
whole-hole usable [] spaced whole = ap fresh_holes whole
whole-hole usable (h ∷ []) spaced whole =
    let within = spaced.4 in let some = spaced.2 in
    let size : h.size ≡ usable = omega arith in
    let place : h.place ≡ 0 = omega arith in
    one h place ∙ open_up h.size some ∙ ap fresh_holes size
  where
    one : (h : Hole) → h.place ≡ 0 → ◌≡◌ {A = List Hole} (h ∷ []) (record { place = 0; size = h.size } ∷ [])
    one h is = λ i. record { place = is i; size = h.size } ∷ []

    open_up : (n : ℕ) → 1 ≤ n → ◌≡◌ {A = List Hole} (record { place = 0; size = n } ∷ []) (fresh_holes n)
    open_up n some = by (n == 0) refl
      where
        by : (b : Bool) → (n == 0) ≡ b → ◌≡◌ {A = List Hole} (record { place = 0; size = n } ∷ []) (cond b [] (record { place = 0; size = n } ∷ []))
        by true is = let none : n ≡ 0 = eqb-true n 0 is in absurd (omega arith)
        by false is = refl
whole-hole usable (h ∷ k ∷ hs) spaced whole =
    let rest = spaced-total (h.place + h.size + 1) usable k hs spaced.5 in
    absurd (omega arith)

-- all pieces of tables are given back
pub all-back : (t : Tables) (r : RegionState) → IsPieceHeld t r → given_all (all_of t) r.holes ≡ fresh_holes r.usable
all-back t r held =
    let tiled = given-tiled r.usable (all_of t) r.holes (subst (λ n. IsTiled n (record { holes = r.holes; pieces = carved_pieces t })) held.whole (held.kept 0).tiled) in
    let whole = tiled.whole in
    whole-hole r.usable (given_all (all_of t) r.holes) tiled.holes (omega arith)
