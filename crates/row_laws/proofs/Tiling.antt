-- Holes and pieces tile a heap, and still do once a piece is carved or given back.
use Rattle.std.proofs.Common.{◌≡◌, refl, sym, ap, ◌∙◌, subst, ℕ, ◌+◌, ◌%◌, ◌<◌, ◌≤◌, Bool, true, false, cond, not, inl, inr, ◌==◌, List, [], ◌∷◌, map, filter, find, Option, Some, None, arith, zero-add}
use Rattle.std.proofs.lemmas.Bool.{false≢true, eqb-true, eq-eqb}
use Rattle.std.specs.Prelude.{nat_lt, option_map}
use Rattle.std.specs.List.{AllByRecursion, IsDistinct, list_any}
use Rattle.sof_base.specs.declared.hole.Hole.{Hole}
use Rattle.sof_base.specs.Holes.{rounded, usable_of, fresh_holes, fits, first_fit, carved, given}
use Rattle.sof_base.specs.Spacing.{total, Spaced}
use Rattle.stream_law.specs.State.{PieceView, HeapView}
use Rattle.stream_law.specs.Placed.{placed, HasDistinct}
use Rattle.stream_law.proofs.Placing.{HasDistinct-placed}
use Rattle.mbox_link.specs.Step.{heap_with_piece, without_piece, holes_after_free}
use Rattle.row_laws.specs.Tiled.{carved_bytes, fresh_heap, ArePiecesApart, AreAllApart, IsOutside, IsHeapPiece, IsTiled, hole_of, heap_bytes}
use Rattle.row_laws.proofs.HoleLists.{spaced-fresh, total-fresh, spaced-carved, fit-within, outside-new, outside-carved, apart-carved, total-carved, spaced-given, outside-given, total-given}

-- ---- pieces

apart-turned : (p q : PieceView) → ArePiecesApart p q → ArePiecesApart q p
apart-turned p q (inl before) = inr before
apart-turned p q (inr behind) = inl behind

all-placed : {X : Type 0} (P : X → Type 0) (key : X → ℕ) (x : X) (xs : List X) → P x → AllByRecursion P xs → AllByRecursion P (placed key x xs)
all-placed P key x [] one all = (one, tt)
all-placed {X} P key x (y ∷ ys) one all = by (nat_lt (key x) (key y)) (all-placed P key x ys one all.1)
  where
    by : (h : Bool) → AllByRecursion P (placed key x ys) → AllByRecursion P (cond h (x ∷ y ∷ ys) (y ∷ placed key x ys))
    by true rest = (one, all)
    by false rest = (all.0, rest)

all-filter : {X : Type 0} (P : X → Type 0) (test : X → Bool) (xs : List X) → AllByRecursion P xs → AllByRecursion P (filter test xs)
all-filter P test [] all = tt
all-filter {X} P test (x ∷ xs) all = by (test x) (all-filter P test xs all.1)
  where
    by : (h : Bool) → AllByRecursion P (filter test xs) → AllByRecursion P (cond h (x ∷ filter test xs) (filter test xs))
    by true rest = (all.0, rest)
    by false rest = rest

-- what is found is as all are
pub found-as : {X : Type 0} (P : X → Type 0) (test : X → Bool) (xs : List X) (x : X) → find test xs ≡ Some x → AllByRecursion P xs → P x
found-as P test [] x e all = cc
found-as {X} P test (y ∷ ys) x e all = by (test y) e (found-as P test ys x)
  where
    by : (h : Bool) → cond h (Some y) (find test ys) ≡ Some x → (find test ys ≡ Some x → AllByRecursion P ys → P x) → P x
    by true same rest = let is : y ≡ x = cc in subst P is all.0
    by false same rest = rest same all.1

carved_bytes-placed : (key : PieceView → ℕ) (p : PieceView) (ps : List PieceView) → carved_bytes (placed key p ps) ≡ p.size + carved_bytes ps
carved_bytes-placed key p [] = refl
carved_bytes-placed key p (q ∷ ps) = by (nat_lt (key p) (key q)) (carved_bytes-placed key p ps)
  where
    by : (h : Bool) → carved_bytes (placed key p ps) ≡ p.size + carved_bytes ps → carved_bytes (cond h (p ∷ q ∷ ps) (q ∷ placed key p ps)) ≡ p.size + (q.size + carved_bytes ps)
    by true rest = refl
    by false rest = omega (arith, rest)

are-apart-placed : (key : PieceView → ℕ) (p : PieceView) (ps : List PieceView) → AllByRecursion (ArePiecesApart p) ps → AreAllApart ps → AreAllApart (placed key p ps)
unfolding AreAllApart
are-apart-placed key p [] new apart = (tt, tt)
are-apart-placed key p (q ∷ qs) new apart = by (nat_lt (key p) (key q)) (are-apart-placed key p qs new.1 apart.1)
  where
    by : (h : Bool) → AreAllApart (placed key p qs) → AreAllApart (cond h (p ∷ q ∷ qs) (q ∷ placed key p qs))
    by true rest = (new, apart)
    by false rest = (all-placed (ArePiecesApart q) key p qs (apart-turned p q new.0) apart.0, rest)

are-apart-filter : (test : PieceView → Bool) (ps : List PieceView) → AreAllApart ps → AreAllApart (filter test ps)
unfolding AreAllApart
are-apart-filter test [] apart = tt
are-apart-filter test (p ∷ ps) apart = by (test p) (are-apart-filter test ps apart.1)
  where
    by : (h : Bool) → AreAllApart (filter test ps) → AreAllApart (cond h (p ∷ filter test ps) (filter test ps))
    by true rest = (all-filter (ArePiecesApart p) test ps apart.0, rest)
    by false rest = rest

distinct-filter : {X : Type 0} (key : X → ℕ) (test : X → Bool) (xs : List X) → HasDistinct key xs → HasDistinct key (filter test xs)
unfolding IsDistinct
distinct-filter key test [] distinct = tt
distinct-filter {X} key test (x ∷ xs) distinct = by (test x) (distinct-filter key test xs distinct.1)
  where
    others : (ys : List X) → AllByRecursion (λ n. (key x == n) ≡ false) (map key ys) → AllByRecursion (λ n. (key x == n) ≡ false) (map key (filter test ys))
    others [] all = tt
    others (y ∷ ys) all = at (test y) (others ys all.1)
      where
        at : (h : Bool) → AllByRecursion (λ n. (key x == n) ≡ false) (map key (filter test ys)) → AllByRecursion (λ n. (key x == n) ≡ false) (map key (cond h (y ∷ filter test ys) (filter test ys)))
        at true rest = (all.0, rest)
        at false rest = rest

    by : (h : Bool) → HasDistinct key (filter test xs) → HasDistinct key (cond h (x ∷ filter test xs) (filter test xs))
    by true rest = (others xs distinct.0, rest)
    by false rest = rest

-- where no id is that of a piece, no piece goes
pub filter-none : (id : ℕ) (ps : List PieceView) → find (λ p. p.id == id) ps ≡ None → filter (λ p. not (p.id == id)) ps ≡ ps
filter-none id [] none = refl
filter-none id (p ∷ ps) none = by (p.id == id) none (filter-none id ps)
  where
    by : (h : Bool) → cond h (Some p) (find (λ p. p.id == id) ps) ≡ None → (find (λ p. p.id == id) ps ≡ None → filter (λ p. not (p.id == id)) ps ≡ ps) → cond (not h) (p ∷ filter (λ p. not (p.id == id)) ps) (filter (λ p. not (p.id == id)) ps) ≡ p ∷ ps
    by true same rest = cc
    by false same rest = ap (λ qs. p ∷ qs) (rest same)

filter-others : (m id : ℕ) (ps : List PieceView) → m ≡ id → AllByRecursion (λ n. (m == n) ≡ false) (map (λ p. p.id) ps) → filter (λ p. not (p.id == id)) ps ≡ ps
filter-others m id [] same others = refl
filter-others m id (p ∷ ps) same others = ap (λ h. cond (not h) (p ∷ filter (λ p. not (p.id == id)) ps) (filter (λ p. not (p.id == id)) ps)) off ∙ ap (λ qs. p ∷ qs) (filter-others m id ps same others.1)
  where
    turned : (h : Bool) → (p.id == id) ≡ h → h ≡ false
    turned true e = absurd (false≢true (sym others.0 ∙ ap (λ k. k == p.id) (same ∙ sym (eqb-true p.id id e)) ∙ eq-eqb p.id p.id refl))
    turned false e = refl

    off : (p.id == id) ≡ false
    off = turned (p.id == id) refl

-- the pieces but one have the bytes of all but that one
bytes-filter : (id : ℕ) (ps : List PieceView) (p : PieceView) → HasDistinct (λ p. p.id) ps → find (λ p. p.id == id) ps ≡ Some p → p.size + carved_bytes (filter (λ p. not (p.id == id)) ps) ≡ carved_bytes ps
unfolding IsDistinct
bytes-filter id [] p distinct there = cc
bytes-filter id (q ∷ qs) p distinct there = by (q.id == id) refl there (bytes-filter id qs p distinct.1)
  where
    by : (h : Bool) → (q.id == id) ≡ h → cond h (Some q) (find (λ p. p.id == id) qs) ≡ Some p
        → (find (λ p. p.id == id) qs ≡ Some p → p.size + carved_bytes (filter (λ p. not (p.id == id)) qs) ≡ carved_bytes qs)
        → p.size + carved_bytes (cond (not h) (q ∷ filter (λ p. not (p.id == id)) qs) (filter (λ p. not (p.id == id)) qs)) ≡ q.size + carved_bytes qs
    by true e same rest =
        let is : q ≡ p = cc in
        ap (λ (r : PieceView). r.size + carved_bytes (filter (λ p. not (p.id == id)) qs)) (sym is) ∙ ap (λ rs. q.size + carved_bytes rs) (filter-others q.id id qs (eqb-true q.id id e) distinct.0)
    by false e same rest = let r = rest same in omega (arith, r)

-- and have no byte of that one
apart-filter : (id : ℕ) (ps : List PieceView) (p : PieceView) → HasDistinct (λ p. p.id) ps → AreAllApart ps → find (λ p. p.id == id) ps ≡ Some p → AllByRecursion (ArePiecesApart p) (filter (λ p. not (p.id == id)) ps)
unfolding IsDistinct AreAllApart
apart-filter id [] p distinct apart there = cc
apart-filter id (q ∷ qs) p distinct apart there = by (q.id == id) there (apart-filter id qs p distinct.1 apart.1)
  where
    by : (h : Bool) → cond h (Some q) (find (λ p. p.id == id) qs) ≡ Some p
        → (find (λ p. p.id == id) qs ≡ Some p → AllByRecursion (ArePiecesApart p) (filter (λ p. not (p.id == id)) qs))
        → AllByRecursion (ArePiecesApart p) (cond (not h) (q ∷ filter (λ p. not (p.id == id)) qs) (filter (λ p. not (p.id == id)) qs))
    by true same rest = let is : q ≡ p = cc in subst (λ (r : PieceView). AllByRecursion (ArePiecesApart r) (filter (λ p. not (p.id == id)) qs)) is (all-filter (ArePiecesApart q) (λ p. not (p.id == id)) qs apart.0)
    by false same rest = (apart-turned q p (found-as (ArePiecesApart q) (λ p. p.id == id) qs p same apart.0), rest same)

-- the piece whose bytes are found
pub record Found (id : ℕ) (pieces : List PieceView) (hole : Hole) : Type 0 where
  pub piece : PieceView
  pub there : find (λ p. p.id == id) pieces ≡ Some piece
  pub bytes : hole_of piece ≡ hole

pub found : (id : ℕ) (pieces : List PieceView) (hole : Hole) (o : Option Hole) → o ≡ option_map hole_of (find (λ p. p.id == id) pieces) → o ≡ Some hole → Found id pieces hole
found id pieces hole o is some = by (find (λ p. p.id == id) pieces) refl (sym is ∙ some)
  where
    by : (q : Option PieceView) → find (λ p. p.id == id) pieces ≡ q → option_map hole_of q ≡ Some hole → Found id pieces hole
    by None e same = cc
    by (Some p) e same = record { piece = p; there = e; bytes = cc }

pub none-found : (id : ℕ) (pieces : List PieceView) (o : Option Hole) → o ≡ option_map hole_of (find (λ p. p.id == id) pieces) → o ≡ None → find (λ p. p.id == id) pieces ≡ None
none-found id pieces o is none = by (find (λ p. p.id == id) pieces) refl (sym is ∙ none)
  where
    by : (q : Option PieceView) → find (λ p. p.id == id) pieces ≡ q → option_map hole_of q ≡ None → find (λ p. p.id == id) pieces ≡ None
    by None e same = e
    by (Some p) e same = cc

-- ---- heaps

-- a heap of which nothing is carved
pub fresh-tiled : (bytes : ℕ) → IsTiled (usable_of bytes) (fresh_heap bytes)
unfolding IsDistinct AreAllApart
fresh-tiled bytes = record {
  holes = spaced-fresh (usable_of bytes) (omega arith);
  ids = tt;
  each = tt;
  apart = tt;
  outside = tt;
  whole = zero-add (total (fresh_holes (usable_of bytes))) ∙ total-fresh (usable_of bytes);
}

-- the piece that is carved
abbrev pub new_piece : ℕ → ℕ → HeapView → PieceView
new_piece id bytes heap = record { id = id; place = first_fit (rounded bytes) heap.holes; size = rounded bytes }

-- it lies within the heap and apart from all others
pub carve-apart : (usable id bytes : ℕ) (heap : HeapView) → IsTiled usable heap → 0 < bytes → fits (rounded bytes) heap.holes ≡ true → IsHeapPiece usable (new_piece id bytes heap) × AllByRecursion (ArePiecesApart (new_piece id bytes heap)) heap.pieces
carve-apart usable id bytes heap tiled some there = (own, others heap.pieces tiled.outside)
  where
    at : (0 ≤ first_fit (rounded bytes) heap.holes) × (first_fit (rounded bytes) heap.holes + rounded bytes ≤ usable) × (first_fit (rounded bytes) heap.holes % 16 ≡ 0)
    at = fit-within (rounded bytes) 0 usable heap.holes tiled.holes there

    own : IsHeapPiece usable (new_piece id bytes heap)
    own = record { within = at.1; place = at.2; size = omega arith; filled = omega (arith, some) }

    others : (ps : List PieceView) → AllByRecursion (λ p. AllByRecursion (IsOutside p) heap.holes) ps → AllByRecursion (ArePiecesApart (new_piece id bytes heap)) ps
    others [] out = tt
    others (p ∷ ps) out = (apart-carved p id (rounded bytes) heap.holes out.0 there, others ps out.1)

pub carve-tiled : (usable id bytes : ℕ) (heap : HeapView) → IsTiled usable heap → 0 < bytes → fits (rounded bytes) heap.holes ≡ true → list_any (λ p. p.id == id) heap.pieces ≡ false → IsTiled usable (heap_with_piece id bytes heap)
carve-tiled usable id bytes heap tiled some there fresh =
    let new = carve-apart usable id bytes heap tiled some there in
    let sum = carved_bytes-placed (λ p. p.id) (new_piece id bytes heap) heap.pieces in
    let less = total-carved (rounded bytes) heap.holes there in
    record {
      holes = spaced-carved (rounded bytes) 0 usable heap.holes (omega arith) tiled.holes;
      ids = HasDistinct-placed (λ p. p.id) (new_piece id bytes heap) heap.pieces fresh tiled.ids;
      each = all-placed (IsHeapPiece usable) (λ p. p.id) (new_piece id bytes heap) heap.pieces new.0 tiled.each;
      apart = are-apart-placed (λ p. p.id) (new_piece id bytes heap) heap.pieces new.1 tiled.apart;
      outside = all-placed (λ p. AllByRecursion (IsOutside p) (carved (rounded bytes) heap.holes)) (λ p. p.id) (new_piece id bytes heap) heap.pieces (outside-new id (rounded bytes) 0 usable heap.holes tiled.holes there) (stay heap.pieces tiled.outside);
      whole = omega (arith, sum, less, tiled.whole);
    }
  where
    stay : (ps : List PieceView) → AllByRecursion (λ p. AllByRecursion (IsOutside p) heap.holes) ps → AllByRecursion (λ p. AllByRecursion (IsOutside p) (carved (rounded bytes) heap.holes)) ps
    stay [] out = tt
    stay (p ∷ ps) out = (outside-carved p (rounded bytes) heap.holes out.0, stay ps out.1)

-- a piece that is given back leaves a hole that touches none
pub give-spaced : (usable id : ℕ) (heap : HeapView) (p : PieceView) → IsTiled usable heap → find (λ p. p.id == id) heap.pieces ≡ Some p → Spaced 0 usable (given (hole_of p) heap.holes)
give-spaced usable id heap p tiled there =
    let own : IsHeapPiece usable p = found-as (IsHeapPiece usable) (λ p. p.id == id) heap.pieces p there tiled.each in
    let out : AllByRecursion (IsOutside p) heap.holes = found-as (λ p. AllByRecursion (IsOutside p) heap.holes) (λ p. p.id == id) heap.pieces p there tiled.outside in
    spaced-given p heap.holes 0 usable (omega arith) own.place own.filled own.size own.within out tiled.holes

pub give-tiled : (usable id : ℕ) (heap : HeapView) → IsTiled usable heap → IsTiled usable (without_piece id heap)
give-tiled usable id heap tiled = by (find (λ p. p.id == id) heap.pieces) refl
  where
    stay : (p : PieceView) (ps : List PieceView) → AllByRecursion (IsHeapPiece usable) ps → AllByRecursion (ArePiecesApart p) ps → AllByRecursion (λ q. AllByRecursion (IsOutside q) heap.holes) ps → AllByRecursion (λ q. AllByRecursion (IsOutside q) (given (hole_of p) heap.holes)) ps
    stay p [] each apart out = tt
    stay p (q ∷ qs) each apart out = (outside-given q p heap.holes each.0.filled (apart-turned p q apart.0) out.0, stay p qs each.1 apart.1 out.1)

    by : (o : Option PieceView) → find (λ p. p.id == id) heap.pieces ≡ o → IsTiled usable (record { holes = holes_after_free o heap.holes; pieces = filter (λ p. not (p.id == id)) heap.pieces })
    by None e = subst (λ (ps : List PieceView). IsTiled usable (record { holes = heap.holes; pieces = ps })) (sym (filter-none id heap.pieces e)) tiled
    by (Some p) e =
        let others = apart-filter id heap.pieces p tiled.ids tiled.apart e in
        let each = all-filter (IsHeapPiece usable) (λ p. not (p.id == id)) heap.pieces tiled.each in
        let sum = bytes-filter id heap.pieces p tiled.ids e in
        let more = total-given (hole_of p) heap.holes in
        record {
          holes = give-spaced usable id heap p tiled e;
          ids = distinct-filter (λ p. p.id) (λ p. not (p.id == id)) heap.pieces tiled.ids;
          each = each;
          apart = are-apart-filter (λ p. not (p.id == id)) heap.pieces tiled.apart;
          outside = stay p (filter (λ p. not (p.id == id)) heap.pieces) each others (all-filter (λ q. AllByRecursion (IsOutside q) heap.holes) (λ p. not (p.id == id)) heap.pieces tiled.outside);
          whole = omega (arith, sum, more, tiled.whole);
        }

-- a tiled heap is tiled with the bytes that it has
pub retiled : (usable : ℕ) (heap : HeapView) → IsTiled usable heap → IsTiled (heap_bytes heap) heap
retiled usable heap tiled = subst (λ n. IsTiled n heap) (sym tiled.whole) tiled
