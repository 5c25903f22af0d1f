-- Holes that are carved from, and holes that others are joined to.
use Rattle.std.proofs.Common.{◌≡◌, ◌≢◌, refl, sym, ap, ◌∙◌, ℕ, ◌+◌, ◌-◌, ◌*◌, ◌%◌, ◌<◌, ◌≤◌, Bool, true, false, cond, inl, inr, ◌⊎◌, ◌==◌, ◌||◌, List, [], ◌∷◌, length, arith}
use Rattle.std.proofs.lemmas.Bool.{true≢false, false≢true, leb-true, ltb-true, ltb-false, eqb-true, eq-eqb}
use Rattle.std.specs.Prelude.{nat_lt, nat_le}
use Rattle.std.specs.List.{AllByRecursion}
use Rattle.sof_base.specs.declared.hole.Hole.{Hole}
use Rattle.sof_base.specs.Holes.{fresh_holes, fits, first_fit, shortened, carved, joined, given}
use Rattle.sof_base.specs.Spacing.{total, Spaced, Below}
use Rattle.stream_law.specs.State.{PieceView}
use Rattle.row_laws.specs.Tiled.{ArePiecesApart, IsOutside, hole_of}

-- ---- holes in order

pub spaced-lower : (low low' high : ℕ) (hs : List Hole) → low' ≤ low → Spaced low high hs → Spaced low' high hs
spaced-lower low low' high [] le t = tt
spaced-lower low low' high (h ∷ hs) le t = (omega (arith, le, t.0), t.1, t.2, t.3, t.4, t.5)

pub spaced-below : (low high b : ℕ) (hs : List Hole) → high < b → Spaced low high hs → Below b hs
spaced-below low high b [] lt t = tt
spaced-below low high b (h ∷ hs) lt t = (omega (arith, lt, t.4), spaced-below (h.place + h.size + 1) high b hs lt t.5)

pub spaced-fresh : (n : ℕ) → n % 16 ≡ 0 → Spaced 0 n (fresh_holes n)
spaced-fresh n unit = by (n == 0) refl
  where
    by : (b : Bool) → (n == 0) ≡ b → Spaced 0 n (cond b [] (record { place = 0; size = n } ∷ []))
    by true e = tt
    by false e = let some : n ≢ 0 = λ same. true≢false (sym (eq-eqb n 0 same) ∙ e) in (omega arith, refl, omega (arith, some), unit, omega arith, tt)

pub total-fresh : (n : ℕ) → total (fresh_holes n) ≡ n
total-fresh n = by (n == 0) refl
  where
    by : (b : Bool) → (n == 0) ≡ b → total (cond b [] (record { place = 0; size = n } ∷ [])) ≡ n
    by true e = sym (eqb-true n 0 e)
    by false e = omega arith

count : (hs : List Hole) (low high : ℕ) → low % 16 ≡ 1 → low ≤ high + 1 → Spaced low high hs → 32 * length hs + low ≤ high + 31
count [] low high odd le t = omega arith
count (h ∷ hs) low high odd le t =
    let rest = count hs (h.place + h.size + 1) high (omega (arith, t.1, t.3)) (omega (arith, t.4)) t.5 in
    let first : low + 15 ≤ h.place = omega (arith, t.0, t.1) in
    omega (arith, rest, first, t.2, t.3)

-- so many holes have room below a limit
pub spaced-count : (hs : List Hole) (high : ℕ) → Spaced 0 high hs → 32 * length hs ≤ high + 46
spaced-count [] high t = omega arith
spaced-count (h ∷ hs) high t = let rest = count hs (h.place + h.size + 1) high (omega (arith, t.1, t.3)) (omega (arith, t.4)) t.5 in omega (arith, rest, t.2, t.3)

-- ---- what is carved

differs : (m n : ℕ) → (m == n) ≡ false → m ≢ n
differs m n e same = true≢false (sym (eq-eqb m n same) ∙ e)

pub spaced-carved : (n low high : ℕ) (hs : List Hole) → n % 16 ≡ 0 → Spaced low high hs → Spaced low high (carved n hs)
spaced-carved n low high [] unit t = tt
spaced-carved n low high (h ∷ hs) unit t = by (nat_le n h.size) refl (spaced-carved n (h.place + h.size + 1) high hs unit t.5)
  where
    cut : (b : Bool) → (h.size == n) ≡ b → n ≤ h.size → Spaced low high (cond b hs (record { place = h.place + n; size = h.size - n } ∷ hs))
    cut true e le = spaced-lower (h.place + h.size + 1) low high hs (omega (arith, t.0)) t.5
    cut false e le =
        let more = differs h.size n e in
        (omega (arith, t.0), omega (arith, t.1, unit), omega (arith, le, more), omega (arith, t.3, unit, le), omega (arith, t.4, le), spaced-lower (h.place + h.size + 1) (h.place + n + (h.size - n) + 1) high hs (omega (arith, le)) t.5)

    by : (b : Bool) → nat_le n h.size ≡ b → Spaced (h.place + h.size + 1) high (carved n hs) → Spaced low high (cond b (shortened n h hs) (h ∷ carved n hs))
    by true e rest = cut (h.size == n) refl (leb-true n h.size e)
    by false e rest = (t.0, t.1, t.2, t.3, t.4, rest)

-- where the first hole that fits is
pub fit-within : (n low high : ℕ) (hs : List Hole) → Spaced low high hs → fits n hs ≡ true → (low ≤ first_fit n hs) × (first_fit n hs + n ≤ high) × (first_fit n hs % 16 ≡ 0)
fit-within n low high [] t there = absurd (false≢true there)
fit-within n low high (h ∷ hs) t there = by (nat_le n h.size) refl there (fit-within n (h.place + h.size + 1) high hs t.5)
  where
    by : (b : Bool) → nat_le n h.size ≡ b → (b || fits n hs) ≡ true → (fits n hs ≡ true → (h.place + h.size + 1 ≤ first_fit n hs) × (first_fit n hs + n ≤ high) × (first_fit n hs % 16 ≡ 0))
        → (low ≤ cond b h.place (first_fit n hs)) × (cond b h.place (first_fit n hs) + n ≤ high) × (cond b h.place (first_fit n hs) % 16 ≡ 0)
    by true e there' rest = let le = leb-true n h.size e in (t.0, omega (arith, le, t.4), t.1)
    by false e there' rest = let r = rest there' in (omega (arith, t.0, r.0), r.1, r.2)

-- no hole has more than all bytes
pub fits-most : (n low high : ℕ) (hs : List Hole) → Spaced low high hs → fits n hs ≡ true → n ≤ high
fits-most n low high hs t there = let at = fit-within n low high hs t there in omega (arith, at.1)

-- what lies below holes is outside them
outside-first : (p : PieceView) (low high : ℕ) (hs : List Hole) → p.place + p.size ≤ low → Spaced low high hs → AllByRecursion (IsOutside p) hs
outside-first p low high [] le t = tt
outside-first p low high (h ∷ hs) le t = (inl (omega (arith, le, t.0)), outside-first p (h.place + h.size + 1) high hs (omega (arith, le, t.0)) t.5)

-- what is carved is outside the holes that are left
pub outside-new : (id n low high : ℕ) (hs : List Hole) → Spaced low high hs → fits n hs ≡ true → AllByRecursion (IsOutside (record { id = id; place = first_fit n hs; size = n })) (carved n hs)
outside-new id n low high [] t there = absurd (false≢true there)
outside-new id n low high (h ∷ hs) t there = by (nat_le n h.size) refl there (outside-new id n (h.place + h.size + 1) high hs t.5) (fit-within n (h.place + h.size + 1) high hs t.5)
  where
    cut : (b : Bool) → n ≤ h.size → AllByRecursion (IsOutside (record { id = id; place = h.place; size = n })) (cond b hs (record { place = h.place + n; size = h.size - n } ∷ hs))
    cut true le = outside-first (record { id = id; place = h.place; size = n }) (h.place + h.size + 1) high hs (omega (arith, le)) t.5
    cut false le = (inl (omega arith), outside-first (record { id = id; place = h.place; size = n }) (h.place + h.size + 1) high hs (omega (arith, le)) t.5)

    by : (b : Bool) → nat_le n h.size ≡ b → (b || fits n hs) ≡ true → (fits n hs ≡ true → AllByRecursion (IsOutside (record { id = id; place = first_fit n hs; size = n })) (carved n hs))
        → (fits n hs ≡ true → (h.place + h.size + 1 ≤ first_fit n hs) × (first_fit n hs + n ≤ high) × (first_fit n hs % 16 ≡ 0))
        → AllByRecursion (IsOutside (record { id = id; place = cond b h.place (first_fit n hs); size = n })) (cond b (shortened n h hs) (h ∷ carved n hs))
    by true e there' rest within = cut (h.size == n) (leb-true n h.size e)
    by false e there' rest within = let w = within there' in (inr (omega (arith, w.0)), rest there')

-- what is outside the holes stays outside
pub outside-carved : (q : PieceView) (n : ℕ) (hs : List Hole) → AllByRecursion (IsOutside q) hs → AllByRecursion (IsOutside q) (carved n hs)
outside-carved q n [] out = tt
outside-carved q n (h ∷ hs) out = by (nat_le n h.size) refl (outside-carved q n hs out.1)
  where
    shorter : n ≤ h.size → IsOutside q h → IsOutside q (record { place = h.place + n; size = h.size - n })
    shorter le (inl before) = inl (omega (arith, before))
    shorter le (inr behind) = inr (omega (arith, behind, le))

    cut : (b : Bool) → n ≤ h.size → AllByRecursion (IsOutside q) (cond b hs (record { place = h.place + n; size = h.size - n } ∷ hs))
    cut true le = out.1
    cut false le = (shorter le out.0, out.1)

    by : (b : Bool) → nat_le n h.size ≡ b → AllByRecursion (IsOutside q) (carved n hs) → AllByRecursion (IsOutside q) (cond b (shortened n h hs) (h ∷ carved n hs))
    by true e rest = cut (h.size == n) (leb-true n h.size e)
    by false e rest = (out.0, rest)

-- and has no byte of what is carved
pub apart-carved : (q : PieceView) (id n : ℕ) (hs : List Hole) → AllByRecursion (IsOutside q) hs → fits n hs ≡ true → ArePiecesApart (record { id = id; place = first_fit n hs; size = n }) q
apart-carved q id n [] out there = absurd (false≢true there)
apart-carved q id n (h ∷ hs) out there = by (nat_le n h.size) refl there (apart-carved q id n hs out.1)
  where
    inside : n ≤ h.size → IsOutside q h → ArePiecesApart (record { id = id; place = h.place; size = n }) q
    inside le (inl before) = inr before
    inside le (inr behind) = inl (omega (arith, behind, le))

    by : (b : Bool) → nat_le n h.size ≡ b → (b || fits n hs) ≡ true → (fits n hs ≡ true → ArePiecesApart (record { id = id; place = first_fit n hs; size = n }) q) → ArePiecesApart (record { id = id; place = cond b h.place (first_fit n hs); size = n }) q
    by true e there' rest = inside (leb-true n h.size e) out.0
    by false e there' rest = rest there'

pub total-carved : (n : ℕ) (hs : List Hole) → fits n hs ≡ true → n + total (carved n hs) ≡ total hs
total-carved n [] there = absurd (false≢true there)
total-carved n (h ∷ hs) there = by (nat_le n h.size) refl there (total-carved n hs)
  where
    cut : (b : Bool) → (h.size == n) ≡ b → n ≤ h.size → n + total (cond b hs (record { place = h.place + n; size = h.size - n } ∷ hs)) ≡ h.size + total hs
    cut true e le = ap (λ k. k + total hs) (sym (eqb-true h.size n e))
    cut false e le = omega (arith, le)

    by : (b : Bool) → nat_le n h.size ≡ b → (b || fits n hs) ≡ true → (fits n hs ≡ true → n + total (carved n hs) ≡ total hs) → n + total (cond b (shortened n h hs) (h ∷ carved n hs)) ≡ h.size + total hs
    by true e there' rest = cut (h.size == n) refl (leb-true n h.size e)
    by false e there' rest = let r = rest there' in omega (arith, r)

-- ---- what is given back

pub spaced-joined : (s : Hole) (ys : List Hole) (low high : ℕ) → low ≤ s.place → s.place % 16 ≡ 0 → 0 < s.size → s.size % 16 ≡ 0 → s.place + s.size ≤ high → Spaced (s.place + s.size) high ys → Spaced low high (joined s ys)
spaced-joined s [] low high le unit some units most t = (le, unit, some, units, most, tt)
spaced-joined s (y ∷ ys) low high le unit some units most t = by (s.place + s.size == y.place) refl
  where
    by : (b : Bool) → (s.place + s.size == y.place) ≡ b → Spaced low high (cond b (record { place = s.place; size = s.size + y.size } ∷ ys) (s ∷ y ∷ ys))
    by true e =
        let touch : s.place + s.size ≡ y.place = eqb-true (s.place + s.size) y.place e in
        (le, unit, omega (arith, some), omega (arith, units, t.3), omega (arith, touch, t.4), spaced-lower (y.place + y.size + 1) (s.place + (s.size + y.size) + 1) high ys (omega (arith, touch)) t.5)
    by false e = let more = differs (s.place + s.size) y.place e in (le, unit, some, units, most, (omega (arith, t.0, more), t.1, t.2, t.3, t.4, t.5))

-- holes after the first byte of a piece that is outside them are after its last
behind-piece : (p : PieceView) (hs : List Hole) (low high : ℕ) → p.place < low → AllByRecursion (IsOutside p) hs → Spaced low high hs → Spaced (p.place + p.size) high hs
behind-piece p [] low high lt out t = tt
behind-piece p (h ∷ hs) low high lt out t = (by out.0, t.1, t.2, t.3, t.4, t.5)
  where
    by : IsOutside p h → p.place + p.size ≤ h.place
    by (inl before) = before
    by (inr behind) = omega (arith, behind, lt, t.0)

pub spaced-given : (p : PieceView) (hs : List Hole) (low high : ℕ) → low ≤ p.place → p.place % 16 ≡ 0 → 0 < p.size → p.size % 16 ≡ 0 → p.place + p.size ≤ high → AllByRecursion (IsOutside p) hs → Spaced low high hs → Spaced low high (given (hole_of p) hs)
spaced-given p [] low high le unit some units most out t = (le, unit, some, units, most, tt)
spaced-given p (h ∷ hs) low high le unit some units most out t = by (nat_lt p.place h.place) refl (λ above. spaced-given p hs (h.place + h.size + 1) high above unit some units most out.1 t.5)
  where
    behind : h.place ≤ p.place → IsOutside p h → h.place + h.size ≤ p.place
    behind ge (inl before) = omega (arith, before, ge, some)
    behind ge (inr last) = last

    touching : (b : Bool) → (h.place + h.size == p.place) ≡ b → h.place ≤ p.place → (h.place + h.size + 1 ≤ p.place → Spaced (h.place + h.size + 1) high (given (hole_of p) hs)) → Spaced low high (cond b (joined (record { place = h.place; size = h.size + p.size }) hs) (h ∷ given (hole_of p) hs))
    touching true e ge above =
        let touch : h.place + h.size ≡ p.place = eqb-true (h.place + h.size) p.place e in
        let rest = behind-piece p hs (h.place + h.size + 1) high (omega (arith, touch)) out.1 t.5 in
        spaced-joined (record { place = h.place; size = h.size + p.size }) hs low high t.0 t.1 (omega (arith, some)) (omega (arith, t.3, units)) (omega (arith, touch, most)) (spaced-lower (p.place + p.size) (h.place + (h.size + p.size)) high hs (omega (arith, touch)) rest)
    touching false e ge rest =
        let last = behind ge out.0 in let more = differs (h.place + h.size) p.place e in
        (t.0, t.1, t.2, t.3, t.4, rest (omega (arith, last, more)))

    by : (b : Bool) → nat_lt p.place h.place ≡ b → (h.place + h.size + 1 ≤ p.place → Spaced (h.place + h.size + 1) high (given (hole_of p) hs)) → Spaced low high (cond b (joined (hole_of p) (h ∷ hs)) (cond (h.place + h.size == p.place) (joined (record { place = h.place; size = h.size + p.size }) hs) (h ∷ given (hole_of p) hs)))
    by true e rest =
        let before = ltb-true p.place h.place e in
        spaced-joined (hole_of p) (h ∷ hs) low high le unit some units most (behind-piece p (h ∷ hs) h.place high before out (omega arith, t.1, t.2, t.3, t.4, t.5))
    by false e rest = touching (h.place + h.size == p.place) refl (ltb-false p.place h.place e) rest

-- outside two runs of bytes of which one follows the other, and so outside both at once
outside-both : (q : PieceView) (place first second : ℕ) → 0 < q.size → (q.place + q.size ≤ place) ⊎ (place + first ≤ q.place) → (q.place + q.size ≤ place + first) ⊎ (place + first + second ≤ q.place) → (q.place + q.size ≤ place) ⊎ (place + (first + second) ≤ q.place)
outside-both q place first second some (inl before) there = inl before
outside-both q place first second some (inr behind) (inl before) = absurd (omega (arith, behind, before, some))
outside-both q place first second some (inr behind) (inr last) = inr (omega (arith, last))

outside-joined : (q : PieceView) (s : Hole) (ys : List Hole) → 0 < q.size → IsOutside q s → AllByRecursion (IsOutside q) ys → AllByRecursion (IsOutside q) (joined s ys)
outside-joined q s [] some this out = (this, tt)
outside-joined q s (y ∷ ys) some this out = by (s.place + s.size == y.place) refl
  where
    moved : s.place + s.size ≡ y.place → IsOutside q y → (q.place + q.size ≤ s.place + s.size) ⊎ (s.place + s.size + y.size ≤ q.place)
    moved touch (inl before) = inl (omega (arith, before, touch))
    moved touch (inr behind) = inr (omega (arith, behind, touch))

    by : (b : Bool) → (s.place + s.size == y.place) ≡ b → AllByRecursion (IsOutside q) (cond b (record { place = s.place; size = s.size + y.size } ∷ ys) (s ∷ y ∷ ys))
    by true e = (outside-both q s.place s.size y.size some this (moved (eqb-true (s.place + s.size) y.place e) out.0), out.1)
    by false e = (this, out)

-- another piece stays outside
pub outside-given : (q p : PieceView) (hs : List Hole) → 0 < q.size → ArePiecesApart q p → AllByRecursion (IsOutside q) hs → AllByRecursion (IsOutside q) (given (hole_of p) hs)
outside-given q p [] some apart out = (apart, tt)
outside-given q p (h ∷ hs) some apart out = by (nat_lt p.place h.place) (outside-given q p hs some apart out.1)
  where
    moved : h.place + h.size ≡ p.place → ArePiecesApart q p → (q.place + q.size ≤ h.place + h.size) ⊎ (h.place + h.size + p.size ≤ q.place)
    moved touch (inl before) = inl (omega (arith, before, touch))
    moved touch (inr behind) = inr (omega (arith, behind, touch))

    touching : (b : Bool) → (h.place + h.size == p.place) ≡ b → AllByRecursion (IsOutside q) (given (hole_of p) hs) → AllByRecursion (IsOutside q) (cond b (joined (record { place = h.place; size = h.size + p.size }) hs) (h ∷ given (hole_of p) hs))
    touching true e rest = outside-joined q (record { place = h.place; size = h.size + p.size }) hs some (outside-both q h.place h.size p.size some out.0 (moved (eqb-true (h.place + h.size) p.place e) apart)) out.1
    touching false e rest = (out.0, rest)

    by : (b : Bool) → AllByRecursion (IsOutside q) (given (hole_of p) hs) → AllByRecursion (IsOutside q) (cond b (joined (hole_of p) (h ∷ hs)) (cond (h.place + h.size == p.place) (joined (record { place = h.place; size = h.size + p.size }) hs) (h ∷ given (hole_of p) hs)))
    by true rest = outside-joined q (hole_of p) (h ∷ hs) some apart out
    by false rest = touching (h.place + h.size == p.place) refl rest

total-joined : (s : Hole) (ys : List Hole) → total (joined s ys) ≡ s.size + total ys
total-joined s [] = refl
total-joined s (y ∷ ys) = by (s.place + s.size == y.place)
  where
    by : (b : Bool) → total (cond b (record { place = s.place; size = s.size + y.size } ∷ ys) (s ∷ y ∷ ys)) ≡ s.size + (y.size + total ys)
    by true = omega arith
    by false = refl

pub total-given : (s : Hole) (hs : List Hole) → total (given s hs) ≡ s.size + total hs
total-given s [] = refl
total-given s (h ∷ hs) = by (nat_lt s.place h.place) (total-given s hs)
  where
    touching : (b : Bool) → total (given s hs) ≡ s.size + total hs → total (cond b (joined (record { place = h.place; size = h.size + s.size }) hs) (h ∷ given s hs)) ≡ s.size + (h.size + total hs)
    touching true rest = let all = total-joined (record { place = h.place; size = h.size + s.size }) hs in omega (arith, all)
    touching false rest = omega (arith, rest)

    by : (b : Bool) → total (given s hs) ≡ s.size + total hs → total (cond b (joined s (h ∷ hs)) (cond (h.place + h.size == s.place) (joined (record { place = h.place; size = h.size + s.size }) hs) (h ∷ given s hs))) ≡ s.size + (h.size + total hs)
    by true rest = total-joined s (h ∷ hs)
    by false rest = touching (h.place + h.size == s.place) rest
