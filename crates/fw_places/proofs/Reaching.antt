-- What is marked once no join leads on is what walks reach.
use Rattle.std.proofs.Common.{◌≡◌, refl, sym, ap, ◌∙◌, subst, ℕ, zero, suc, ◌+◌, ◌<◌, List, [], ◌∷◌, Bool, true, false, not, ltb, cond, length, map, get_or, ◌==◌, ◌&&◌, ◌||◌, inl, inr, arith}
use Rattle.std.proofs.lemmas.Bool.{false≢true, or_right, and_parts, and_from, eqb-true, eq-eqb, ltb-true, lt-ltb}
use Rattle.std.specs.List.{AllByRecursion}
use Rattle.stream_law.specs.declared.graph.Join.{Join}
use Rattle.stream_law.proofs.Members.{IsIn, in-all, in-each, any-in, in-any}
use Rattle.stream_law.proofs.Walking.{Path, path-of, walks-lead, walk-on}
use Rattle.stream_law.specs.Order.{is_among}
use Rattle.fw_places.specs.Walks.{near_of, far_of, leads_by, place_in, by_places, IsListed, IsClosed, is_marked, is_reached}

-- ---- places

-- an id that is listed stands at its place
pub at-place : (ids : List ℕ) (x : ℕ) → is_among ids x ≡ true → (place_in ids x < length ids) × (get_or ids (place_in ids x) 0 ≡ x)
at-place [] x none = absurd (false≢true none)
at-place (y ∷ ids) x there = by (y == x) refl there (at-place ids x)
  where
    stands : Bool → Type 0
    stands h = (cond (not h) (1 + place_in ids x) 0 < suc (length ids)) × (get_or (y ∷ ids) (cond (not h) (1 + place_in ids x) 0) 0 ≡ x)

    by : (h : Bool) → (y == x) ≡ h → (h || is_among ids x) ≡ true → (is_among ids x ≡ true → (place_in ids x < length ids) × (get_or ids (place_in ids x) 0 ≡ x)) → (place_in (y ∷ ids) x < suc (length ids)) × (get_or (y ∷ ids) (place_in (y ∷ ids) x) 0 ≡ x)
    by true is there rest = subst stands (sym is) (omega arith, eqb-true y x is)
    by false is there rest = let r = rest there in let e : suc (place_in ids x) ≡ 1 + place_in ids x = omega arith in subst stands (sym is) (omega (arith, r.0), subst (λ (k : ℕ). get_or (y ∷ ids) k 0 ≡ x) e r.1)

pub in-at : (ids : List ℕ) (k : ℕ) → k < length ids → IsIn (get_or ids k 0) ids
in-at [] k low = absurd (omega (arith, low))
in-at (y ∷ ids) zero low = inl refl
in-at (y ∷ ids) (suc k) low = inr (in-at ids k (omega (arith, low)))

-- ---- walks

module _ (joins : List Join) (q : ℕ → Bool) where
  pub walk-forth : ((j : Join) → IsIn j joins → q j.source ≡ true → q j.sink ≡ true) → (n a b : ℕ) → Path joins n a b → q a ≡ true → q b ≡ true
  walk-forth on zero a b p here = ap q (sym p) ∙ here
  walk-forth on (suc n) a b (j, there, from, p) here = walk-forth on n j.sink b p (on j there (ap q from ∙ here))

  pub walk-back : ((j : Join) → IsIn j joins → q j.sink ≡ true → q j.source ≡ true) → (n a b : ℕ) → Path joins n a b → q b ≡ true → q a ≡ true
  walk-back on zero a b p here = ap q p ∙ here
  walk-back on (suc n) a b (j, there, from, p) here = ap q (sym from) ∙ on j there (walk-back on n j.sink b p here)

-- what no join leads on from holds all that walks reach
pub reach-closed : (back : Bool) (joins : List Join) (q : ℕ → Bool) → IsClosed back joins q → (a b : ℕ) → leads_by back joins a b ≡ true → q a ≡ true → q b ≡ true
reach-closed true joins q closed a b led here = let w = path-of joins (length joins) b a led in walk-back joins q (λ j there. in-all (λ (j : Join). q j.sink ≡ true → q j.source ≡ true) joins j closed there) w.0 b a w.1 here
reach-closed false joins q closed a b led here = let w = path-of joins (length joins) a b led in walk-forth joins q (λ j there. in-all (λ (j : Join). q j.source ≡ true → q j.sink ≡ true) joins j closed there) w.0 a b w.1 here

-- a walk leads nowhere from where it is, and along one join more
pub reach-here : (back : Bool) (joins : List Join) (a : ℕ) → leads_by back joins a a ≡ true
reach-here true joins a = walks-lead joins a a (0, refl)
reach-here false joins a = walks-lead joins a a (0, refl)

pub reach-more : (back : Bool) (joins : List Join) (j : Join) → IsIn j joins → (s : ℕ) → leads_by back joins s (near_of back j) ≡ true → leads_by back joins s (far_of back j) ≡ true
reach-more true joins j there s led = let w = path-of joins (length joins) j.sink s led in walks-lead joins j.source s (suc w.0, (j, there, refl, w.1))
reach-more false joins j there s led = let w = path-of joins (length joins) s j.source led in walks-lead joins s j.sink (walk-on joins w.0 s j.source j.sink w.1 (1, (j, there, refl, refl)))

-- ---- marks

pub both-true : (a b : Bool) → (a ≡ true → b ≡ true) → (b ≡ true → a ≡ true) → a ≡ b
both-true true b f g = sym (f refl)
both-true false true f g = g refl
both-true false false f g = refl

pub mapped : (ids : List ℕ) (P : Join → Type 0) (joins : List Join) → AllByRecursion (λ j. P (by_places ids j)) joins → AllByRecursion P (map (by_places ids) joins)
mapped ids P [] all = tt
mapped ids P (j ∷ joins) all = (all.0, mapped ids P joins all.1)

unmapped : (ids : List ℕ) (P : Join → Type 0) (joins : List Join) → AllByRecursion P (map (by_places ids) joins) → AllByRecursion (λ j. P (by_places ids j)) joins
unmapped ids P [] all = tt
unmapped ids P (j ∷ joins) all = (all.0, unmapped ids P joins all.1)

module _ (back : Bool) (ids : List ℕ) (joins : List Join) (listed : AllByRecursion (IsListed ids) joins) (old new : List Bool) where
  abbrev on : ℕ → Bool
  on x = is_reached back ids joins old x

  -- what a place that is marked may be: of an id to which a walk leads, where it is the place of its id
  abbrev p : ℕ → Bool
  p k = (not (ltb k (length ids)) || not (place_in ids (get_or ids k 0) == k)) || on (get_or ids k 0)

  near-place : (j : Join) → place_in ids (near_of back j) ≡ near_of back (by_places ids j)
  near-place j = by back
    where
      by : (h : Bool) → place_in ids (near_of h j) ≡ near_of h (by_places ids j)
      by true = refl
      by false = refl

  far-place : (j : Join) → place_in ids (far_of back j) ≡ far_of back (by_places ids j)
  far-place j = by back
    where
      by : (h : Bool) → place_in ids (far_of h j) ≡ far_of h (by_places ids j)
      by true = refl
      by false = refl

  -- at the place of an id that is listed
  p-on : (x : ℕ) → is_among ids x ≡ true → p (place_in ids x) ≡ true → on x ≡ true
  p-on x there is =
      let at = at-place ids x there in
      let low : not (ltb (place_in ids x) (length ids)) ≡ false = ap not (lt-ltb (place_in ids x) (length ids) at.0) in
      let first : not (place_in ids (get_or ids (place_in ids x) 0) == place_in ids x) ≡ false = ap not (eq-eqb (place_in ids (get_or ids (place_in ids x) 0)) (place_in ids x) (ap (place_in ids) at.1)) in
      ap on (sym at.1) ∙ ap (λ (h : Bool × Bool). (h.0 || h.1) || on (get_or ids (place_in ids x) 0)) (λ i. (sym low i, sym first i)) ∙ is

  on-p : (x : ℕ) → is_among ids x ≡ true → on x ≡ true → p (place_in ids x) ≡ true
  on-p x there is = or_right (not (ltb (place_in ids x) (length ids)) || not (place_in ids (get_or ids (place_in ids x) 0) == place_in ids x)) _ (ap on (at-place ids x there).1 ∙ is)

  near-listed : (j : Join) → IsIn j joins → is_among ids (near_of back j) ≡ true
  near-listed j there = by back (in-all (IsListed ids) joins j listed there)
    where
      by : (h : Bool) → IsListed ids j → is_among ids (near_of h j) ≡ true
      by true both = both.1
      by false both = both.0

  far-listed : (j : Join) → IsIn j joins → is_among ids (far_of back j) ≡ true
  far-listed j there = by back (in-all (IsListed ids) joins j listed there)
    where
      by : (h : Bool) → IsListed ids j → is_among ids (far_of h j) ≡ true
      by true both = both.0
      by false both = both.1

  on-more : (j : Join) → IsIn j joins → on (near_of back j) ≡ true → on (far_of back j) ≡ true
  on-more j there is =
      let s = any-in (λ s. is_marked ids old s && leads_by back joins s (near_of back j)) ids is in
      let both = and_parts (is_marked ids old s.0) (leads_by back joins s.0 (near_of back j)) s.2 in
      in-any (λ s. is_marked ids old s && leads_by back joins s (far_of back j)) ids s.0 s.1 (and_from (is_marked ids old s.0) (leads_by back joins s.0 (far_of back j)) both.0 (reach-more back joins j there s.0 both.1))

  p-closed : IsClosed back (map (by_places ids) joins) p
  p-closed = mapped ids (λ j. p (near_of back j) ≡ true → p (far_of back j) ≡ true) joins (in-each (λ j. p (near_of back (by_places ids j)) ≡ true → p (far_of back (by_places ids j)) ≡ true) joins (λ j there is.
      ap p (sym (far-place j)) ∙ on-p (far_of back j) (far-listed j there) (on-more j there (p-on (near_of back j) (near-listed j there) (ap p (near-place j) ∙ is)))))

  p-begins : (k : ℕ) → get_or old k false ≡ true → p k ≡ true
  p-begins k is = by (ltb k (length ids)) refl (place_in ids (get_or ids k 0) == k) refl
    where
      by : (h : Bool) → ltb k (length ids) ≡ h → (same : Bool) → (place_in ids (get_or ids k 0) == k) ≡ same → ((not h || not same) || on (get_or ids k 0)) ≡ true
      by false low same first = refl
      by true low false first = refl
      by true low true first =
          let x = get_or ids k 0 in
          in-any (λ s. is_marked ids old s && leads_by back joins s x) ids x (in-at ids k (ltb-true k (length ids) low)) (and_from (is_marked ids old x) (leads_by back joins x x) (ap (λ (i : ℕ). get_or old i false) (eqb-true (place_in ids x) k first) ∙ is) (reach-here back joins x))

  pub marks-reach :
      ((k : ℕ) → get_or old k false ≡ true → get_or new k false ≡ true)
      → IsClosed back (map (by_places ids) joins) (λ k. get_or new k false)
      → ((q : ℕ → Bool) → IsClosed back (map (by_places ids) joins) q → ((k : ℕ) → get_or old k false ≡ true → q k ≡ true) → (k : ℕ) → get_or new k false ≡ true → q k ≡ true)
      → (x : ℕ) → is_among ids x ≡ true → is_marked ids new x ≡ is_reached back ids joins old x
  marks-reach kept closed least x there = both-true _ _ (λ is. p-on x there (least p p-closed p-begins (place_in ids x) is)) (λ is.
      let s = any-in (λ s. is_marked ids old s && leads_by back joins s x) ids is in
      let both = and_parts (is_marked ids old s.0) (leads_by back joins s.0 x) s.2 in
      reach-closed back joins (is_marked ids new) (in-each (λ j. is_marked ids new (near_of back j) ≡ true → is_marked ids new (far_of back j) ≡ true) joins (λ j there e. ap (λ (k : ℕ). get_or new k false) (far-place j) ∙ in-all (λ (j : Join). get_or new (near_of back (by_places ids j)) false ≡ true → get_or new (far_of back (by_places ids j)) false ≡ true) joins j (unmapped ids (λ j. get_or new (near_of back j) false ≡ true → get_or new (far_of back j) false ≡ true) joins closed) there (ap (λ (k : ℕ). get_or new k false) (sym (near-place j)) ∙ e))) s.0 x both.1 (kept (place_in ids s.0) both.0))
