-- What one join more does to lists, walks and edges.
use Rattle.std.proofs.Common.{◌≡◌, refl, ap, ℕ, ◌+◌, ◌≤◌, List, [], ◌∷◌, ◌++◌, map, Some, Bool, true, false, cond, inl, inr, ◌⊎◌, ◌==◌, ◌||◌}
use Rattle.std.proofs.lemmas.Bool.{false≢true, or_left, or_right, or_cases, and_from, eq-eqb, leb-true}
use Rattle.std.specs.Prelude.{nat_le}
use Rattle.std.specs.List.{list_any, AllByRecursion}
use Rattle.stream_law.specs.declared.graph.Kind.{Kind}
use Rattle.stream_law.specs.declared.graph.Edge.{Edge}
use Rattle.stream_law.specs.declared.graph.Join.{Join}
use Rattle.stream_law.specs.Joins.{kind_ins, kind_outs, fits_kind, joined_edge}
use Rattle.stream_law.specs.Order.{is_among}
use Rattle.stream_law.proofs.EdgeNumbers.{more-right, right-ins, right-outs}
use Rattle.row_laws.proofs.Growing.{all-by}

-- ---- lists

pub among-map : {X : Type 0} (key : X → ℕ) (xs : List X) (n : ℕ) → list_any (λ x. key x == n) xs ≡ true → is_among (map key xs) n ≡ true
among-map key [] n e = e
among-map key (x ∷ xs) n e = by (or_cases (key x == n) (list_any (λ x. key x == n) xs) e) (among-map key xs n)
  where
    by : ((key x == n) ≡ true) ⊎ (list_any (λ x. key x == n) xs ≡ true) → (list_any (λ x. key x == n) xs ≡ true → is_among (map key xs) n ≡ true) → ((key x == n) || is_among (map key xs) n) ≡ true
    by (inl e) rest = or_left (key x == n) _ e
    by (inr e) rest = or_right (key x == n) _ (rest e)

pub among-left : (xs ys : List ℕ) (n : ℕ) → is_among xs n ≡ true → is_among (xs ++ ys) n ≡ true
among-left [] ys n e = absurd (false≢true e)
among-left (x ∷ xs) ys n e = by (or_cases (x == n) (is_among xs n) e) (among-left xs ys n)
  where
    by : ((x == n) ≡ true) ⊎ (is_among xs n ≡ true) → (is_among xs n ≡ true → is_among (xs ++ ys) n ≡ true) → ((x == n) || is_among (xs ++ ys) n) ≡ true
    by (inl e) rest = or_left (x == n) _ e
    by (inr e) rest = or_right (x == n) _ (rest e)

pub among-right : (xs ys : List ℕ) (n : ℕ) → is_among ys n ≡ true → is_among (xs ++ ys) n ≡ true
among-right [] ys n e = e
among-right (x ∷ xs) ys n e = or_right (x == n) _ (among-right xs ys n e)

pub all-own : {X : Type 0} (key : X → ℕ) (pre : List ℕ) (xs : List X) → AllByRecursion (λ x. is_among (pre ++ map key xs) (key x) ≡ true) xs
all-own key pre [] = tt
all-own {X} key pre (x ∷ xs) = (
  among-right pre (key x ∷ map key xs) (key x) (or_left (key x == key x) _ (eq-eqb (key x) (key x) refl)),
  all-by (λ y. is_among (pre ++ map key xs) (key y) ≡ true) (λ y. is_among (pre ++ key x ∷ map key xs) (key y) ≡ true) (λ y. skip pre (key y)) xs (all-own key pre xs),
)
  where
    skip : (zs : List ℕ) (n : ℕ) → is_among (zs ++ map key xs) n ≡ true → is_among (zs ++ key x ∷ map key xs) n ≡ true
    skip [] n e = or_right (key x == n) _ e
    skip (z ∷ zs) n e = by (or_cases (z == n) (is_among (zs ++ map key xs) n) e) (skip zs n)
      where
        by : ((z == n) ≡ true) ⊎ (is_among (zs ++ map key xs) n ≡ true) → (is_among (zs ++ map key xs) n ≡ true → is_among (zs ++ key x ∷ map key xs) n ≡ true) → ((z == n) || is_among (zs ++ key x ∷ map key xs) n) ≡ true
        by (inl e) rest = or_left (z == n) _ e
        by (inr e) rest = or_right (z == n) _ (rest e)

-- ---- kinds

-- a component with the edges of its kind still has them with one more in, or one more out, where it takes one
pub fits-more : (k : Kind) (m n l : ℕ) → m ≤ l → l ≤ m + 1 → nat_le (m + 1) (kind_ins k) ≡ true → fits_kind k m n ≡ true → fits_kind k l n ≡ true
fits-more k m n l least most room fits = and_from _ _ (more-right (kind_ins k) m l least most (leb-true (m + 1) (kind_ins k) room) (right-ins k m n fits)) (right-outs k m n fits)

pub fits-more_out : (k : Kind) (m n l : ℕ) → n ≤ l → l ≤ n + 1 → nat_le (n + 1) (kind_outs k) ≡ true → fits_kind k m n ≡ true → fits_kind k m l ≡ true
fits-more_out k m n l least most room fits = and_from _ _ (right-ins k m n fits) (more-right (kind_outs k) n l least most (leb-true (n + 1) (kind_outs k) room) (right-outs k m n fits))

-- ---- edges

abbrev pub sided : Bool → Bool → Join → Edge → Edge
sided from to j e =
    cond from (record { buffer = e.buffer; pipe = e.pipe; size = e.size; source = e.source; sink = Some j.sink })
    (cond to (record { buffer = e.buffer; pipe = e.pipe; size = e.size; source = Some j.source; sink = e.sink }) e)

pub joined-buffer : (j : Join) (e : Edge) → (joined_edge j e).buffer ≡ e.buffer
joined-buffer j e = by (e.buffer == j.source) (e.buffer == j.sink)
  where
    by : (h k : Bool) → (sided h k j e).buffer ≡ e.buffer
    by true k = refl
    by false true = refl
    by false false = refl

pub joined-pipe : (j : Join) (e : Edge) → (joined_edge j e).pipe ≡ e.pipe
joined-pipe j e = by (e.buffer == j.source) (e.buffer == j.sink)
  where
    by : (h k : Bool) → (sided h k j e).pipe ≡ e.pipe
    by true k = refl
    by false true = refl
    by false false = refl

pub joined-size : (j : Join) (e : Edge) → (joined_edge j e).size ≡ e.size
joined-size j e = by (e.buffer == j.source) (e.buffer == j.sink)
  where
    by : (h k : Bool) → (sided h k j e).size ≡ e.size
    by true k = refl
    by false true = refl
    by false false = refl

pub buffers-joined : (j : Join) (edges : List Edge) → map (λ e. e.buffer) (map (joined_edge j) edges) ≡ map (λ e. e.buffer) edges
buffers-joined j [] = refl
buffers-joined j (e ∷ edges) = ap (λ (p : ℕ × List ℕ). p.0 ∷ p.1) (λ i. (joined-buffer j e i, buffers-joined j edges i))

pub has-joined : (j : Join) (edges : List Edge) (n : ℕ) → list_any (λ e. e.buffer == n) (map (joined_edge j) edges) ≡ list_any (λ e. e.buffer == n) edges
has-joined j [] n = refl
has-joined j (e ∷ edges) n = ap (λ (p : ℕ × Bool). (p.0 == n) || p.1) (λ i. (joined-buffer j e i, has-joined j edges n i))
