-- Rings in another view, and lists of the same keys.
use Rattle.std.proofs.Common.{◌≡◌, refl, sym, ap, ◌∙◌, subst, ℕ, List, [], ◌∷◌, map, Bool, true, false, cond}
use Rattle.std.specs.List.{AllByRecursion}
use Rattle.sof_base.specs.Samples.{Frame}
use Rattle.stream_law.specs.Placed.{placed}
use Rattle.stream_law.specs.State.{View, RingView}
use Rattle.stream_law.specs.Seen.{flows, ring_seen}
use Rattle.stream_law.proofs.Placing.{map-placed}

-- ---- keys

-- what is so of every number is so of each key
pub each-key : {X : Type 0} {P : ℕ → Type 0} (key : X → ℕ) → ((n : ℕ) → P n) → (xs : List X) → AllByRecursion (λ x. P (key x)) xs
each-key key f [] = tt
each-key key f (x ∷ xs) = (f (key x), each-key key f xs)

-- what is so of each key of one list is so of each of another of the same keys
pub by-keys : {X Y : Type 0} (P : ℕ → Type 0) (name : X → ℕ) (key : Y → ℕ) (xs : List X) (ys : List Y) → map name xs ≡ map key ys → AllByRecursion (λ y. P (key y)) ys → AllByRecursion (λ x. P (name x)) xs
by-keys P name key [] ys keys all = tt
by-keys P name key (x ∷ xs) [] keys all = absurd (cc keys)
by-keys P name key (x ∷ xs) (y ∷ ys) keys all = let first : key y ≡ name x = cc keys in (subst P first all.0, by-keys P name key xs ys (cc keys) all.1)

-- a record of one key more in each
pub keys-placed : {X Y : Type 0} (name : X → ℕ) (key : Y → ℕ) (x : X) (y : Y) (xs : List X) (ys : List Y) → map name xs ≡ map key ys → name x ≡ key y → map name (placed name x xs) ≡ map key (placed key y ys)
keys-placed name key x y xs ys keys same =
    map-placed name name (λ n. n) (λ x. refl) x xs ∙ ap (λ (p : ℕ × List ℕ). placed (λ n. n) p.0 p.1) (λ i. (same i, keys i)) ∙ sym (map-placed key key (λ n. n) (λ y. refl) y ys)

-- ---- rings that a view leaves as they are

pub seen-each : (v : View) (rs : List RingView) → map (ring_seen v) rs ≡ rs → AllByRecursion (λ r. ring_seen v r ≡ r) rs
seen-each v [] same = tt
seen-each v (r ∷ rs) same = (cc same, seen-each v rs (cc same))

pub seen-all : (v : View) (rs : List RingView) → AllByRecursion (λ r. ring_seen v r ≡ r) rs → map (ring_seen v) rs ≡ rs
seen-all v [] each = refl
seen-all v (r ∷ rs) each = ap (λ (p : RingView × List RingView). p.0 ∷ p.1) (λ i. (each.0 i, seen-all v rs each.1 i))

seen-by : (old new : View) (r : RingView) → flows new r.buffer ≡ flows old r.buffer → ring_seen old r ≡ r → ring_seen new r ≡ r
seen-by old new r same is = ap (λ h. record { buffer = r.buffer; frames = cond h r.frames [] }) same ∙ is

-- where frames flow as before
pub seen-same : (old new : View) (rs : List RingView) → AllByRecursion (λ r. flows new r.buffer ≡ flows old r.buffer) rs → map (ring_seen old) rs ≡ rs → map (ring_seen new) rs ≡ rs
seen-same old new rs flow same = seen-all new rs (each rs flow (seen-each old rs same))
  where
    each : (xs : List RingView) → AllByRecursion (λ r. flows new r.buffer ≡ flows old r.buffer) xs → AllByRecursion (λ r. ring_seen old r ≡ r) xs → AllByRecursion (λ r. ring_seen new r ≡ r) xs
    each [] flow was = tt
    each (r ∷ xs) flow was = (seen-by old new r flow.0 was.0, each xs flow.1 was.1)

-- rings that are seen once are seen so again
pub seen-twice : (v : View) (rs : List RingView) → map (ring_seen v) (map (ring_seen v) rs) ≡ map (ring_seen v) rs
seen-twice v [] = refl
seen-twice v (r ∷ rs) = ap (λ (p : List Frame × List RingView). record { buffer = r.buffer; frames = p.0 } ∷ p.1) (λ i. (by (flows v r.buffer) i, seen-twice v rs i))
  where
    by : (h : Bool) → cond h (cond h r.frames []) [] ≡ cond h r.frames []
    by true = refl
    by false = refl

pub buffers-seen : (v : View) (rs : List RingView) → map (λ (r : RingView). r.buffer) (map (ring_seen v) rs) ≡ map (λ (r : RingView). r.buffer) rs
buffers-seen v [] = refl
buffers-seen v (r ∷ rs) = ap (λ (ns : List ℕ). r.buffer ∷ ns) (buffers-seen v rs)
