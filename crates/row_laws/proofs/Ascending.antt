-- Lists that ascend, or have no key twice.
use Rattle.std.proofs.Common.{◌≡◌, refl, sym, ap, subst, ℕ, ◌<◌, List, [], ◌∷◌, map, Bool, true, false, cond, ◌==◌}
use Rattle.std.proofs.lemmas.Bool.{or_parts}
use Rattle.std.specs.Prelude.{nat_lt}
use Rattle.std.specs.List.{list_any, AllByRecursion, IsDistinct}
use Rattle.stream_law.specs.declared.graph.Pipe.{Pipe}
use Rattle.stream_law.specs.declared.stream.StreamView.{StreamView}
use Rattle.stream_law.specs.Placed.{placed, AreAbove, Ascends, HasDistinct}
use Rattle.mbox_link.specs.Step.{completed}
use Rattle.row_laws.specs.Played.{KeepsLive}
use Rattle.row_laws.proofs.Unreached.{eqb-turned}

above-keys : {X Y : Type 0} (key : X → ℕ) (name : Y → ℕ) (m n : ℕ) (xs : List X) (ys : List Y) → m ≡ n → map key xs ≡ map name ys → AreAbove key m xs → AreAbove name n ys
unfolding AreAbove
above-keys key name m n xs [] same keys above = tt
above-keys key name m n [] (y ∷ ys) same keys above = absurd (cc keys)
above-keys key name m n (x ∷ xs) (y ∷ ys) same keys above =
    let first : key x ≡ name y = cc keys in
    (subst (λ (p : ℕ × ℕ). p.0 < p.1) (λ i. (same i, first i)) above.0, above-keys key name m n xs ys same (cc keys) above.1)

-- what has the keys of what ascends does so
pub ascends-keys : {X Y : Type 0} (key : X → ℕ) (name : Y → ℕ) (xs : List X) (ys : List Y) → map key xs ≡ map name ys → Ascends key xs → Ascends name ys
unfolding Ascends
ascends-keys key name xs [] keys up = tt
ascends-keys key name [] (y ∷ ys) keys up = absurd (cc keys)
ascends-keys key name (x ∷ xs) (y ∷ ys) keys up =
    let first : key x ≡ name y = cc keys in
    (above-keys key name (key x) (name y) xs ys first (cc keys) up.0, ascends-keys key name xs ys (cc keys) up.1)

-- a record that is put in by its key, with a name that none has
pub distinct-placed : {X : Type 0} (key name : X → ℕ) (x : X) (xs : List X) → list_any (λ y. name y == name x) xs ≡ false → HasDistinct name xs → HasDistinct name (placed key x xs)
unfolding IsDistinct
distinct-placed key name x [] gone distinct = (tt, tt)
distinct-placed {X} key name x (y ∷ ys) gone distinct = by (nat_lt (key x) (key y)) (distinct-placed key name x ys parts.1 distinct.1)
  where
    parts : ((name y == name x) ≡ false) × (list_any (λ z. name z == name x) ys ≡ false)
    parts = or_parts (name y == name x) (list_any (λ z. name z == name x) ys) gone

    apart : (zs : List X) → list_any (λ z. name z == name x) zs ≡ false → AllByRecursion (λ n. (name x == n) ≡ false) (map name zs)
    apart [] none = tt
    apart (z ∷ zs) none = let both = or_parts (name z == name x) (list_any (λ z. name z == name x) zs) none in (eqb-turned (name z) (name x) both.0, apart zs both.1)

    behind : (zs : List X) → AllByRecursion (λ n. (name y == n) ≡ false) (map name zs) → AllByRecursion (λ n. (name y == n) ≡ false) (map name (placed key x zs))
    behind [] all = (parts.0, tt)
    behind (z ∷ zs) all = at (nat_lt (key x) (key z)) (behind zs all.1)
      where
        at : (h : Bool) → AllByRecursion (λ n. (name y == n) ≡ false) (map name (placed key x zs)) → AllByRecursion (λ n. (name y == n) ≡ false) (map name (cond h (x ∷ z ∷ zs) (z ∷ placed key x zs)))
        at true rest = (parts.0, all)
        at false rest = (all.0, rest)

    by : (h : Bool) → HasDistinct name (placed key x ys) → HasDistinct name (cond h (x ∷ y ∷ ys) (y ∷ placed key x ys))
    by true rest = (apart (y ∷ ys) gone, distinct)
    by false rest = (behind ys distinct.0, rest)

-- a pipeline that is complete keeps its index
pub indices-completed : (id : ℕ) (ps : List Pipe) → map (λ (p : Pipe). p.index) (map (completed id) ps) ≡ map (λ (p : Pipe). p.index) ps
indices-completed id [] = refl
indices-completed id (p ∷ ps) = ap (λ (q : ℕ × List ℕ). q.0 ∷ q.1) (λ i. (by (p.id == id) i, indices-completed id ps i))
  where
    by : (h : Bool) → (cond h (record p { complete = true }) p).index ≡ p.index
    by true = refl
    by false = refl

-- a change of streams keeps their hosts
pub hosts-kept : (to : StreamView → StreamView) (ss : List StreamView) → KeepsLive to ss → map (λ (s : StreamView). s.host) ss ≡ map (λ (s : StreamView). s.host) (map to ss)
hosts-kept to [] keeps = refl
hosts-kept to (s ∷ ss) keeps = ap (λ (q : ℕ × List ℕ). q.0 ∷ q.1) (λ i. (sym keeps.0.0 i, hosts-kept to ss keeps.1 i))
