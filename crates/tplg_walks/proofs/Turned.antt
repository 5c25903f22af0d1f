-- Walks along edges that are turned about.
use Rattle.std.proofs.Common.{◌≡◌, refl, sym, ◌∙◌, ℕ, zero, suc, List, [], ◌∷◌, map, Bool, true, false, ◌&&◌, ◌||◌}
use Rattle.stream_law.specs.declared.graph.Edge.{Edge}
use Rattle.stream_law.specs.Ways.{is_end}
use Rattle.tplg_walks.specs.Cycles.{are_joined, EdgeWalk, Reaches}
use Rattle.tplg_walks.specs.Reach.{turned}
use Rattle.tplg_walks.proofs.Reached.{walk_end}

and-turned : (a b : Bool) → (a && b) ≡ (b && a)
and-turned true true = refl
and-turned true false = refl
and-turned false true = refl
and-turned false false = refl

joined-turned : (edges : List Edge) (a b : ℕ) → are_joined (map turned edges) a b ≡ are_joined edges b a
joined-turned [] a b = refl
joined-turned (e ∷ es) a b = (λ i. and-turned (is_end e.sink a) (is_end e.source b) i || joined-turned es a b i)

-- a walk, from its end
walk-turned : (some others : List Edge) → ((a b : ℕ) → are_joined some a b ≡ are_joined others b a) → (n a b : ℕ) → EdgeWalk some (suc n) a b → EdgeWalk others (suc n) b a
walk-turned some others same zero a b w = (a, (λ i. are_joined others (sym w.2 i) a) ∙ sym (same a w.0) ∙ w.1, refl)
walk-turned some others same (suc n) a b w = walk_end others (suc n) b w.0 a (walk-turned some others same n w.0 b w.2) (sym (same a w.0) ∙ w.1)

pub reaches-turned : (edges : List Edge) (a b : ℕ) → Reaches (map turned edges) a b → Reaches edges b a
reaches-turned edges a b r = (r.0, walk-turned (map turned edges) edges (joined-turned edges) r.0 a b r.1)

pub turned-reaches : (edges : List Edge) (a b : ℕ) → Reaches edges b a → Reaches (map turned edges) a b
turned-reaches edges a b r = (r.0, walk-turned edges (map turned edges) (λ x y. sym (joined-turned edges y x)) r.0 b a r.1)
