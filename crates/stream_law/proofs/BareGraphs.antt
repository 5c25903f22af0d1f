-- The order of a graph is made of its components and edges alone.
use Rattle.std.proofs.Common.{◌≡◌, ℕ, zero, suc, List, [], ◌∷◌, map, length, slice_index, Result, Ok, Err, refl, sym, subst, ◌∙◌}
use Rattle.std.specs.Prelude.{filter, IfOk, OnOk, OnErr}
use Rattle.std.specs.Option.{option_map_or}
use Rattle.stream_law.specs.declared.graph.Comp.{Comp}
use Rattle.stream_law.specs.declared.graph.Edge.{Edge}
use Rattle.stream_law.specs.declared.graph.Graph.{Graph}
use Rattle.stream_law.specs.Ways.{components}
use Rattle.stream_law.specs.Order.{is_ready, least_of, without, placed_from, order}
use Rattle.stream_law.specs.BareOrder.{bare}
use Rattle.stream_law.specs.Walks.{Walk, HasAll, HasCycle, HasEnds}

module _ (g : Graph) where
  abbrev pub core : Graph
  core = bare g.comps g.edges

  placed-bare : (n : ℕ) (placed left : List ℕ) → placed_from core n placed left ≡ placed_from g n placed left
  placed-bare zero placed left = refl
  placed-bare (suc n) placed left = λ i. option_map_or (λ c. c ∷ placed-bare n (c ∷ placed) (without c left) i) (least_of (filter (is_ready g placed) left)) []

  pub order-bare : order core ≡ order g
  unfolding order
  order-bare = placed-bare (length (components g)) [] (components g)

  pub ends-bare : HasEnds g → HasEnds core
  ends-bare ends = record { sources = ends.sources; sinks = ends.sinks }

  walk-on : (n a b : ℕ) → Walk core n a b → Walk g n a b
  walk-on zero a b walk = walk
  walk-on (suc n) a b walk = (walk.0, record { buffer = walk.1.buffer; source = walk.1.source; sink = walk.1.sink }, walk-on n walk.0 b walk.2)

  walk-back : (n a b : ℕ) → Walk g n a b → Walk core n a b
  walk-back zero a b walk = walk
  walk-back (suc n) a b walk = (walk.0, record { buffer = walk.1.buffer; source = walk.1.source; sink = walk.1.sink }, walk-back n walk.0 b walk.2)

  pub cycle-on : HasCycle core → HasCycle g
  cycle-on cycle = (cycle.0, cycle.1, walk-on (suc cycle.1) cycle.0 cycle.0 cycle.2)

  pub cycle-back : HasCycle g → HasCycle core
  cycle-back cycle = (cycle.0, cycle.1, walk-back (suc cycle.1) cycle.0 cycle.0 cycle.2)

-- ---- what is said of the order of components and edges is said of a graph that has them

module _ (g : Graph) (comps : List Comp) (edges : List Edge) (same : comps ≡ g.comps) (alike : edges ≡ g.edges) where
  its : bare comps edges ≡ core g
  its = λ i. bare (same i) (alike i)

  pub ends-told : HasEnds g → HasEnds (bare comps edges)
  ends-told ends = subst HasEnds (sym its) (ends-bare g ends)

  pub order-told : {E : Type 0} (r : Result (List ℕ) E) → IfOk r (λ places. map (slice_index (components (bare comps edges))) places ≡ order (bare comps edges)) → IfOk r (λ places. map (slice_index (components g)) places ≡ order g)
  order-told (Ok places) told = subst (λ h. map (slice_index (components h)) places ≡ order h) its told ∙ order-bare g
  order-told (Err e) told = tt

  pub whole-told : {E : Type 0} (r : Result (List ℕ) E) → OnOk r (HasAll (bare comps edges) (order (bare comps edges))) → OnOk r (HasAll g (order g))
  whole-told (Ok places) told = subst (HasAll g) (order-bare g) (subst (λ h. HasAll h (order h)) its told)
  whole-told (Err e) told = tt

  pub none-told : {E : Type 0} (r : Result (List ℕ) E) → OnOk r (HasCycle (bare comps edges) → ⊥) → OnOk r (HasCycle g → ⊥)
  none-told (Ok places) told = λ cycle. told (subst HasCycle (sym its) (cycle-back g cycle))
  none-told (Err e) told = tt

  pub cycle-told : {E : Type 0} (r : Result (List ℕ) E) → OnErr r (HasCycle (bare comps edges)) → OnErr r (HasCycle g)
  cycle-told (Ok places) told = tt
  cycle-told (Err e) told = cycle-on g (subst HasCycle its told)
