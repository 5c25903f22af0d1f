-- The widgets and the joins of pipelines that are made, as lists.
use Rattle.std.proofs.Common.{◌≡◌, sym, ap, subst, ◌∙◌, ℕ, ◌+◌, ◌*◌, ◌<◌, ◌≤◌, List, [], ◌∷◌, ◌++◌, take, length, get_or, ◌==◌, inl, inr, ◌⊎◌, Option, None, Some, append-nil, arith}
use Rattle.std.specs.Prelude.{unwrap_or}
use Rattle.std.specs.List.{flat_map, AllByRecursion}
use Rattle.std.proofs.lemmas.Bool.{eq-eqb}
use Rattle.std.proofs.lemmas.List.{length-append, length-take-le, take_more}
use Rattle.std.proofs.lemmas.List.Folds.{length-flat_map-take}
use Rattle.std.proofs.lemmas.Grind.{flat_map-append}
use Rattle.stream_law.specs.declared.graph.Edge.{Edge}
use Rattle.stream_law.specs.declared.graph.Graph.{Graph}
use Rattle.stream_law.specs.declared.graph.Join.{Join}
use Rattle.stream_law.specs.Ways.{edge_of}
use Rattle.stream_law.proofs.Members.{IsIn, in-each, in-kept, kept-in}
use Rattle.tplg_plan.specs.declared.plans.Plan.{Plan}
use Rattle.tplg_plan.specs.Sound.{IsSound}
use Rattle.host_widgets.specs.Acts.{widget_ids}
use Rattle.host_widgets.specs.Up.{is_join_at, buffer_joins}
use Rattle.host_widgets.specs.UpActs.{widgets_at, widgets_of}
use Rattle.host_widgets.proofs.NamedIds.{buffer-found}
use Rattle.host_widgets.proofs.Needs.{flat-in, in-flat}
use Rattle.host_widgets.proofs.StageBetween.{edge-index}
use Rattle.host_widgets.proofs.Sublists.{few-once, low-range, once-filter, range-low}
use Rattle.host_widgets.proofs.UpContext.{join-at, join-ends, whole-once}
use Rattle.host_widgets.proofs.UpStages.{index_of_id}

-- those of one index more
pub flat-more : {X : Type 0} (f : ℕ → List X) (xs : List ℕ) (k : ℕ) → k < length xs → flat_map f (take (k + 1) xs) ≡ flat_map f (take k xs) ++ f (get_or xs k 0)
flat-more f xs k low = ap (flat_map f) (take_more xs k 0 low) ∙ flat_map-append f (take k xs) (get_or xs k 0 ∷ []) ∙ ap (λ ys. flat_map f (take k xs) ++ ys) (append-nil (f (get_or xs k 0)))

-- so many are listed before the last
pub few-listed : {X : Type 0} (f : ℕ → List X) (xs : List ℕ) (k listed : ℕ) (list : List X) → k < length xs → listed ≤ length list → take listed list ≡ flat_map f (take k xs) → length (flat_map f xs) ≤ 576 → listed ≤ 576
few-listed f xs k listed list low fits so_far few = omega (arith, ap length so_far, length-take-le listed list fits, length-flat_map-take f xs k 0 low, few)

-- the widgets of indices are of the plan
pub widgets-low : (plan : Plan) (n : List ℕ) → AllByRecursion (λ (id : ℕ). id < length plan.widgets) (widgets_of plan n)
widgets-low plan n = in-each (λ (id : ℕ). id < length plan.widgets) (widgets_of plan n) (λ id there.
    let r = flat-in (widgets_at plan) n id there in
    let low : id < 0 + length plan.widgets = range-low 0 (length plan.widgets) id (kept-in (λ (x : ℕ). index_of_id plan x == r.0) (widget_ids plan) id r.2).0 in
    omega (arith, low))

-- ---- how many joins

-- the joins that a buffer may be at
sides : Option Edge → List Join
sides None = []
sides (Some e) = record { source = unwrap_or e.source 0; sink = e.buffer } ∷ record { source = e.buffer; sink = unwrap_or e.sink 0 } ∷ []

two-sides : (g : Graph) (ids : List ℕ) → length (flat_map (λ id. sides (edge_of g id)) ids) ≤ 2 * length ids
unfolding sides
two-sides g [] = omega arith
two-sides g (id ∷ ids) = omega (arith, one (edge_of g id), two-sides g ids, length-append (sides (edge_of g id)) (flat_map (λ x. sides (edge_of g x)) ids))
  where
    one : (o : Option Edge) → length (sides o) ≤ 2
    one None = omega arith
    one (Some e) = omega arith

at-side : (e : Edge) (j : Join) → ((j.sink ≡ e.buffer) × (e.source ≡ Some j.source)) ⊎ ((j.source ≡ e.buffer) × (e.sink ≡ Some j.sink)) → IsIn j (sides (Some e))
unfolding sides
at-side e j (inl (to, from)) = inl (λ i. record { source = unwrap_or (sym from i) 0; sink = to i })
at-side e j (inr (from, to)) = inr (inl (λ i. record { source = from i; sink = unwrap_or (sym to i) 0 }))

module _ (plan : Plan) (sound : IsSound plan) where
  few-at : (i : ℕ) → length (buffer_joins plan.graph i) ≤ 2 * length (widgets_at plan i)
  few-at i =
      let few = few-once (buffer_joins plan.graph i) (flat_map (λ id. sides (edge_of plan.graph id)) (widgets_at plan i)) (once-filter (is_join_at plan.graph i) plan.graph.joins (whole-once plan sound)) here in
      omega (arith, few, two-sides plan.graph (widgets_at plan i))
    where
      here : (j : Join) → IsIn j (buffer_joins plan.graph i) → IsIn j (flat_map (λ id. sides (edge_of plan.graph id)) (widgets_at plan i))
      here j there =
          let k = kept-in (is_join_at plan.graph i) plan.graph.joins j there in
          let r = join-ends plan sound j k.0 in
          let b = r.edge.buffer in
          let same : Some r.edge.pipe ≡ Some i = sym r.at ∙ join-at plan sound i j k.1 in
          let of : index_of_id plan b ≡ i = edge-index plan sound b r.edge r.found ∙ cc same in
          let low : b < length plan.widgets = (buffer-found plan sound b r.edge r.found).low in
          let listed = in-kept (λ (x : ℕ). index_of_id plan x == i) (widget_ids plan) b (low-range 0 (length plan.widgets) b (omega arith) (omega (arith, low))) (eq-eqb (index_of_id plan b) i of) in
          in-flat (λ id. sides (edge_of plan.graph id)) (widgets_at plan i) b j listed (subst (λ (o : Option Edge). IsIn j (sides o)) (sym r.found) (at-side r.edge j r.ends))

  -- two for each widget, at most
  pub few-joins-of : (n : List ℕ) → length (flat_map (buffer_joins plan.graph) n) ≤ 2 * length (widgets_of plan n)
  few-joins-of [] = omega arith
  few-joins-of (i ∷ n) = omega (
    arith,
    few-at i,
    few-joins-of n,
    length-append (buffer_joins plan.graph i) (flat_map (buffer_joins plan.graph) n),
    length-append (widgets_at plan i) (widgets_of plan n),
  )
