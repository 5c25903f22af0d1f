-- The sides of buffers, by the joins that were made.
use Rattle.std.proofs.Common.{◌≡◌, ◌⊎◌, inl, inr, refl, sym, ap, ◌∙◌, ℕ, List, [], ◌∷◌, map, ◌==◌, Option, Some}
use Rattle.std.specs.Option.{option_map}
use Rattle.std.specs.List.{find, AllByRecursion}
use Rattle.std.proofs.lemmas.Bool.{eqb-true}
use Rattle.stream_law.specs.declared.graph.Comp.{Comp}
use Rattle.stream_law.specs.declared.graph.Edge.{Edge}
use Rattle.stream_law.specs.declared.graph.Join.{Join}
use Rattle.stream_law.specs.Ways.{comp_of, edge_of}
use Rattle.tplg_plan.specs.declared.plans.Plan.{Plan}
use Rattle.tplg_plan.specs.Sound.{IsSideOf, IsPassed, IsSound}
use Rattle.host_widgets.proofs.LookedUp.{all-found, found-passes, some-counted}
use Rattle.host_widgets.proofs.NamedIds.{buffer-found, each-edge}

-- the component that a buffer is joined from, by the joins so far; and the one that it is joined to
abbrev pub source_by : List Join → ℕ → Option ℕ
source_by js b = option_map (λ j. j.source) (find (λ j. j.sink == b) js)

abbrev pub sink_by : List Join → ℕ → Option ℕ
sink_by js b = option_map (λ j. j.sink) (find (λ j. j.source == b) js)

-- a buffer with those of its sides set that these joins are at
abbrev pub edge_with : List Join → Edge → Edge
edge_with js e = record { buffer = e.buffer; pipe = e.pipe; size = e.size; source = source_by js e.buffer; sink = sink_by js e.buffer }

-- ---- whose the sides are

module _ (plan : Plan) (sound : IsSound plan) where
  -- a component is no buffer
  pub never-both : {A : Type 0} (id : ℕ) (c : Comp) (e : Edge) → comp_of plan.graph id ≡ Some c → edge_of plan.graph id ≡ Some e → A
  never-both id c e comp edge = absurd (cc (sym (buffer-found plan sound id e edge).no_comp ∙ comp))

  -- a join that leads to a buffer comes from its source
  pub side-source : (js : List Join) → AllByRecursion (IsSideOf plan.graph) js → (b : ℕ) (e : Edge) (j : Join) → edge_of plan.graph b ≡ Some e → find (λ (k : Join). k.sink == b) js ≡ Some j → e.source ≡ Some j.source
  side-source js sides b e j edge found = by (all-found (IsSideOf plan.graph) (λ (k : Join). k.sink == b) js j sides found).between
    where
      same : j.sink ≡ b
      same = eqb-true j.sink b (found-passes (λ (k : Join). k.sink == b) js j found)

      by : ((c : Comp) × (e : Edge) × (comp_of plan.graph j.source ≡ Some c) × (edge_of plan.graph j.sink ≡ Some e) × (e.source ≡ Some j.source)) ⊎ ((e : Edge) × (c : Comp) × (edge_of plan.graph j.source ≡ Some e) × (comp_of plan.graph j.sink ≡ Some c) × (e.sink ≡ Some j.sink)) → e.source ≡ Some j.source
      by (inl (c, f, comp, there, is)) =
          let one : f ≡ e = cc (sym there ∙ ap (edge_of plan.graph) same ∙ edge) in ap (λ (x : Edge). x.source) (sym one) ∙ is
      by (inr (f, c, there, comp, is)) = never-both b c e (ap (comp_of plan.graph) (sym same) ∙ comp) edge

  pub side-sink : (js : List Join) → AllByRecursion (IsSideOf plan.graph) js → (b : ℕ) (e : Edge) (j : Join) → edge_of plan.graph b ≡ Some e → find (λ (k : Join). k.source == b) js ≡ Some j → e.sink ≡ Some j.sink
  side-sink js sides b e j edge found = by (all-found (IsSideOf plan.graph) (λ (k : Join). k.source == b) js j sides found).between
    where
      same : j.source ≡ b
      same = eqb-true j.source b (found-passes (λ (k : Join). k.source == b) js j found)

      by : ((c : Comp) × (e : Edge) × (comp_of plan.graph j.source ≡ Some c) × (edge_of plan.graph j.sink ≡ Some e) × (e.source ≡ Some j.source)) ⊎ ((e : Edge) × (c : Comp) × (edge_of plan.graph j.source ≡ Some e) × (comp_of plan.graph j.sink ≡ Some c) × (e.sink ≡ Some j.sink)) → e.sink ≡ Some j.sink
      by (inl (c, f, comp, there, is)) = never-both b c e (ap (comp_of plan.graph) (sym same) ∙ comp) edge
      by (inr (f, c, there, comp, is)) =
          let one : f ≡ e = cc (sym there ∙ ap (edge_of plan.graph) same ∙ edge) in ap (λ (x : Edge). x.sink) (sym one) ∙ is

  -- ---- all joins are made

  edge-whole : (e : Edge) → edge_of plan.graph e.buffer ≡ Some e → IsPassed plan.graph e → edge_with plan.graph.joins e ≡ e
  edge-whole e there passed =
      let s = some-counted (λ (k : Join). k.sink == e.buffer) plan.graph.joins passed.ins in
      let t = some-counted (λ (k : Join). k.source == e.buffer) plan.graph.joins passed.outs in
      let source : source_by plan.graph.joins e.buffer ≡ e.source = ap (option_map (λ (k : Join). k.source)) s.1 ∙ sym (side-source plan.graph.joins sound.joins e.buffer e s.0 there s.1) in
      let sink : sink_by plan.graph.joins e.buffer ≡ e.sink = ap (option_map (λ (k : Join). k.sink)) t.1 ∙ sym (side-sink plan.graph.joins sound.joins e.buffer e t.0 there t.1) in
      λ i. record { buffer = e.buffer; pipe = e.pipe; size = e.size; source = source i; sink = sink i }

  pub all-joined : map (edge_with plan.graph.joins) plan.graph.edges ≡ plan.graph.edges
  all-joined = whole plan.graph.edges (each-edge plan sound) sound.passed
    where
      whole : (es : List Edge) → AllByRecursion (λ (e : Edge). edge_of plan.graph e.buffer ≡ Some e) es → AllByRecursion (IsPassed plan.graph) es → map (edge_with plan.graph.joins) es ≡ es
      whole [] there passed = refl
      whole (e ∷ es) there passed = ap (λ (x : Edge). x ∷ map (edge_with plan.graph.joins) es) (edge-whole e there.0 passed.0) ∙ ap (λ (xs : List Edge). e ∷ xs) (whole es there.1 passed.1)
