-- What a sound plan's widgets need of a heap adds up to what its graph needs.
use Rattle.std.proofs.Common.{◌≡◌, refl, sym, ap, ◌∙◌, subst, ⊎_elim, ℕ, zero, suc, ◌+◌, ◌*◌, ◌<◌, ◌≤◌, List, [], ◌∷◌, ◌==◌, map, sum, length, Some, None, arith}
use Rattle.std.proofs.lemmas.List.{map-append}
use Rattle.std.proofs.lemmas.List.Sums.{sum_by_push}
use Rattle.std.specs.List.{find}
use Rattle.sof_base.specs.Holes.{rounded}
use Rattle.stream_law.specs.declared.graph.Kind.{Kind}
use Rattle.stream_law.specs.declared.graph.Kind.TheVariants.{HostPlay}
use Rattle.stream_law.specs.declared.graph.Comp.{Comp}
use Rattle.stream_law.specs.declared.graph.Edge.{Edge}
use Rattle.stream_law.specs.declared.graph.Pipe.{Pipe}
use Rattle.stream_law.specs.Placed.{Ascends}
use Rattle.mbox_link.specs.Step.{comp_bytes}
use Rattle.tplg_plan.specs.declared.plans.Plan.{Plan}
use Rattle.tplg_plan.specs.HeapNeed.{components_need, edges_need, need_on}
use Rattle.tplg_plan.specs.Sound.{IsSound, NamesComponent, NamesBuffer, NamesPipeline}
use Rattle.host_widgets.specs.Acts.{widget_words}
use Rattle.host_widgets.specs.Expected.{needed_by}
use Rattle.host_widgets.specs.NeedLaws.{NeedIsSum, FitsByNeed}
use Rattle.host_widgets.proofs.BelowIds.{below, below-none, below-all, below-same, below-more, length-more}
use Rattle.host_widgets.proofs.MakeStates.{comps_below, edges_below, pipes_below, bytes-comp, bytes-buffer, bytes-pipe, names-of}
use Rattle.host_widgets.proofs.Makes.{needed-more}

-- ---- sizes

-- a component's stated size is a multiple of 16
comp-whole : (kind : Kind) → rounded (comp_bytes kind) ≡ comp_bytes kind
comp-whole HostPlay = refl
comp-whole kind = refl

-- in a list that ascends, one more is below the next number where a key is this one: it adds its size
sum-more : {X : Type 0} (size : X → ℕ) (key : X → ℕ) (n : ℕ) (xs : List X) (x : X) → Ascends key xs → find (λ y. key y == n) xs ≡ Some x → sum (map size (below key (n + 1) xs)) ≡ sum (map size (below key n xs)) + size x
sum-more size key n xs x up is =
    ap (λ ys. sum (map size ys)) (below-more key n xs x up is) ∙ ap sum (map-append size (below key n xs) (x ∷ [])) ∙ sum_by_push (λ m. m) (map size (below key n xs)) (size x)

-- ---- the widgets below an id

add-comp : (need comps edges pipes size more comps2 edges2 pipes2 : ℕ) → need ≡ comps + edges + 64 * pipes → more ≡ need + size → comps2 ≡ comps + size → edges2 ≡ edges → pipes2 ≡ pipes → more ≡ comps2 + edges2 + 64 * pipes2
add-comp need comps edges pipes size more comps2 edges2 pipes2 a b c d e = omega arith

add-edge : (need comps edges pipes size more comps2 edges2 pipes2 : ℕ) → need ≡ comps + edges + 64 * pipes → more ≡ need + size → comps2 ≡ comps → edges2 ≡ edges + size → pipes2 ≡ pipes → more ≡ comps2 + edges2 + 64 * pipes2
add-edge need comps edges pipes size more comps2 edges2 pipes2 a b c d e = omega arith

add-pipe : (need comps edges pipes more comps2 edges2 pipes2 : ℕ) → need ≡ comps + edges + 64 * pipes → more ≡ need + 64 → comps2 ≡ comps → edges2 ≡ edges → pipes2 ≡ pipes + 1 → more ≡ comps2 + edges2 + 64 * pipes2
add-pipe need comps edges pipes more comps2 edges2 pipes2 a b c d e = omega arith

module _ (plan : Plan) (s : IsSound plan) where
  -- what the components, buffers and pipelines of the ids below n need
  abbrev need_below : ℕ → ℕ
  need_below n = components_need (comps_below plan n) + edges_need (edges_below plan n) + 64 * length (pipes_below plan n)

  abbrev IsNeed : ℕ → Type 0
  IsNeed n = needed_by plan n ≡ need_below n

  same-comps : (n : ℕ) → find (λ (c : Comp). c.id == n) plan.graph.comps ≡ None → components_need (comps_below plan (n + 1)) ≡ components_need (comps_below plan n)
  same-comps n gone = ap components_need (below-same (λ (c : Comp). c.id) n plan.graph.comps gone)

  same-edges : (n : ℕ) → find (λ (e : Edge). e.buffer == n) plan.graph.edges ≡ None → edges_need (edges_below plan (n + 1)) ≡ edges_need (edges_below plan n)
  same-edges n gone = ap edges_need (below-same (λ (e : Edge). e.buffer) n plan.graph.edges gone)

  same-pipes : (n : ℕ) → find (λ (p : Pipe). p.id == n) plan.graph.pipes ≡ None → length (pipes_below plan (n + 1)) ≡ length (pipes_below plan n)
  same-pipes n gone = ap (λ (ps : List Pipe). length ps) (below-same (λ (p : Pipe). p.id) n plan.graph.pipes gone)

  -- the next one is a component, a buffer or a pipeline
  next-comp : (n : ℕ) → IsNeed n → NamesComponent plan.graph n (widget_words plan n) → IsNeed (n + 1)
  next-comp n is x =
      add-comp (needed_by plan n) (components_need (comps_below plan n)) (edges_need (edges_below plan n)) (length (pipes_below plan n)) (comp_bytes x.comp.kind) _ _ _ _ is
      (needed-more plan n ∙ ap (λ b. needed_by plan n + b) (ap rounded (bytes-comp plan 0 s n x) ∙ comp-whole x.comp.kind))
      (sum-more (λ (c : Comp). comp_bytes c.kind) (λ (c : Comp). c.id) n plan.graph.comps x.comp s.comps_ascend x.there)
      (same-edges n x.no_edge)
      (same-pipes n x.no_pipe)

  next-edge : (n : ℕ) → IsNeed n → NamesBuffer plan.graph n (widget_words plan n) → IsNeed (n + 1)
  next-edge n is x =
      add-edge (needed_by plan n) (components_need (comps_below plan n)) (edges_need (edges_below plan n)) (length (pipes_below plan n)) (rounded (32 + x.edge.size)) _ _ _ _ is
      (needed-more plan n ∙ ap (λ b. needed_by plan n + rounded b) (bytes-buffer plan 0 s n x))
      (same-comps n x.no_comp)
      (sum-more (λ (e : Edge). rounded (32 + e.size)) (λ (e : Edge). e.buffer) n plan.graph.edges x.edge s.edges_ascend x.there)
      (same-pipes n x.no_pipe)

  next-pipe : (n : ℕ) → IsNeed n → NamesPipeline plan.graph n (widget_words plan n) → IsNeed (n + 1)
  next-pipe n is x =
      add-pipe (needed_by plan n) (components_need (comps_below plan n)) (edges_need (edges_below plan n)) (length (pipes_below plan n)) _ _ _ _ is
      (needed-more plan n ∙ ap (λ b. needed_by plan n + rounded b) (bytes-pipe plan 0 s n x))
      (same-comps n x.no_comp)
      (same-edges n x.no_edge)
      (length-more (λ (p : Pipe). p.id) n plan.graph.pipes x.pipe s.pipes_ascend x.there)

  need-next : (n : ℕ) → n < length plan.widgets → IsNeed n → IsNeed (n + 1)
  need-next n within is = ⊎_elim (next-comp n is) (λ rest. ⊎_elim (next-edge n is) (next-pipe n is) rest) (names-of plan 0 s n within)

  need-from : (n : ℕ) → n ≤ length plan.widgets → IsNeed n
  need-from zero within =
      let comps = below-none (λ (c : Comp). c.id) plan.graph.comps in
      let edges = below-none (λ (e : Edge). e.buffer) plan.graph.edges in
      let pipes = below-none (λ (p : Pipe). p.id) plan.graph.pipes in
      sym (λ i. components_need (comps i) + edges_need (edges i) + 64 * length (pipes i))
  need-from (suc n) within = let e : n + 1 ≡ suc n = omega arith in subst IsNeed e (need-next n (omega arith) (need-from n (omega arith)))

  -- all ids are below the number of widgets
  all-below : need_below (length plan.widgets) ≡ need_on plan.graph
  all-below =
      let comps = below-all (λ (c : Comp). c.id) (length plan.widgets) plan.graph.comps s.comps_below in
      let edges = below-all (λ (e : Edge). e.buffer) (length plan.widgets) plan.graph.edges s.edges_below in
      let pipes = below-all (λ (p : Pipe). p.id) (length plan.widgets) plan.graph.pipes s.pipes_below in
      λ i. components_need (comps i) + edges_need (edges i) + 64 * length (pipes i)

  sum-all : needed_by plan (length plan.widgets) ≡ need_on plan.graph
  sum-all = need-from (length plan.widgets) (omega arith) ∙ all-below

-- ---- the laws

pub need-sum : NeedIsSum
need-sum plan s = sum-all plan s

pub need-fits : FitsByNeed
need-fits plan heap s = let e = need-sum plan s in ((λ fits. subst (λ (n : ℕ). n ≤ heap) e fits), (λ room. subst (λ (n : ℕ). n ≤ heap) (sym e) room))
