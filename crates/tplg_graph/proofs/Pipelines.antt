-- Each component and each buffer has a pipeline, which is complete.
use Rattle.std.proofs.Common.{◌≡◌, refl, sym, ap, ◌∙◌, ℕ, ◌+◌, List, [], ◌∷◌, length, count_by, Bool, true, false, cond, not, ◌&&◌, ◌||◌, ◌==◌, Option, Some, None, unwrap_or, slice_get, arith}
use Rattle.std.specs.Option.{option_map}
use Rattle.std.specs.List.{list_any, list_all, cons_option, AllByRecursion}
use Rattle.std.proofs.lemmas.Bool.{false≢true, and_parts, or_right, eq-eqb, eqb-true}
use Rattle.std.proofs.lemmas.List.Sums.{sum_by-cons}
use Rattle.stream_law.specs.declared.graph.Comp.{Comp}
use Rattle.stream_law.specs.declared.graph.Edge.{Edge}
use Rattle.stream_law.specs.declared.graph.Pipe.{Pipe}
use Rattle.stream_law.specs.declared.graph.Join.{Join}
use Rattle.stream_law.specs.Ways.{is_complete}
use Rattle.tplg_widgets.specs.declared.entry.Entry.{Entry}
use Rattle.tplg_widgets.specs.declared.route_end.End.{End}
use Rattle.tplg_widgets.specs.declared.route_end.End.TheVariants.{Buffer, Component, Other, Missing}
use Rattle.tplg_widgets.specs.Entries.{is_scheduler, interpreted}
use Rattle.tplg_widgets.specs.Ends.{end_named}
use Rattle.tplg_widgets.specs.GraphLists.{component_at, components_on, edge_at, edges_on}
use Rattle.tplg_graph.specs.PlanLists.{component_end, pipeline_of}
use Rattle.tplg_graph.specs.PlanOf.{graph_on}
use Rattle.tplg_walks.specs.Rules.{HoldsAll}
use Rattle.tplg_rules.specs.RuleTable.{is_of_index, schedules, is_scheduled, is_component_end, indices_rule, scheds_rule}
use Rattle.tplg_graph.proofs.ByIds.{of-component, of-edge, implied}
use Rattle.tplg_widgets.proofs.Indexed.{indexed, by-index}
use Rattle.tplg_graph.proofs.Interpreted.{of-interpreted}
use Rattle.tplg_graph.proofs.KeyedLists.{passes-at, all-made}
use Rattle.tplg_graph.proofs.WalkedJoins.{any-from}

-- where one passes, some do
some-passes : {X : Type 0} (p : X → Bool) (xs : List X) → count_by p xs ≡ 1 → list_any p xs ≡ true
some-passes p [] one = absurd (cc one)
some-passes {X} p (x ∷ xs) one = by_test (p x) refl (some-passes p xs)
  where
    by_test : (b : Bool) → p x ≡ b → (count_by p xs ≡ 1 → list_any p xs ≡ true) → (b || list_any p xs) ≡ true
    by_test true h rest = refl
    by_test false h rest =
        let s : count_by p (x ∷ xs) ≡ cond (p x) 1 0 + count_by p xs = sum_by-cons (λ y. cond (p y) 1 0) x xs in
        let head : ◌≡◌ {A = ℕ} (cond (p x) 1 0) 0 = ap (λ b. cond b 1 0) h in
        rest (omega (arith, s, head, one))

-- a scheduler whose stream name names a component is a pipeline
abbrev is_named : List Entry → Entry → Bool
is_named es e = not (is_scheduler e) || is_component_end (end_named es e.sname)

abbrev is_pipeline : ℕ → Pipe → Bool
is_pipeline index p = p.index == index && p.complete

abbrev made : ℕ → ℕ → ℕ → Option ℕ → Option Pipe
made id index period o = option_map (λ sched. record { id = id; index = index; sched = sched; period = period; complete = true }) o

and-true : (b : Bool) → b ≡ true → (b && true) ≡ true
and-true true is = refl
and-true false is = is

made-there : (es : List Entry) (index i : ℕ) (ps : List Entry) → list_all (is_named es) ps ≡ true → list_any (schedules index) ps ≡ true → list_any (is_pipeline index) (indexed (pipeline_of es) i ps) ≡ true
made-there es index i [] named some = absurd (false≢true some)
made-there es index i (p ∷ ps) named some =
    let parts = and_parts (is_named es p) (list_all (is_named es) ps) named in
    by_sort (is_scheduler p) refl (end_named es p.sname) refl (implied (is_scheduler p) (is_component_end (end_named es p.sname))) parts.0 some (made-there es index (i + 1) ps parts.1)
  where
    behind : List Pipe
    behind = indexed (pipeline_of es) (i + 1) ps

    by_index : (b : Bool) → (p.index == index) ≡ b → (b || list_any (schedules index) ps) ≡ true → (list_any (schedules index) ps ≡ true → list_any (is_pipeline index) behind ≡ true) → ((p.index == index && true) || list_any (is_pipeline index) behind) ≡ true
    by_index true f some rest = ap (λ b. (b && true) || list_any (is_pipeline index) behind) f
    by_index false f some rest = or_right (p.index == index && true) (list_any (is_pipeline index) behind) (rest some)

    by_end : (end : End) → is_component_end end ≡ true → ((p.index == index) || list_any (schedules index) ps) ≡ true → (list_any (schedules index) ps ≡ true → list_any (is_pipeline index) behind ≡ true) → list_any (is_pipeline index) (cons_option (made i p.index (unwrap_or p.tokens.period 0) (component_end end)) behind) ≡ true
    by_end (Component id) is some rest = by_index (p.index == index) refl some rest
    by_end (Buffer id) is some rest = absurd (false≢true is)
    by_end Other is some rest = absurd (false≢true is)
    by_end Missing is some rest = absurd (false≢true is)

    by_sort : (b : Bool) → is_scheduler p ≡ b → (end : End) → end_named es p.sname ≡ end → (is_scheduler p ≡ true → is_named es p ≡ true → is_component_end (end_named es p.sname) ≡ true) → is_named es p ≡ true → ((b && (p.index == index)) || list_any (schedules index) ps) ≡ true → (list_any (schedules index) ps ≡ true → list_any (is_pipeline index) behind ≡ true) → list_any (is_pipeline index) (cons_option (cond b (made i p.index (unwrap_or p.tokens.period 0) (component_end end)) None) behind) ≡ true
    by_sort true f end g names is some rest = by_end end (ap is_component_end (sym g) ∙ names f is) some rest
    by_sort false f end g names is some rest = rest some

module _ (es : List Entry) (js : List Join) (indices : HoldsAll (indices_rule es (interpreted es))) (scheds : HoldsAll (scheds_rule es)) where
  abbrev ps : List Entry
  ps = interpreted es

  -- that of a widget's index
  there : (k : ℕ) (e : Entry) → slice_get ps k ≡ Some e → is_complete (graph_on es ps js) e.index ≡ true
  there k e at =
      let all : list_all (λ x. is_scheduled ps x.index) ps ≡ true = of-interpreted es ps (λ x. is_scheduled ps x.index) refl indices in
      let named : list_all (is_named es) ps ≡ true = of-interpreted es ps (is_named es) refl scheds in
      let some : list_any (is_of_index e.index) ps ≡ true = any-from (is_of_index e.index) ps k e at (eq-eqb e.index e.index refl) in
      let one = implied (list_any (is_of_index e.index) ps) (count_by (schedules e.index) ps == 1) some (passes-at (λ x. is_scheduled ps x.index) ps all k e at) in
      ap (list_any (is_pipeline e.index)) (by-index (pipeline_of es) ps)
      ∙ made-there es e.index 0 ps named (some-passes (schedules e.index) ps (eqb-true (count_by (schedules e.index) ps) 1 one))

  pub comps-piped : AllByRecursion (λ (c : Comp). is_complete (graph_on es ps js) c.pipe ≡ true) (components_on ps js)
  comps-piped = all-made (λ (c : Comp). is_complete (graph_on es ps js) c.pipe ≡ true) (component_at ps js) 0 (length ps)
      (λ k c low is. let o = of-component ps js k c is in ap (is_complete (graph_on es ps js)) o.pipe ∙ there k o.entry o.there)

  pub edges-piped : AllByRecursion (λ (e : Edge). is_complete (graph_on es ps js) e.pipe ≡ true) (edges_on ps js)
  edges-piped = all-made (λ (e : Edge). is_complete (graph_on es ps js) e.pipe ≡ true) (edge_at ps js) 0 (length ps)
      (λ k e low is. let o = of-edge ps js k e is in ap (is_complete (graph_on es ps js)) o.pipe ∙ there k o.entry o.there)
