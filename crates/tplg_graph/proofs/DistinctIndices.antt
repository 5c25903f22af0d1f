-- No two pipelines have one index.
use Rattle.std.proofs.Common.{◌≡◌, refl, sym, ap, subst, ◌∙◌, ℕ, ◌+◌, ◌≤◌, List, [], ◌∷◌, map, count_by, Bool, true, false, cond, not, ◌&&◌, ◌||◌, ◌==◌, Option, Some, None, unwrap_or, arith}
use Rattle.std.specs.Option.{option_map}
use Rattle.std.specs.List.{list_any, list_all, cons_option, IsDistinct, AllByRecursion}
use Rattle.std.proofs.lemmas.Bool.{and_from, or_parts, eqb-true, eq-eqb, ne_eqb}
use Rattle.std.proofs.lemmas.List.Sums.{sum_by-cons}
use Rattle.stream_law.specs.declared.graph.Pipe.{Pipe}
use Rattle.stream_law.specs.Placed.{HasDistinct}
use Rattle.tplg_widgets.specs.declared.entry.Entry.{Entry}
use Rattle.tplg_widgets.specs.Entries.{is_scheduler, interpreted}
use Rattle.tplg_widgets.specs.Ends.{end_named}
use Rattle.tplg_graph.specs.PlanLists.{component_end, pipeline_of, pipes_on}
use Rattle.tplg_walks.specs.Rules.{HoldsAll}
use Rattle.tplg_rules.specs.RuleTable.{is_of_index, schedules, is_scheduled, indices_rule}
use Rattle.tplg_widgets.proofs.Indexed.{indexed, by-index}
use Rattle.tplg_graph.proofs.Interpreted.{of-interpreted}
use Rattle.tplg_graph.proofs.KeyedLists.{passes-at}
use Rattle.tplg_graph.proofs.WalkedJoins.{any-place}

-- where no widget has an index, none schedules it
none-schedule : (index : ℕ) (ps : List Entry) → list_any (is_of_index index) ps ≡ false → count_by (schedules index) ps ≡ 0
none-schedule index [] none = refl
none-schedule index (p ∷ ps) none =
    let parts = or_parts (is_of_index index p) (list_any (is_of_index index) ps) none in
    let rest : count_by (schedules index) ps ≡ 0 = none-schedule index ps parts.1 in
    let head : ◌≡◌ {A = ℕ} (cond (schedules index p) 1 0) 0 = ap (λ b. cond (is_scheduler p && b) 1 0) parts.0 ∙ apart (is_scheduler p) in
    omega (arith, rest, head, sum_by-cons (λ e. cond (schedules index e) 1 0) p ps)
  where
    apart : (b : Bool) → ◌≡◌ {A = ℕ} (cond (b && false) 1 0) 0
    apart true = refl
    apart false = refl

-- one widget at most schedules an index
pub one-schedules : (es : List Entry) → HoldsAll (indices_rule es (interpreted es)) → (index : ℕ) → count_by (schedules index) (interpreted es) ≤ 1
one-schedules es rule index = by_any (list_any (is_of_index index) (interpreted es)) refl
  where
    all : list_all (λ e. is_scheduled (interpreted es) e.index) (interpreted es) ≡ true
    all = of-interpreted es (interpreted es) (λ e. is_scheduled (interpreted es) e.index) refl rule

    by_any : (b : Bool) → list_any (is_of_index index) (interpreted es) ≡ b → count_by (schedules index) (interpreted es) ≤ 1
    by_any false f = let n = none-schedule index (interpreted es) f in omega (arith, n)
    by_any true f =
        let at = any-place (is_of_index index) (interpreted es) f in
        let same = eqb-true at.item.index index at.passes in
        let here : is_scheduled (interpreted es) index ≡ true = ap (is_scheduled (interpreted es)) (sym same) ∙ passes-at (λ e. is_scheduled (interpreted es) e.index) (interpreted es) all at.place at.item at.there in
        let one = eqb-true (count_by (schedules index) (interpreted es)) 1 (ap (λ b. not b || (count_by (schedules index) (interpreted es) == 1)) (sym f) ∙ here) in
        omega (arith, one)

-- ---- what is not scheduled has no pipeline

abbrev made : ℕ → ℕ → ℕ → Option ℕ → Option Pipe
made id index period o = option_map (λ sched. record { id = id; index = index; sched = sched; period = period; complete = true }) o

none-made : (es : List Entry) (index i : ℕ) (ps : List Entry) → count_by (schedules index) ps ≡ 0 → AllByRecursion (λ n. (index == n) ≡ false) (map (λ p. p.index) (indexed (pipeline_of es) i ps))
none-made es index i [] none = tt
none-made es index i (p ∷ ps) none =
    let s : count_by (schedules index) (p ∷ ps) ≡ cond (schedules index p) 1 0 + count_by (schedules index) ps = sum_by-cons (λ e. cond (schedules index e) 1 0) p ps in
    let head : ◌≡◌ {A = ℕ} (cond (schedules index p) 1 0) 0 = omega (arith, s, none) in
    by_sort (is_scheduler p) head (component_end (end_named es p.sname)) (none-made es index (i + 1) ps (omega (arith, s, none)))
  where
    one-zero : ◌≡◌ {A = ℕ} 1 0 → ⊥
    one-zero e = omega (arith, e)

    differs : ◌≡◌ {A = ℕ} (cond (p.index == index) 1 0) 0 → (index == p.index) ≡ false
    differs z = ne_eqb index p.index (λ same. one-zero (sym (ap (λ b. cond b 1 0) (eq-eqb p.index index (sym same))) ∙ z))

    by_sched : ◌≡◌ {A = ℕ} (cond (p.index == index) 1 0) 0 → (o : Option ℕ) → AllByRecursion (λ n. (index == n) ≡ false) (map (λ q. q.index) (indexed (pipeline_of es) (i + 1) ps)) → AllByRecursion (λ n. (index == n) ≡ false) (map (λ q. q.index) (cons_option (made i p.index (unwrap_or p.tokens.period 0) o) (indexed (pipeline_of es) (i + 1) ps)))
    by_sched z None rest = rest
    by_sched z (Some sched) rest = (differs z, rest)

    by_sort : (b : Bool) → ◌≡◌ {A = ℕ} (cond (b && (p.index == index)) 1 0) 0 → (o : Option ℕ) → AllByRecursion (λ n. (index == n) ≡ false) (map (λ q. q.index) (indexed (pipeline_of es) (i + 1) ps)) → AllByRecursion (λ n. (index == n) ≡ false) (map (λ q. q.index) (cons_option (cond b (made i p.index (unwrap_or p.tokens.period 0) o) None) (indexed (pipeline_of es) (i + 1) ps)))
    by_sort true z o rest = by_sched z o rest
    by_sort false z o rest = rest

distinct : (es : List Entry) (i : ℕ) (ps : List Entry) → ((index : ℕ) → count_by (schedules index) ps ≤ 1) → HasDistinct (λ p. p.index) (indexed (pipeline_of es) i ps)
unfolding IsDistinct
distinct es i [] one = tt
distinct es i (p ∷ ps) one = by_sort (is_scheduler p) refl (component_end (end_named es p.sname)) (distinct es (i + 1) ps (λ index. let s = sum_by-cons (λ e. cond (schedules index e) 1 0) p ps in let o = one index in omega (arith, s, o)))
  where
    none : is_scheduler p ≡ true → count_by (schedules p.index) ps ≡ 0
    none f =
        let s : count_by (schedules p.index) (p ∷ ps) ≡ cond (schedules p.index p) 1 0 + count_by (schedules p.index) ps = sum_by-cons (λ e. cond (schedules p.index e) 1 0) p ps in
        let head : ◌≡◌ {A = ℕ} (cond (schedules p.index p) 1 0) 1 = ap (λ b. cond b 1 0) (and_from (is_scheduler p) (p.index == p.index) f (eq-eqb p.index p.index refl)) in
        let o = one p.index in
        omega (arith, s, head, o)

    by_sort : (b : Bool) → is_scheduler p ≡ b → (o : Option ℕ) → HasDistinct (λ q. q.index) (indexed (pipeline_of es) (i + 1) ps) → HasDistinct (λ q. q.index) (cons_option (cond b (made i p.index (unwrap_or p.tokens.period 0) o) None) (indexed (pipeline_of es) (i + 1) ps))
    by_sort true f None rest = rest
    by_sort true f (Some sched) rest = (none-made es p.index (i + 1) ps (none f), rest)
    by_sort false f o rest = rest

pub distinct-indices : (es : List Entry) → HoldsAll (indices_rule es (interpreted es)) → HasDistinct (λ p. p.index) (pipes_on es (interpreted es))
distinct-indices es rule = subst (HasDistinct (λ p. p.index)) (sym (by-index (pipeline_of es) (interpreted es))) (distinct es 0 (interpreted es) (one-schedules es rule))
