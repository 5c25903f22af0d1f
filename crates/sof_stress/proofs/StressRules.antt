-- The topology of a stress keeps all rules, and its equaliser begins without a blob, over each number of streams.
use Rattle.std.proofs.Common.{◌≡◌, ◌⊎◌, inl, inr, ℕ, zero, suc, ◌<◌, ◌≤◌, Bool, true, false, not, ◌&&◌, ◌||◌, eqb, List, [], ◌∷◌, map, Option, Some, None, refl, sym, subst, arith}
use Rattle.std.specs.Prelude.{nat_lt}
use Rattle.std.specs.List.{list_all}
use Rattle.std.proofs.lemmas.Bool.{and_parts, cases_Bool}
use Rattle.std.proofs.lemmas.Bool.Decides.{nat_tests}
use Rattle.sof_base.specs.Slots.{until_zero}
use Rattle.stream_law.specs.declared.graph.Comp.{Comp}
use Rattle.stream_law.specs.declared.graph.Edge.{Edge}
use Rattle.stream_law.specs.Ways.{is_end, is_capture}
use Rattle.tplg_model.specs.TokenValues.{number_of, text_of}
use Rattle.tplg_model.specs.declared.block.Topology.{Topology}
use Rattle.tplg_build.specs.WidgetForm.{placed, by_token}
use Rattle.tplg_widgets.specs.Entries.{entries_of, interpreted}
use Rattle.tplg_widgets.specs.WiringValue.{WiringValue, wiring_of}
use Rattle.tplg_widgets.specs.GraphLists.{components_on, edges_on}
use Rattle.tplg_walks.specs.Rules.{item_test, HoldsAll}
use Rattle.tplg_walks.specs.Cycles.{are_joined, captures_at, EdgeWalk, Reaches}
use Rattle.tplg_rules.specs.declared.rule_name.RuleName.TheVariants as rule
use Rattle.tplg_rules.specs.RuleTest.{Test, first_failing, ruled, ruling, rule_names, test_by}
use Rattle.tplg_rules.specs.WellFormed.{IsWellFormed}
use Rattle.tplg_rules.proofs.RuleLaws.{first-found}
use Rattle.sof_stress.specs.StressGraph.{stress_topology}

-- ---- rule 14: each edge leads to a greater id, and no host captures

abbrev up_by : Option ℕ → Option ℕ → Bool
up_by (Some a) (Some b) = nat_lt a b
up_by (Some a) None = false
up_by None sink = false

abbrev go_up : List Edge → Bool
go_up edges = list_all (λ (e : Edge). up_by e.source e.sink) edges

end-up : (s t : Option ℕ) (a b : ℕ) → up_by s t ≡ true → is_end s a ≡ true → is_end t b ≡ true → a < b
end-up (Some x) (Some y) a b up from to = grind (arith, nat_tests, up, from, to)
end-up (Some x) None a b up from to = absurd (cc up)
end-up None t a b up from to = absurd (cc up)

joined-up : (edges : List Edge) → go_up edges ≡ true → (a b : ℕ) → are_joined edges a b ≡ true → a < b
joined-up [] up a b joined = absurd (cc joined)
joined-up (e ∷ es) up a b joined =
    let parts = and_parts (up_by e.source e.sink) (go_up es) up in
    by (cases_Bool (is_end e.source a && is_end e.sink b)) parts.0 (joined-up es parts.1 a b)
  where
    by : ((is_end e.source a && is_end e.sink b) ≡ true) ⊎ ((is_end e.source a && is_end e.sink b) ≡ false) → up_by e.source e.sink ≡ true → (are_joined es a b ≡ true → a < b) → a < b
    by (inl here) up_here rest = let ends = and_parts (is_end e.source a) (is_end e.sink b) here in end-up e.source e.sink a b up_here ends.0 ends.1
    by (inr other) up_here rest = rest (subst (λ (x : Bool). (x || are_joined es a b) ≡ true) other joined)

walk-up : (edges : List Edge) → go_up edges ≡ true → (n a b : ℕ) → EdgeWalk edges n a b → a ≤ b
walk-up edges up zero a b walk = omega (arith, walk)
walk-up edges up (suc n) a b walk = omega (arith, joined-up edges up a walk.0 walk.1, walk-up edges up n walk.0 b walk.2)

no-cycle : (edges : List Edge) → go_up edges ≡ true → (a : ℕ) → Reaches edges a a → ⊥
no-cycle edges up a walk =
    let first = joined-up edges up a walk.1.0 walk.1.1 in
    let rest = walk-up edges up walk.0 walk.1.0 a walk.1.2 in
    absurd (omega (arith, first, rest))

abbrev none_captures : List Comp → Bool
none_captures comps = list_all (λ (c : Comp). not (is_capture c.kind)) comps

not-captured : (comps : List Comp) → none_captures comps ≡ true → (d : ℕ) → captures_at comps d ≡ true → ⊥
not-captured [] none d there = cc there
not-captured (c ∷ cs) none d there =
    let parts = and_parts (not (is_capture c.kind)) (none_captures cs) none in
    by (is_capture c.kind) parts.0 (eqb c.id d) there (not-captured cs parts.1 d)
  where
    by : (b : Bool) → not b ≡ true → (same : Bool) → ((same && b) || captures_at cs d) ≡ true → (captures_at cs d ≡ true → ⊥) → ⊥
    by true is same there rest = cc is
    by false is true there rest = rest there
    by false is false there rest = rest there

-- ---- rules 1 to 13, by their tests

abbrev NoneFail : List Test → Type 0
NoneFail [] = Unit {0}
NoneFail (test ∷ tests) = (first_failing test ≡ None) × NoneFail tests

none-fail : (tests : List Test) → ruling tests ≡ None → NoneFail tests
none-fail [] none = tt
none-fail (test ∷ tests) none = by (first_failing test) refl (none-fail tests)
  where
    by : (o : Option ℕ) → first_failing test ≡ o → (ruling tests ≡ None → NoneFail tests) → NoneFail (test ∷ tests)
    by None is rest = (is, rest (subst (λ (x : Option ℕ). ruled test.number x (ruling tests) ≡ None) is none))
    by (Some item) is rest = absurd (cc (subst (λ (x : Option ℕ). ruled test.number x (ruling tests) ≡ None) is none))

holds : (test : Test) → first_failing test ≡ None → HoldsAll (item_test test.number test.items test.holds)
holds test none = first-found test.number test.items test.holds None (sym none)

module _ (t : Topology) (none : ruling (map (λ name. test_by name (wiring_of t)) rule_names) ≡ None)
    (up : go_up (edges_on (interpreted (entries_of t)) (wiring_of t).joins) ≡ true) (plays : none_captures (components_on (interpreted (entries_of t)) (wiring_of t).joins) ≡ true) where
  abbrev w : WiringValue
  w = wiring_of t

  well-formed : IsWellFormed t
  well-formed =
      let h = none-fail (map (λ name. test_by name w) rule_names) none in
      (holds (test_by rule.Counts w) h.0, (holds (test_by rule.Names w) h.1.0, (holds (test_by rule.RouteEnds w) h.1.1.0, (holds (test_by rule.Routes w) h.1.1.1.0, (holds (test_by rule.Buffers w) h.1.1.1.1.0, (holds (test_by rule.Components w) h.1.1.1.1.1.0, (holds (test_by rule.Indices w) h.1.1.1.1.1.1.0, (holds (test_by rule.Schedulers w) h.1.1.1.1.1.1.1.0, (holds (test_by rule.Periods w) h.1.1.1.1.1.1.1.1.0, (holds (test_by rule.Dais w) h.1.1.1.1.1.1.1.1.1.0, (holds (test_by rule.Hosts w) h.1.1.1.1.1.1.1.1.1.1.0, (holds (test_by rule.Sizes w) h.1.1.1.1.1.1.1.1.1.1.1.0, (holds (test_by rule.Controls w) h.1.1.1.1.1.1.1.1.1.1.1.1.0, ((λ i within. no-cycle (edges_on (interpreted (entries_of t)) (wiring_of t).joins) up i), ((λ i within play reached. not-captured (components_on (interpreted (entries_of t)) (wiring_of t).joins) plays reached.0 reached.1), tt)))))))))))))))

-- ---- over each number of streams

kept-1 : IsWellFormed (stress_topology 1)
unfolding number_of text_of until_zero placed by_token stress_topology
kept-1 = well-formed (stress_topology 1) refl refl refl

kept-2 : IsWellFormed (stress_topology 2)
unfolding number_of text_of until_zero placed by_token stress_topology
kept-2 = well-formed (stress_topology 2) refl refl refl

kept-3 : IsWellFormed (stress_topology 3)
unfolding number_of text_of until_zero placed by_token stress_topology
kept-3 = well-formed (stress_topology 3) refl refl refl

kept-4 : IsWellFormed (stress_topology 4)
unfolding number_of text_of until_zero placed by_token stress_topology
kept-4 = well-formed (stress_topology 4) refl refl refl

by-number : (P : ℕ → Type 0) (n : ℕ) → 1 ≤ n → n ≤ 4 → P 1 → P 2 → P 3 → P 4 → P n
by-number P zero low high one two three four = absurd (omega (arith, low))
by-number P (suc zero) low high one two three four = one
by-number P (suc (suc zero)) low high one two three four = two
by-number P (suc (suc (suc zero))) low high one two three four = three
by-number P (suc (suc (suc (suc zero)))) low high one two three four = four
by-number P (suc (suc (suc (suc (suc n))))) low high one two three four = absurd (omega (arith, high))

-- all rules are kept
pub stress-kept : (streams : ℕ) → 1 ≤ streams → streams ≤ 4 → IsWellFormed (stress_topology streams)
stress-kept streams low high = by-number (λ n. IsWellFormed (stress_topology n)) streams low high kept-1 kept-2 kept-3 kept-4
