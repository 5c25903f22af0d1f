-- What the plan joins, as a test and as a member of its joins.
use Rattle.std.proofs.Common.{◌≡◌, ◌⊎◌, inl, inr, sym, ap, ℕ, Bool, true, false, ◌==◌, ◌&&◌, List, [], ◌∷◌, Option, Some, None, refl}
use Rattle.std.specs.List.{AllByRecursion, list_any}
use Rattle.std.specs.Option.{option_map_or}
use Rattle.std.proofs.lemmas.Bool.{false≢true, eqb-true, eq-eqb, and_parts, and_from, or_left, or_right, or_cases}
use Rattle.stream_law.specs.declared.graph.Edge.{Edge}
use Rattle.stream_law.specs.declared.graph.Join.{Join as Joined}
use Rattle.stream_law.proofs.Members.{IsIn}
use Rattle.tplg_plan.specs.declared.plans.Plan.{Plan}
use Rattle.sof_session.specs.RunLaws.{is_planned_join, is_planned_edge}
use Rattle.sof_session.proofs.UpEdges.{join, FilledBy, DrainedTo, IsEdgeOf}

abbrev is_join : ℕ → ℕ → Joined → Bool
is_join a b j = j.source == a && j.sink == b

any-in : (a b : ℕ) (js : List Joined) → list_any (λ j. j.source == a && j.sink == b) js ≡ true → IsIn (join a b) js
any-in a b [] is = absurd (false≢true is)
any-in a b (j ∷ js) is = by (or_cases (is_join a b j) (list_any (λ j. j.source == a && j.sink == b) js) is) (λ later. any-in a b js later)
  where
    by : (is_join a b j ≡ true) ⊎ (list_any (λ j. j.source == a && j.sink == b) js ≡ true) → (list_any (λ j. j.source == a && j.sink == b) js ≡ true → IsIn (join a b) js) → IsIn (join a b) (j ∷ js)
    by (inl here) rest =
        let ends = and_parts (j.source == a) (j.sink == b) here in
        inl (λ i. record { source = sym (eqb-true j.source a ends.0) i; sink = sym (eqb-true j.sink b ends.1) i })
    by (inr later) rest = inr (rest later)

in-any : (a b : ℕ) (js : List Joined) → IsIn (join a b) js → list_any (λ j. j.source == a && j.sink == b) js ≡ true
in-any a b [] is = absurd is
in-any a b (j ∷ js) (inl here) =
    or_left (is_join a b j) (list_any (λ j. j.source == a && j.sink == b) js)
    (and_from (j.source == a) (j.sink == b) (eq-eqb j.source a (sym (ap (λ (x : Joined). x.source) here))) (eq-eqb j.sink b (sym (ap (λ (x : Joined). x.sink) here))))
in-any a b (j ∷ js) (inr later) = or_right (is_join a b j) (list_any (λ j. j.source == a && j.sink == b) js) (in-any a b js later)

module _ (plan : Plan) where
  filled-from : (o : Option ℕ) (b : ℕ) → option_map_or (λ (a : ℕ). is_planned_join plan a b) o true ≡ true → FilledBy plan o b
  filled-from None b is = tt
  filled-from (Some a) b is = any-in a b plan.graph.joins is

  drained-from : (b : ℕ) (o : Option ℕ) → option_map_or (λ (c : ℕ). is_planned_join plan b c) o true ≡ true → DrainedTo plan b o
  drained-from b None is = tt
  drained-from b (Some c) is = any-in b c plan.graph.joins is

  filled-to : (o : Option ℕ) (b : ℕ) → FilledBy plan o b → option_map_or (λ (a : ℕ). is_planned_join plan a b) o true ≡ true
  filled-to None b is = refl
  filled-to (Some a) b is = in-any a b plan.graph.joins is

  drained-to : (b : ℕ) (o : Option ℕ) → DrainedTo plan b o → option_map_or (λ (c : ℕ). is_planned_join plan b c) o true ≡ true
  drained-to b None is = refl
  drained-to b (Some c) is = in-any b c plan.graph.joins is

  pub from-planned : (es : List Edge) → AllByRecursion (λ (e : Edge). is_planned_edge plan e ≡ true) es → AllByRecursion (IsEdgeOf plan) es
  from-planned [] all = tt
  from-planned (e ∷ es) all =
      let parts = and_parts (option_map_or (λ (a : ℕ). is_planned_join plan a e.buffer) e.source true) (option_map_or (λ (c : ℕ). is_planned_join plan e.buffer c) e.sink true) all.0 in
      ((filled-from e.source e.buffer parts.0, drained-from e.buffer e.sink parts.1), from-planned es all.1)

  pub to-planned : (es : List Edge) → AllByRecursion (IsEdgeOf plan) es → AllByRecursion (λ (e : Edge). is_planned_edge plan e ≡ true) es
  to-planned [] all = tt
  to-planned (e ∷ es) all = (
    and_from (option_map_or (λ (a : ℕ). is_planned_join plan a e.buffer) e.source true) (option_map_or (λ (c : ℕ). is_planned_join plan e.buffer c) e.sink true) (filled-to e.source e.buffer all.0.0) (drained-to e.buffer e.sink all.0.1),
    to-planned es all.1,
  )
