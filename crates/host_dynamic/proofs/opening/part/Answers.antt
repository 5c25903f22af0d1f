use Rattle.std.proofs.Common.{◌≡◌, ap, ◌∙◌, ℕ, List, filter, not}
use Rattle.stream_law.specs.Order.{is_among}
use Rattle.host_dynamic.specs.Dynamic.{needed}
use Rattle.host_dynamic.proofs.opening.part.Goals as goal

pub needed-needed-requires-clause-streams : goal.needed-needed-requires-clause-streams
needed-needed-requires-clause-streams c = c.requires.kept.streams

pub returns-clause-staying : goal.returns-clause-staying
returns-clause-staying c =
    let same : (i : ℕ) → is_among c.as_slice-2.result.now i ≡ is_among (needed c.args.plan.now c.args.kept.now) i = λ i. ap (λ (xs : List ℕ). is_among xs i) c.as_slice-2.ensures.value ∙ c.needed-needed.ensures i in
    let held : List ℕ = c.args.up.now in
    let up : c.listed-staying.result.items ≡ held = c.listed-staying.ensures ∙ c.items-2.ensures.value in
    c.list_of.ensures ∙ c.as_slice-3.ensures.value ∙ c.keep.ensures ∙ (λ j. filter (λ (i : ℕ). same i j) (up j))

pub returns-clause-parting : goal.returns-clause-parting
returns-clause-parting c =
    let same : (i : ℕ) → is_among c.as_slice.result.now i ≡ is_among (needed c.args.plan.now c.args.kept.now) i = λ i. ap (λ (xs : List ℕ). is_among xs i) c.as_slice.ensures.value ∙ c.needed-needed.ensures i in
    let held : List ℕ = c.args.up.now in
    let up : c.listed-parting.result.items ≡ held = c.listed-parting.ensures ∙ c.items.ensures.value in
    c.lose.ensures ∙ (λ j. filter (λ (i : ℕ). not (same i j)) (up j))
