use Rattle.std.proofs.Common.{List, ℕ, ap, ◌∙◌}
use Rattle.stream_law.specs.Order.{is_among}
use Rattle.tplg_walks.specs.Echoes.{reaches}
use Rattle.tplg_walks.proofs.Leading.{same_from_iff, reaches-from, reaches-to}
use Rattle.tplg_walks.proofs.walks.reaches.Goals as goal

pub returns-clause-test : goal.returns-clause-test
returns-clause-test c =
    let edges = c.args.edges.now in let from : ℕ = c.args.from in let to : ℕ = c.args.to in let seen : List ℕ = c.reached.result.items in
    let walk = c.reached.ensures to in
    c.is_among.ensures
    ∙ ap (λ (ids : List ℕ). is_among ids to) c.as_slice.ensures.value
    ∙ same_from_iff (is_among seen to) (reaches edges from to) (λ h. reaches-to edges from to (walk.0 h), λ h. walk.1 (reaches-from edges from to h))
