use Rattle.tplg_walks.specs.Echoes.{plain_edges}
use Rattle.tplg_walks.proofs.Leading.{leads-walk, walk-leads, reaches-from, reaches-to, capture-reached, reached-capture}
use Rattle.tplg_walks.proofs.laws.walks_are_found.Goals as goal

pub returns-clause-leads : goal.returns-clause-leads
returns-clause-leads c = λ edges a b. (leads-walk edges a b, λ w. walk-leads edges w.0 a b w.1)

pub returns-clause-reaches : goal.returns-clause-reaches
returns-clause-reaches c = λ edges a b. (reaches-from edges a b, reaches-to edges a b)

pub returns-clause-captures : goal.returns-clause-captures
returns-clause-captures c = λ comps edges id. (capture-reached comps (plain_edges comps edges) id, reached-capture comps (plain_edges comps edges) id)
