use Rattle.std.proofs.Common.{subst, sym, ℕ, List}
use Rattle.stream_law.specs.declared.graph.Edge.{Edge}
use Rattle.tplg_walks.specs.Cycles.{Reaches}
use Rattle.tplg_walks.proofs.Turned.{reaches-turned, turned-reaches}
use Rattle.tplg_walks.proofs.walks.reaching.Goals as goal

pub returns : goal.returns
returns c =
    let edges = c.args.edges.now in let to : ℕ = c.args.to in let same = c.turn.ensures.turned in
    λ a. (
      λ h. reaches-turned edges to a (subst (λ (es : List Edge). Reaches es to a) same ((c.reached.ensures a).0 h)),
      λ r. (c.reached.ensures a).1 (subst (λ (es : List Edge). Reaches es to a) (sym same) (turned-reaches edges to a r)),
    )
