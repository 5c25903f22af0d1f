use Rattle.std.proofs.Common.{◌≡◌, List, subst, false, arith}
use Rattle.std.specs.List.{list_any}
use Rattle.std.proofs.lemmas.List.{take_all}
use Rattle.stream_law.specs.declared.graph.Edge.{Edge}
use Rattle.tplg_walks.proofs.Reached.{closed, leads_on}
use Rattle.tplg_walks.proofs.walks.found.Goals as goal

pub returns-clause-none : goal.returns-clause-none
returns-clause-none c =
    let all = take_all c.loop-e.e-index c.args.edges.now (omega (arith, c.loop-e-test.false)) in
    closed c.args.edges.now c.args.from c.args.seen.now (subst (λ (es : List Edge). list_any (leads_on c.args.from c.args.seen.now) es ≡ false) all c.loop-e.invariant)
