use Rattle.std.proofs.Common.{List, subst, length, ap, OnOk, IfErr, arith}
use Rattle.stream_law.specs.declared.graph.Comp.{Comp}
use Rattle.stream_law.specs.declared.graph.Edge.{Edge}
use Rattle.tplg_walks.specs.Rules.{AllHold}
use Rattle.tplg_rules.specs.WellFormed.{walk_rules}
use Rattle.tplg_rules.specs.RuleFaults.{IsFaultOf}
use Rattle.tplg_rules.proofs.FewEdges.{few-edges}
use Rattle.tplg_rules.proofs.checking.check_graph.Goals as goal

pub check_walks-requires-clause-few : goal.check_walks-requires-clause-few
check_walks-requires-clause-few c = omega (arith, ap length c.requires.edges, few-edges c.args.parts.now c.args.pcms.now c.args.joins.now c.requires.counts)

pub returns-clause-ok : goal.returns-clause-ok
returns-clause-ok c = subst (λ (p : List Comp × List Edge). OnOk c.check_walks.result (AllHold (walk_rules c.args.parts.now p.0 p.1))) (λ i. (c.requires.comps i, c.requires.edges i)) c.check_walks.ensures.ok

pub returns-clause-err : goal.returns-clause-err
returns-clause-err c = subst (λ (p : List Comp × List Edge). IfErr c.check_walks.result (IsFaultOf (walk_rules c.args.parts.now p.0 p.1))) (λ i. (c.requires.comps i, c.requires.edges i)) c.check_walks.ensures.err
