use Rattle.std.proofs.Common.{sym, ◌∙◌, arith}
use Rattle.std.proofs.lemmas.Bool.{true≢false}
use borrow.Author.Count.{below_more}
use Rattle.tplg_walks.specs.Cycles.{Reaches}
use Rattle.tplg_walks.proofs.failing.failing_cycle.Goals as goal

pub returns-then-reaches : goal.returns-then-reaches
returns-then-reaches c = record { within = c.loop-id-test.true; fails = λ holds. holds (c.reaches.ensures.walk.0 c.if-reaches.true); before = c.loop-id.invariant }

pub loop-id-preserved : goal.loop-id-preserved
loop-id-preserved c = below_more (λ k. Reaches c.args.edges.now k k → ⊥) c.loop-id.id c.loop-id.invariant (λ r. true≢false (sym (c.reaches.ensures.walk.1 r) ∙ c.if-reaches.false))

pub returns : goal.returns
returns c = λ i within. c.loop-id.invariant i (omega arith)
