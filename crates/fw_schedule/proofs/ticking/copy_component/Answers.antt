use Rattle.std.proofs.Common.{sym, ◌∙◌, [], ◌∷◌, not, ◌&&◌}
use Rattle.fw_schedule.proofs.Growing.{grew-still}
use Rattle.fw_schedule.proofs.ticking.copy_component.Goals as goal

pub process-requires-clause-kind : goal.process-requires-clause-kind
process-requires-clause-kind c = λ i. not ((sym c.reads.ensures ∙ c.if-reads.false) i) && not ((sym c.writes.ensures ∙ c.if-writes.false) i)

pub returns-then-reads-clause-grew : goal.returns-then-reads-clause-grew
returns-then-reads-clause-grew c = grew-still (c.args.step.now.id ∷ []) c.args.out.now

pub returns-then-reads-clause-moved : goal.returns-then-reads-clause-moved
returns-then-reads-clause-moved c = λ clock run most. c.feed.ensures.moved clock c.args.out.now run most

pub returns-then-writes-clause-moved : goal.returns-then-writes-clause-moved
returns-then-writes-clause-moved c = λ clock run most. c.drain.ensures.moved clock c.args.io.now run most

pub returns-else-writes-clause-grew : goal.returns-else-writes-clause-grew
returns-else-writes-clause-grew c = grew-still (c.args.step.now.id ∷ []) c.args.out.now

pub returns-else-writes-clause-moved : goal.returns-else-writes-clause-moved
returns-else-writes-clause-moved c = λ clock run most. c.process.ensures.moved clock c.args.io.now c.args.out.now run most
