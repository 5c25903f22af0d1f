use Rattle.stream_law.proofs.BareGraphs.{order-told, whole-told, none-told, cycle-told}
use Rattle.stream_law.proofs.ordering.order.Goals as goal

pub returns-clause-order : goal.returns-clause-order
returns-clause-order c = order-told c.args.graph.now c.items.result.now c.items-2.result.now c.items.ensures c.items-2.ensures c.order_of.result c.order_of.ensures.order

pub returns-clause-whole : goal.returns-clause-whole
returns-clause-whole c = whole-told c.args.graph.now c.items.result.now c.items-2.result.now c.items.ensures c.items-2.ensures c.order_of.result c.order_of.ensures.whole

pub returns-clause-none : goal.returns-clause-none
returns-clause-none c = none-told c.args.graph.now c.items.result.now c.items-2.result.now c.items.ensures c.items-2.ensures c.order_of.result c.order_of.ensures.none

pub returns-clause-cycle : goal.returns-clause-cycle
returns-clause-cycle c = cycle-told c.args.graph.now c.items.result.now c.items-2.result.now c.items.ensures c.items-2.ensures c.order_of.result c.order_of.ensures.cycle
