use Rattle.std.proofs.Common.{length, arith, rules, tests}
use Rattle.std.proofs.lemmas.Iterator.{YieldsList-from_range, items_from_collect}
use Rattle.std.proofs.lemmas.Iterator.Consumers.{YieldsList-from_filter_map}
use Rattle.tplg_graph.specs.PlanLists.{stream_plan_at}
use Rattle.tplg_graph.proofs.plan_lists.streams.Goals as goal

pub returns : goal.returns
returns c =
    items_from_collect _ c.collect.ensures.ran
    (YieldsList-from_filter_map _ (stream_plan_at c.args.parts.now c.args.pcms.now) (YieldsList-from_range 0 (length c.args.parts.now) (length c.args.parts.now) (cc) (omega arith))
    c.filter_map.ensures.closure (λ x r q k. search (rules, tests)))
