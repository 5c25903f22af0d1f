use Rattle.std.proofs.Common.{◌≡◌, sym, ap, ◌∙◌, ℕ, List, true, false}
use Rattle.fw_components.specs.Tables.{Tables, graph_of}
use Rattle.stream_law.specs.declared.graph.Join.{Join}
use Rattle.stream_law.specs.Order.{is_among}
use Rattle.fw_places.specs.Walks.{leads_by}
use Rattle.fw_pipeline.proofs.OneJoin.{cycle-marked, ends-listed, never-closes}
use Rattle.fw_pipeline.proofs.one_join.closes.Goals as goal

pub returns-then-not-may_lead-clause-cycle : goal.returns-then-not-may_lead-clause-cycle
returns-then-not-may_lead-clause-cycle c =
    never-closes (graph_of c.args.registry.now) c.joins.result.now c.args.source c.args.sink c.joins.ensures.items (sym c.may_lead.ensures ∙ c.if-not-may_lead.true)

pub returns-clause-cycle : goal.returns-clause-cycle
returns-clause-cycle c =
    let t : Tables = c.args.registry.now in
    let there : is_among c.places-places.result.ids c.args.source ≡ true = ap (λ (ids : List ℕ). is_among ids c.args.source) c.places-places.ensures.ids ∙ (ends-listed t c.args.source c.args.sink c.requires).0 in
    c.has.ensures
    ∙ c.reached-from_sink.ensures.reached c.args.source there
    ∙ ap (λ (js : List Join). leads_by false js c.args.sink c.args.source) c.places-places.ensures.joins
    ∙ cycle-marked (graph_of t) c.args.source c.args.sink
