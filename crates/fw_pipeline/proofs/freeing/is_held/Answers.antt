use Rattle.std.proofs.Common.{ap, ◌∙◌, ℕ, List}
use Rattle.std.proofs.lemmas.Bool.{or_right}
use Rattle.stream_law.specs.Order.{is_among}
use Rattle.fw_places.specs.Walks.{is_marked}
use Rattle.fw_units.specs.Changes.{has_id}
use Rattle.fw_components.specs.Tables.{Tables}
use Rattle.fw_components.proofs.Listed.{listed-is}
use Rattle.fw_walks.proofs.Naming.{edge-named}
use Rattle.fw_pipeline.proofs.freeing.is_held.Goals as goal

pub returns : goal.returns
returns c =
    let t : Tables = c.args.registry.now in let id : ℕ = c.args.id in
    c.has.ensures
    ∙ ap (λ (xs : List ℕ). is_marked xs c.ways-held.result id) c.places.ensures.ids
    ∙ c.ways-held.ensures id (ap (λ (xs : List ℕ). is_among xs id) c.ways-along.ensures.ways.ids ∙ listed-is t id ∙ or_right (has_id t.comps id) _ (edge-named t id ∙ c.requires))
