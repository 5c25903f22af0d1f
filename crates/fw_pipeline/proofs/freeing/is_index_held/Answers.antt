use Rattle.std.proofs.Common.{◌≡◌, sym, subst, ◌∙◌, ℕ, List, true}
use Rattle.stream_law.specs.Order.{is_among}
use Rattle.fw_components.specs.Tables.{graph_of, streams_of}
use Rattle.fw_places.specs.Walks.{is_marked}
use Rattle.mbox_link.specs.Step.{is_held}
use Rattle.fw_pipeline.proofs.freeing.is_index_held.Goals as goal

pub has_held_comp-requires-clause-ids : goal.has_held_comp-requires-clause-ids
has_held_comp-requires-clause-ids c = c.places-places.ensures.ids ∙ c.ways-along.ensures.ways.ids

pub has_held_comp-requires-clause-marked : goal.has_held_comp-requires-clause-marked
has_held_comp-requires-clause-marked c = λ x there.
    let t = c.args.registry.now in
    subst (λ (ids : List ℕ). is_among ids x ≡ true → is_marked ids c.ways-held.result x ≡ is_held (graph_of t) (streams_of t) x) (sym c.places-places.ensures.ids) (c.ways-held.ensures x) there

pub has_held_buffer-requires-clause-ids : goal.has_held_buffer-requires-clause-ids
has_held_buffer-requires-clause-ids c = c.places-places.ensures.ids ∙ c.ways-along.ensures.ways.ids

pub has_held_buffer-requires-clause-marked : goal.has_held_buffer-requires-clause-marked
has_held_buffer-requires-clause-marked c = λ x there.
    let t = c.args.registry.now in
    subst (λ (ids : List ℕ). is_among ids x ≡ true → is_marked ids c.ways-held.result x ≡ is_held (graph_of t) (streams_of t) x) (sym c.places-places.ensures.ids) (c.ways-held.ensures x) there
