use Rattle.std.proofs.Common.{◌≡◌, refl, sym, subst, ◌∙◌, ℕ, List, Option, Some, None, option_map, true, false}
use Rattle.std.specs.Option.{option_map_or}
use Rattle.stream_law.specs.declared.graph.Comp.{Comp}
use Rattle.stream_law.specs.Ways.{comp_of, is_capture, on_way}
use Rattle.stream_law.specs.Order.{is_among}
use Rattle.mbox_link.specs.Step.{has_kind}
use Rattle.fw_components.specs.Tables.{graph_of}
use Rattle.fw_places.specs.Walks.{is_marked}
use Rattle.fw_pipeline.proofs.preparing.is_way_ready.Goals as goal

-- the kind of a component is asked for by its id
of-kind : (o : Option Comp) → has_kind is_capture (option_map (λ (c : Comp). c.kind) o) ≡ option_map_or (λ c. is_capture c.kind) o false
of-kind None = refl
of-kind (Some c) = refl

pub has_ready_comps-requires-clause-marked : goal.has_ready_comps-requires-clause-marked
has_ready_comps-requires-clause-marked c = λ x there.
    let g = graph_of c.args.registry.now in
    subst (λ (ids : List ℕ). is_among ids x ≡ true → is_marked ids c.way-marks.result x ≡ on_way g c.args.host x) (sym c.places-places.ensures.ids) (c.way-marks.ensures.way g c.requires (c.captures_at.ensures ∙ of-kind (comp_of g c.args.host)) x) there

pub has_ready_buffers-requires-clause-marked : goal.has_ready_buffers-requires-clause-marked
has_ready_buffers-requires-clause-marked c = λ x there.
    let g = graph_of c.args.registry.now in
    subst (λ (ids : List ℕ). is_among ids x ≡ true → is_marked ids c.way-marks.result x ≡ on_way g c.args.host x) (sym c.places-places.ensures.ids) (c.way-marks.ensures.way g c.requires (c.captures_at.ensures ∙ of-kind (comp_of g c.args.host)) x) there
