use Rattle.std.proofs.Common.{ap, ◌∙◌, List, not, ◌||◌}
use Rattle.std.specs.List.{list_all}
use Rattle.mbox_link.specs.Step.{is_ready_edge}
use Rattle.fw_units.specs.declared.component.Component.{Component}
use Rattle.fw_units.specs.Units.{edge_by}
use Rattle.fw_components.specs.Tables.{Tables, graph_of}
use Rattle.fw_places.specs.Walks.{is_marked}
use Rattle.fw_pipeline.proofs.ReadyWays.{buffers-marked}
use Rattle.fw_pipeline.proofs.preparing.has_ready_buffers.Goals as goal

pub returns : goal.returns
returns c =
    let t : Tables = c.args.registry.now in
    c.are_buffers_ready.ensures
    ∙ ap (λ (cs : List Component). list_all (λ x. not (is_marked c.args.places.now.ids c.args.marks.now x.id) || is_ready_edge (graph_of t) (edge_by x)) cs) c.buffers.ensures.items
    ∙ buffers-marked t c.args.places.now.ids c.requires.ids c.args.host c.args.marks.now c.requires.marked
