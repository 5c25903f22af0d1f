use Rattle.std.proofs.Common.{ap, ◌∙◌, List, not, ◌||◌}
use Rattle.std.specs.List.{list_all}
use Rattle.mbox_link.specs.Step.{is_ready_comp}
use Rattle.fw_units.specs.declared.component.Component.{Component}
use Rattle.fw_units.specs.Units.{comp_by}
use Rattle.fw_components.specs.Tables.{Tables, graph_of}
use Rattle.fw_places.specs.Walks.{is_marked}
use Rattle.fw_pipeline.proofs.ReadyWays.{comps-marked}
use Rattle.fw_pipeline.proofs.preparing.has_ready_comps.Goals as goal

pub returns : goal.returns
returns c =
    let t : Tables = c.args.registry.now in
    c.are_comps_ready.ensures
    ∙ ap (λ (cs : List Component). list_all (λ x. not (is_marked c.args.places.now.ids c.args.marks.now x.id) || is_ready_comp (graph_of t) (comp_by x)) cs) c.comps.ensures.items
    ∙ comps-marked t c.args.places.now.ids c.requires.ids c.args.host c.args.marks.now c.requires.marked
