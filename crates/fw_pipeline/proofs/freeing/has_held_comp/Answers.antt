use Rattle.std.proofs.Common.{sym, ap, ◌∙◌, List, ◌&&◌, ◌==◌}
use Rattle.std.specs.List.{list_any}
use Rattle.stream_law.specs.declared.graph.Comp.{Comp}
use Rattle.fw_places.specs.Walks.{is_marked}
use Rattle.fw_units.specs.declared.component.Component.{Component}
use Rattle.fw_components.specs.Tables.{Tables, graph_of, streams_of}
use Rattle.fw_units.specs.Units.{comp_by}
use Rattle.mbox_link.specs.Step.{is_held}
use Rattle.fw_places.proofs.WayWalks.{any-each}
use Rattle.fw_walks.proofs.OnWays.{any-map}
use Rattle.fw_walks.proofs.HostMarks.{host-listed}
use Rattle.fw_pipeline.proofs.freeing.has_held_comp.Goals as goal

pub returns : goal.returns
returns c =
    let t : Tables = c.args.registry.now in
    c.any_marked.ensures
    ∙ ap (λ (cs : List Component). list_any (λ x. x.pipe == c.args.index && is_marked c.args.places.now.ids c.args.held.now x.id) cs) c.comps.ensures.items
    ∙ any-each (λ (x : Component). x.pipe == c.args.index && is_marked c.args.places.now.ids c.args.held.now x.id) (λ (x : Component). x.pipe == c.args.index && is_held (graph_of t) (streams_of t) x.id) t.comps (λ x here. ap (λ h. x.pipe == c.args.index && h) (c.requires.marked x.id (host-listed t c.args.places.now.ids c.requires.ids x here)))
    ∙ sym (any-map (λ (x : Comp). x.pipe == c.args.index && is_held (graph_of t) (streams_of t) x.id) comp_by t.comps)
