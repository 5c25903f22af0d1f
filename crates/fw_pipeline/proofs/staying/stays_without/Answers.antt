use Rattle.std.proofs.Common.{sym, ap, ◌∙◌, refl, List}
use Rattle.std.specs.List.{list_any}
use Rattle.mbox_link.specs.Step.{without_edge}
use Rattle.fw_units.specs.declared.component.Component.{Component}
use Rattle.fw_components.specs.Tables.{Tables, graph_of}
use Rattle.fw_walks.specs.declared.streams.Sort.TheVariants as sorts
use Rattle.fw_walks.specs.Streams.{is_sort, any_stream}
use Rattle.fw_pipeline.proofs.StayLaws.{nothing-stays}
use Rattle.fw_pipeline.proofs.staying.stays_without.Goals as goal

pub returns-then-not-any_set : goal.returns-then-not-any_set
returns-then-not-any_set c =
    let t : Tables = c.args.registry.now in
    nothing-stays t (without_edge c.args.buffer (graph_of t))
    (ap (λ (cs : List Component). list_any (λ c. any_stream (is_sort sorts.Set) 0 c.unit) cs) (sym c.comps.ensures.items) ∙ sym c.any_set.ensures ∙ c.if-not-any_set.true)

pub returns : goal.returns
returns c = let t : Tables = c.args.registry.now in c.stays.ensures (without_edge c.args.buffer (graph_of t)) c.ways_without-new.ensures refl
