use Rattle.std.proofs.Common.{◌≡◌, refl, sym, ap, subst, ◌∙◌, List, not, false, ◌&&◌, ◌||◌, None}
use Rattle.std.specs.List.{list_all}
use Rattle.stream_law.specs.Joins.{has_stayed}
use Rattle.fw_units.specs.declared.component.Component.{Component}
use Rattle.fw_components.specs.Tables.{Tables, graph_of}
use Rattle.fw_walks.specs.declared.streams.Sort.TheVariants as sorts
use Rattle.fw_walks.specs.Streams.{is_sort, any_stream}
use Rattle.fw_pipeline.specs.Preparing.{suits, AreHostsIn}
use Rattle.fw_pipeline.proofs.StayLaws.{hosts-in, hosts-same, stays-are}
use Rattle.fw_pipeline.proofs.staying.stays.Goals as goal

pub returns-then-not-have_stayed : goal.returns-then-not-have_stayed
returns-then-not-have_stayed c = λ h is same.
    let t : Tables = c.args.registry.now in
    let own = hosts-in t c.comps-comps.ensures.kept.named.comps in
    let cs : List Component = c.comps-comps.result.now in
    let here = subst (AreHostsIn (graph_of t)) (sym c.comps-comps.ensures.items) own in
    let there = subst (AreHostsIn h) (sym c.comps-comps.ensures.items) (hosts-same (graph_of t) h same t.comps own) in
    let pairs = list_all (λ x. list_all (λ y. suits h None x y) t.comps) t.comps in
    ap (λ b. b && pairs) (sym c.if-not-have_stayed.true ∙ c.have_stayed.ensures (graph_of t) h c.ways-old.ensures.ways is here there ∙ ap (list_all (λ (x : Component). not (any_stream (is_sort sorts.Set) 0 x.unit) || has_stayed (graph_of t) h x.id)) c.comps-comps.ensures.items)
    ∙ stays-are t h

pub returns : goal.returns
returns c = λ h is same.
    let t : Tables = c.args.registry.now in
    let own = hosts-in t c.comps-comps.ensures.kept.named.comps in
    let here = subst (AreHostsIn (graph_of t)) (sym c.comps-comps.ensures.items) own in
    let there = subst (AreHostsIn h) (sym c.comps-comps.ensures.items) (hosts-same (graph_of t) h same t.comps own) in
    c.all_suit.ensures h is there
    ∙ ap (λ (cs : List Component). list_all (λ x. list_all (λ y. suits h None x y) cs) cs) c.comps-comps.ensures.items
    ∙ ap (λ b. b && list_all (λ x. list_all (λ y. suits h None x y) t.comps) t.comps) (sym c.if-not-have_stayed.false ∙ c.have_stayed.ensures (graph_of t) h c.ways-old.ensures.ways is here there ∙ ap (list_all (λ (x : Component). not (any_stream (is_sort sorts.Set) 0 x.unit) || has_stayed (graph_of t) h x.id)) c.comps-comps.ensures.items)
    ∙ stays-are t h
