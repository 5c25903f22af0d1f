use Rattle.std.proofs.Common.{◌≡◌, sym, ap, subst, ◌∙◌, ℕ, List, true, false, ◌==◌, ◌&&◌}
use Rattle.std.specs.List.{list_any, AllByRecursion}
use Rattle.stream_law.specs.Ways.{is_capture, on_way}
use Rattle.stream_law.specs.Order.{is_among}
use Rattle.fw_units.specs.declared.component.Component.{Component}
use Rattle.fw_units.specs.Units.{kind_by}
use Rattle.fw_components.specs.Tables.{Tables, graph_of}
use Rattle.fw_components.proofs.HostWays.{all-seen}
use Rattle.fw_places.specs.Walks.{is_marked}
use Rattle.fw_places.proofs.WayWalks.{any-each}
use Rattle.fw_walks.specs.declared.streams.Sort.TheVariants as sorts
use Rattle.fw_walks.specs.Streams.{is_host_of}
use Rattle.fw_walks.proofs.HostMarks.{hosts-listed, hosts-of, hosts-pass, host-listed}
use Rattle.fw_pipeline.proofs.CrossLaws.{crosses-are}
use Rattle.fw_pipeline.proofs.preparing.crosses.Goals as goal

pub mark_hosts-hosts-requires : goal.mark_hosts-hosts-requires
mark_hosts-hosts-requires c =
    subst (λ (p : List ℕ × List Component). AllByRecursion (λ x. is_among p.0 x.id ≡ true) p.1) (λ i. (sym c.places.ensures.ids i, sym c.comps-comps.ensures.items i))
    (hosts-listed c.args.registry.now c.args.ways.now.ids c.requires.ids)

pub returns : goal.returns
returns c =
    let t : Tables = c.args.registry.now in let g = graph_of t in let ids = c.args.ways.now.ids in
    let up = c.comps-comps.ensures.kept.named.comps in
    let listed = hosts-listed t ids c.requires.ids in
    let Are : List ℕ → List Component → Type 0 = λ ids comps. (x : ℕ) → is_among ids x ≡ true → is_marked ids c.mark_hosts-hosts.result x ≡ list_any (λ d. d.id == x && is_host_of sorts.All false d) comps in
    let are : Are ids t.comps = subst (λ (p : List ℕ × List Component). Are p.0 p.1) (λ i. (c.places.ensures.ids i, c.comps-comps.ensures.items i)) c.mark_hosts-hosts.ensures in
    c.any_capture.ensures
    ∙ (λ i. list_any (λ d. is_capture (kind_by d.unit) && is_marked (c.places-2.ensures.ids i) c.of_hosts-marks.result d.id) (c.comps-comps.ensures.items i))
    ∙ any-each (λ d. is_capture (kind_by d.unit) && is_marked ids c.of_hosts-marks.result d.id) (λ b. is_capture (kind_by b.unit) && list_any (λ a. is_host_of sorts.All false a && on_way g a.id b.id) t.comps) t.comps
    (λ d here. ap (λ h. is_capture (kind_by d.unit) && h) (
    c.of_hosts-marks.ensures g c.requires (hosts-of sorts.All g ids t.comps listed (all-seen t up) false c.mark_hosts-hosts.result are) d.id (host-listed t ids c.requires.ids d here)
    ∙ hosts-pass (is_host_of sorts.All false) ids t.comps listed c.mark_hosts-hosts.result are (λ h. on_way g h d.id)))
    ∙ crosses-are t up
