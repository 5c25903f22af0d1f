use Rattle.std.proofs.Common.{◌≡◌, sym, subst, ◌∙◌, ℕ, List, Bool, true, false, ◌==◌, ◌&&◌, ◌||◌}
use Rattle.std.specs.List.{list_any, AllByRecursion}
use Rattle.stream_law.specs.Ways.{on_way}
use Rattle.stream_law.specs.Order.{is_among}
use Rattle.fw_units.specs.declared.component.Component.{Component}
use Rattle.fw_components.specs.Tables.{graph_of}
use Rattle.fw_components.proofs.HostWays.{all-seen}
use Rattle.fw_places.specs.Walks.{place_in, is_marked}
use Rattle.fw_places.proofs.WayWalks.{any-each}
use Rattle.fw_walks.specs.Streams.{is_sort, any_stream, is_host_of}
use Rattle.fw_walks.proofs.OnWays.{any-streams, stream-of}
use Rattle.fw_walks.proofs.HostMarks.{hosts-listed, hosts-of, ways-both}
use Rattle.fw_walks.proofs.marks.ways.Goals as goal

pub mark_hosts-plays-requires : goal.mark_hosts-plays-requires
mark_hosts-plays-requires c =
    subst (λ (p : List ℕ × List Component). AllByRecursion (λ x. is_among p.0 x.id ≡ true) p.1) (λ i. (sym c.places-places.ensures.ids i, sym c.comps-comps.ensures.items i))
    (hosts-listed c.args.registry.now c.args.along.now.ids c.requires.ids)

pub mark_hosts-captures-requires : goal.mark_hosts-captures-requires
mark_hosts-captures-requires c =
    subst (λ (p : List ℕ × List Component). AllByRecursion (λ x. is_among p.0 x.id ≡ true) p.1) (λ i. (sym c.places-places.ensures.ids i, sym c.comps-comps.ensures.items i))
    (hosts-listed c.args.registry.now c.args.along.now.ids c.requires.ids)

pub returns : goal.returns
returns c =
    let t = c.args.registry.now in let g = graph_of t in let ids = c.args.along.now.ids in let sort = c.args.sort in
    let listed = hosts-listed t ids c.requires.ids in
    let seen = all-seen t c.comps-comps.ensures.kept.named.comps in
    let Are : Bool → List Bool → List ℕ → List Component → Type 0 = λ capture marks ids comps. (x : ℕ) → is_among ids x ≡ true → is_marked ids marks x ≡ list_any (λ d. d.id == x && is_host_of sort capture d) comps in
    let here : (capture : Bool) (marks : List Bool) → Are capture marks c.places-places.result.now.ids c.comps-comps.result.now → Are capture marks ids t.comps =
    λ capture marks are. subst (λ (p : List ℕ × List Component). Are capture marks p.0 p.1) (λ i. (c.places-places.ensures.ids i, c.comps-comps.ensures.items i)) are in
    let ahead = here false c.mark_hosts-plays.result c.mark_hosts-plays.ensures in
    let behind = here true c.mark_hosts-captures.result c.mark_hosts-captures.ensures in
    λ x there.
    c.add.ensures.each (place_in ids x)
    ∙ (λ i. c.of_hosts-marks.ensures g c.requires (hosts-of sort g ids t.comps listed seen false c.mark_hosts-plays.result ahead) x there i || c.of_hosts-behind.ensures g c.requires (hosts-of sort g ids t.comps listed seen true c.mark_hosts-captures.result behind) x there i)
    ∙ ways-both sort g ids t.comps listed seen c.mark_hosts-plays.result c.mark_hosts-captures.result ahead behind (λ h. on_way g h x)
    ∙ any-each (λ (d : Component). any_stream (is_sort sort) 0 d.unit && on_way g d.id x) (λ (d : Component). any_stream (λ s. is_sort sort s && on_way g s.host x) d.id d.unit) t.comps (λ d here. sym (stream-of sort (λ host. on_way g host x) d.id d.unit))
    ∙ sym (any-streams (λ s. is_sort sort s && on_way g s.host x) t.comps)
