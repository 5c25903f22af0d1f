use Rattle.std.proofs.Common.{ap, ◌∙◌, ◌||◌, ◌&&◌, not, ℕ, List}
use Rattle.std.specs.List.{list_any}
use Rattle.stream_law.specs.Order.{is_among}
use Rattle.stream_law.specs.Ways.{is_capture, is_dai_play}
use Rattle.tplg_walks.specs.Echoes.{is_sort_at}
use Rattle.tplg_walks.proofs.Leading.{some-among}
use Rattle.tplg_walks.proofs.echoes.enters_host_capture.Goals as goal

pub returns : goal.returns
returns c =
    let comps = c.args.comps.now in let edges = c.args.edges.now in let id : ℕ = c.args.id in let seen : List ℕ = c.reached.result.items in
    c.leads_to_captures_alone.ensures
    ∙ ap (λ (ids : List ℕ). (is_sort_at comps is_capture id || list_any (λ x. is_capture x.kind && is_among ids x.id) comps) && not (is_sort_at comps is_dai_play id || list_any (λ x. is_dai_play x.kind && is_among ids x.id) comps)) c.as_slice.ensures.value
    ∙ (λ i. (is_sort_at comps is_capture id || some-among comps edges is_capture id seen c.reached.ensures i) && not (is_sort_at comps is_dai_play id || some-among comps edges is_dai_play id seen c.reached.ensures i))
