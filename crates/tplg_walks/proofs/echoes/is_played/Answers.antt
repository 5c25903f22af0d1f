use Rattle.std.proofs.Common.{ap, ◌∙◌, ◌&&◌, ℕ, List}
use Rattle.std.specs.List.{list_any}
use Rattle.stream_law.specs.Order.{is_among}
use Rattle.stream_law.specs.Ways.{is_play}
use Rattle.tplg_walks.proofs.Leading.{some-before}
use Rattle.tplg_walks.proofs.echoes.is_played.Goals as goal

pub returns : goal.returns
returns c =
    c.any_plays.ensures
    ∙ ap (λ (ids : List ℕ). list_any (λ x. is_play x.kind && is_among ids x.id) c.args.comps.now) c.as_slice.ensures.value
    ∙ some-before c.args.comps.now c.args.edges.now is_play c.args.id c.reaching.result.items c.reaching.ensures
