use Rattle.std.proofs.Common.{sym, ap, ◌∙◌, ◌&&◌, ℕ, List}
use Rattle.std.specs.List.{list_any}
use Rattle.stream_law.specs.Order.{is_among}
use Rattle.stream_law.specs.Ways.{is_capture}
use Rattle.tplg_walks.proofs.Leading.{some-among, capture-reached, reached-capture}
use Rattle.tplg_walks.proofs.failing.reaches_capture.Goals as goal

pub returns : goal.returns
returns c =
    let comps = c.args.comps.now in let edges = c.args.edges.now in let id : ℕ = c.args.id in
    let same =
    c.any_captures.ensures
    ∙ ap (λ (ids : List ℕ). list_any (λ x. is_capture x.kind && is_among ids x.id) comps) c.as_slice.ensures.value
    ∙ some-among comps edges is_capture id c.reached.result.items c.reached.ensures in
    (λ h. capture-reached comps edges id (sym same ∙ h), λ r. same ∙ reached-capture comps edges id r)
