use Rattle.std.proofs.Common.{◌≡◌, ap, ◌∙◌, List, subst, IfOk}
use Rattle.stream_law.specs.declared.graph.Join.{Join}
use Rattle.tplg_widgets.specs.EntryValue.{EntryValue}
use Rattle.tplg_widgets.specs.declared.pcm_caps.PcmCaps.{PcmCaps}
use Rattle.tplg_widgets.specs.Entries.{interpreted}
use Rattle.tplg_graph.specs.PlanOf.{plan_on}
use Rattle.tplg_graph.proofs.planning.plan_by.Goals as goal

pub returns-clause-lists : goal.returns-clause-lists
returns-clause-lists c =
    let parts = c.interpreted-parts.ensures.value ∙ ap interpreted c.widgets-widgets.ensures in
    subst (λ (q : List EntryValue × List EntryValue × List PcmCaps × List Join). IfOk c.plan_over.result (λ p. p ≡ plan_on q.0 q.1 q.2 q.3)) (λ i. (c.widgets-widgets.ensures i, parts i, c.pcms.ensures i, c.joins.ensures i)) c.plan_over.ensures.lists
