use Rattle.std.proofs.Common.{ap, ◌∙◌, List, subst, OnOk, IfErr}
use Rattle.stream_law.specs.declared.graph.Join.{Join}
use Rattle.tplg_widgets.specs.EntryValue.{EntryValue}
use Rattle.tplg_widgets.specs.Entries.{interpreted}
use Rattle.tplg_walks.specs.Rules.{AllHold}
use Rattle.tplg_rules.specs.WellFormed.{way_rules}
use Rattle.tplg_rules.specs.RuleFaults.{IsFaultOf}
use Rattle.tplg_rules.proofs.checking.check_counted.Goals as goal

pub returns-clause-ok : goal.returns-clause-ok
returns-clause-ok c =
    let parts = c.interpreted-parts.ensures.value ∙ ap interpreted c.widgets.ensures in
    subst (λ (p : List EntryValue × List Join). OnOk c.check_ways.result (AllHold (way_rules p.0 p.1))) (λ i. (parts i, c.joins.ensures i)) c.check_ways.ensures.ok

pub returns-clause-err : goal.returns-clause-err
returns-clause-err c =
    let parts = c.interpreted-parts.ensures.value ∙ ap interpreted c.widgets.ensures in
    subst (λ (p : List EntryValue × List Join). IfErr c.check_ways.result (IsFaultOf (way_rules p.0 p.1))) (λ i. (parts i, c.joins.ensures i)) c.check_ways.ensures.err
