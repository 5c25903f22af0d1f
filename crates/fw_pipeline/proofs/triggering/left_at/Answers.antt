use Rattle.std.proofs.Common.{◌≡◌, sym, ap, ◌∙◌, ◌==◌, List, Some, None}
use Rattle.std.specs.Prelude.{find, is_some}
use Rattle.fw_units.specs.declared.component.Component.{Component}
use Rattle.fw_pipeline.proofs.TriggerRows.{left-tested, left-given}
use Rattle.fw_pipeline.proofs.triggering.left_at.Goals as goal

pub returns-in-Some-clause-left : goal.returns-in-Some-clause-left
returns-in-Some-clause-left c =
    let t = c.args.registry.now in
    let at : find (λ x. x.id == c.args.host) t.comps ≡ Some c.in-Some.component.now = sym (c.in-Some.ensures ∙ ap (λ (cs : List Component). find (λ x. x.id == c.args.host) cs) c.comps.ensures.items) in
    ap is_some c.left.ensures ∙ left-tested t c.comps.ensures.kept c.args.host c.args.what (Some c.in-Some.component.now) at

pub returns-in-Some-clause-params : goal.returns-in-Some-clause-params
returns-in-Some-clause-params c =
    let t = c.args.registry.now in
    let at : find (λ x. x.id == c.args.host) t.comps ≡ Some c.in-Some.component.now = sym (c.in-Some.ensures ∙ ap (λ (cs : List Component). find (λ x. x.id == c.args.host) cs) c.comps.ensures.items) in
    left-given t c.comps.ensures.kept c.args.host c.args.what (Some c.in-Some.component.now) at c.left.result c.left.ensures

pub returns-in-None-clause-left : goal.returns-in-None-clause-left
returns-in-None-clause-left c =
    let t = c.args.registry.now in
    let at : find (λ x. x.id == c.args.host) t.comps ≡ None = sym (c.in-None.ensures ∙ ap (λ (cs : List Component). find (λ x. x.id == c.args.host) cs) c.comps.ensures.items) in
    left-tested t c.comps.ensures.kept c.args.host c.args.what None at
