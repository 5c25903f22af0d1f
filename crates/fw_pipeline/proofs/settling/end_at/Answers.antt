use Rattle.std.proofs.Common.{◌≡◌, sym, ap, ◌∙◌, List, get_or}
use Rattle.fw_units.specs.declared.component.Component.{Component}
use Rattle.fw_components.specs.Tables.{Tables}
use Rattle.fw_pipeline.specs.Settling.{flows_by, ended_unless}
use Rattle.fw_pipeline.proofs.Settled.{at-any}
use Rattle.fw_pipeline.proofs.settling.end_at.Goals as goal

pub returns-then-not-flows : goal.returns-then-not-flows
returns-then-not-flows c = λ d.
    let t : Tables = c.args.registry.now in let b : Component = c.index-buffers-at.result in
    let is : b ≡ get_or t.buffers c.args.at d = c.index-buffers-at.is ∙ ap (λ (bs : List Component). get_or bs c.args.at b) c.buffers.ensures.items ∙ at-any t.buffers c.args.at b d c.requires.at in
    c.end.ensures
    ∙ ap (λ h. ended_unless h b.id t) (sym (sym c.flows.ensures ∙ c.if-not-flows.true))
    ∙ ap (λ (x : Component). ended_unless (flows_by c.args.places.now.ids c.args.marks.now x) x.id t) is

pub returns-else-not-flows : goal.returns-else-not-flows
returns-else-not-flows c = λ d.
    let t : Tables = c.args.registry.now in let b : Component = c.index-buffers-at.result in
    let is : b ≡ get_or t.buffers c.args.at d = c.index-buffers-at.is ∙ ap (λ (bs : List Component). get_or bs c.args.at b) c.buffers.ensures.items ∙ at-any t.buffers c.args.at b d c.requires.at in
    ap (λ h. ended_unless h b.id t) (sym (sym c.flows.ensures ∙ c.if-not-flows.false))
    ∙ ap (λ (x : Component). ended_unless (flows_by c.args.places.now.ids c.args.marks.now x) x.id t) is
