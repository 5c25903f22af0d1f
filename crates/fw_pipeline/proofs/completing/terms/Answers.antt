use Rattle.std.proofs.Common.{ap, ◌∙◌, List, ◌==◌, Some, option_map}
use Rattle.std.specs.Prelude.{find}
use Rattle.fw_units.specs.declared.component.Component.{Component}
use Rattle.fw_units.specs.Units.{pipe_by}
use Rattle.fw_pipeline.specs.Rows.{terms_by}
use Rattle.fw_pipeline.proofs.CompletingRow.{terms-found}
use Rattle.fw_pipeline.proofs.completing.terms.Goals as goal

pub returns-in-Some-clause-found : goal.returns-in-Some-clause-found
returns-in-Some-clause-found c =
    ap Some c.terms_of.ensures
    ∙ ap (option_map (λ (x : Component). terms_by (pipe_by x))) c.in-Some.ensures
    ∙ ap (λ (cs : List Component). option_map (λ (x : Component). terms_by (pipe_by x)) (find (λ x. x.id == c.args.id) cs)) c.pipes.ensures.items
    ∙ terms-found c.args.registry.now.pipes c.args.id

pub returns-in-None-clause-found : goal.returns-in-None-clause-found
returns-in-None-clause-found c =
    ap (option_map (λ (x : Component). terms_by (pipe_by x))) c.in-None.ensures
    ∙ ap (λ (cs : List Component). option_map (λ (x : Component). terms_by (pipe_by x)) (find (λ x. x.id == c.args.id) cs)) c.pipes.ensures.items
    ∙ terms-found c.args.registry.now.pipes c.args.id
