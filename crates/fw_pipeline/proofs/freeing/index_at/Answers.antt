use Rattle.std.proofs.Common.{ap, ◌∙◌, ℕ, List, ◌==◌, Option, option_map}
use Rattle.std.specs.Prelude.{find}
use Rattle.fw_units.specs.declared.component.Component.{Component}
use Rattle.fw_components.specs.Tables.{Tables}
use Rattle.fw_pipeline.specs.Rows.{first_there}
use Rattle.fw_pipeline.proofs.FreeRows.{index-tables}
use Rattle.fw_pipeline.proofs.freeing.index_at.Goals as goal

pub returns-clause-index : goal.returns-clause-index
returns-clause-index c =
    let t : Tables = c.args.registry.now in
    let at : List Component → Option ℕ = λ cs. option_map (λ (x : Component). x.pipe) (find (λ x. x.id == c.args.id) cs) in
    c.first_of.ensures
    ∙ ap (λ (p : Option ℕ × Option ℕ). first_there p.0 p.1) (λ i. (
      (c.pipe_in-3.ensures ∙ ap at c.comps.ensures.items) i,
      (c.first_of-other.ensures ∙ ap (λ (p : Option ℕ × Option ℕ). first_there p.0 p.1) (λ k. ((c.pipe_in.ensures ∙ ap at c.buffers.ensures.items) k, (c.pipe_in-2.ensures ∙ ap at c.pipes.ensures.items) k))) i,
    ))
    ∙ index-tables t c.args.id
