use Rattle.std.proofs.Common.{ap, ◌∙◌, List, ◌==◌, option_map}
use Rattle.std.specs.Prelude.{find}
use Rattle.stream_law.specs.declared.graph.Pipe.{Pipe}
use Rattle.fw_units.specs.declared.component.Component.{Component}
use Rattle.fw_units.specs.Units.{pipe_by}
use Rattle.fw_walks.proofs.Naming.{found-shown}
use Rattle.fw_pipeline.proofs.freeing.pipeline_index.Goals as goal

pub returns-clause-found : goal.returns-clause-found
returns-clause-found c =
    c.pipe_in.ensures
    ∙ ap (λ (cs : List Component). option_map (λ (x : Component). x.pipe) (find (λ x. x.id == c.args.id) cs)) c.pipes.ensures.items
    ∙ found-shown (λ (p : Pipe). p.id == c.args.id) pipe_by (λ (p : Pipe). p.index) c.args.registry.now.pipes
