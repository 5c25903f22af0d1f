use Rattle.std.proofs.Common.{sym, ap, ◌∙◌, List, ◌&&◌, ◌==◌}
use Rattle.std.specs.List.{list_any}
use Rattle.stream_law.specs.declared.graph.Pipe.{Pipe}
use Rattle.fw_units.specs.declared.component.Component.{Component}
use Rattle.fw_units.specs.Units.{pipe_by, complete_by}
use Rattle.fw_walks.proofs.OnWays.{any-map}
use Rattle.fw_pipeline.proofs.freeing.is_complete.Goals as goal

pub returns : goal.returns
returns c =
    c.any_complete.ensures
    ∙ ap (λ (cs : List Component). list_any (λ p. p.pipe == c.args.index && complete_by p.unit) cs) c.pipes.ensures.items
    ∙ sym (any-map (λ (p : Pipe). p.index == c.args.index && p.complete) pipe_by c.args.registry.now.pipes)
