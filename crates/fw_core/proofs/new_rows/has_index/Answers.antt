use Rattle.std.proofs.Common.{sym, ap, ◌∙◌, List, ◌==◌}
use Rattle.std.specs.List.{list_any}
use Rattle.stream_law.specs.declared.graph.Pipe.{Pipe}
use Rattle.fw_units.specs.declared.component.Component.{Component}
use Rattle.fw_units.specs.Units.{pipe_by}
use Rattle.fw_walks.proofs.OnWays.{any-map}
use Rattle.fw_core.proofs.new_rows.has_index.Goals as goal

pub returns : goal.returns
returns c =
    c.any_of.ensures
    ∙ ap (λ (cs : List Component). list_any (λ p. p.pipe == c.args.index) cs) c.pipes.ensures.items
    ∙ sym (any-map (λ (p : Pipe). p.index == c.args.index) pipe_by c.args.registry.now.pipes)
