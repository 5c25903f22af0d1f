use Rattle.std.proofs.Common.{ap, ◌∙◌, List, length}
use Rattle.std.specs.Prelude.{filter}
use Rattle.fw_units.specs.declared.component.Component.{Component}
use Rattle.stream_law.specs.declared.graph.Edge.{Edge}
use Rattle.fw_units.specs.Units.{source_by}
use Rattle.fw_walks.proofs.Naming.{counted-shown}
use Rattle.stream_law.specs.Ways.{is_end}
use Rattle.fw_walks.proofs.lookups.count_outs.Goals as goal

pub returns : goal.returns
returns c =
    c.count_with_source.ensures
    ∙ ap (λ (cs : List Component). length (filter (λ b. is_end (source_by b.unit) c.args.id) cs)) c.buffers.ensures.items
    ∙ counted-shown (λ (e : Edge). e.source) c.args.id c.args.registry.now.buffers c.buffers.ensures.kept.named.buffers
