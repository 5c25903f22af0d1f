use Rattle.std.proofs.Common.{ap, ◌∙◌, List, ◌==◌}
use Rattle.std.specs.Prelude.{find, option_and_then}
use Rattle.fw_units.specs.declared.component.Component.{Component}
use Rattle.stream_law.specs.declared.graph.Edge.{Edge}
use Rattle.fw_units.specs.Units.{edge_by, source_by}
use Rattle.fw_walks.proofs.Naming.{found-then}
use Rattle.fw_walks.proofs.lookups.source_at.Goals as goal

pub returns-in-Some : goal.returns-in-Some
returns-in-Some c =
    c.source_in.ensures
    ∙ ap (option_and_then (λ (x : Component). source_by x.unit)) c.in-Some.ensures
    ∙ ap (λ (cs : List Component). option_and_then (λ (x : Component). source_by x.unit) (find (λ x. x.id == c.args.buffer) cs)) c.buffers.ensures.items
    ∙ found-then (λ (e : Edge). e.buffer == c.args.buffer) edge_by (λ (e : Edge). e.source) c.args.registry.now.buffers

pub returns-in-None : goal.returns-in-None
returns-in-None c =
    ap (option_and_then (λ (x : Component). source_by x.unit)) c.in-None.ensures
    ∙ ap (λ (cs : List Component). option_and_then (λ (x : Component). source_by x.unit) (find (λ x. x.id == c.args.buffer) cs)) c.buffers.ensures.items
    ∙ found-then (λ (e : Edge). e.buffer == c.args.buffer) edge_by (λ (e : Edge). e.source) c.args.registry.now.buffers
