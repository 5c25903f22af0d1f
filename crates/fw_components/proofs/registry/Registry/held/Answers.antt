use Rattle.std.proofs.Common.{◌∙◌, ap, ◌==◌, List}
use Rattle.std.specs.Prelude.{position}
use Rattle.fw_units.specs.declared.component.Component.{Component}
use Rattle.fw_components.specs.Tables.{Tables}
use Rattle.fw_units.specs.Changes.{has_id}
use Rattle.fw_components.proofs.registry.Registry.held.Goals as goal

pub place-at-requires-clause-there : goal.place-at-requires-clause-there
place-at-requires-clause-there c = ap (λ (cs : List Component). has_id cs c.args.buffer) c.as_slice.ensures.value ∙ ap (λ (t : Tables). has_id t.buffers c.args.buffer) c.self.view_is ∙ c.requires

pub held_at-requires : goal.held_at-requires
held_at-requires c =
    c.place-at.ensures.place
    ∙ ap (position (λ (y : Component). y.id == c.args.buffer)) c.as_slice.ensures.value
    ∙ ap (λ (t : Tables). position (λ (y : Component). y.id == c.args.buffer) t.buffers) c.self.view_is

pub returns : goal.returns
returns c = c.held_at.ensures
