use Rattle.std.proofs.Common.{◌≡◌, ◌∙◌, sym, ap, ◌+◌, ◌==◌, length, Some, arith}
use Rattle.std.specs.Prelude.{position, find}
use Rattle.fw_units.specs.declared.component.Component.{Component}
use Rattle.fw_components.specs.Tables.{Tables, held_frames, capacity_at}
use Rattle.fw_components.specs.Laid.{tables_of}
use Rattle.fw_units.proofs.Taking.{taken-found}
use Rattle.fw_components.proofs.Going.{buffer-at}
use Rattle.fw_moves.proofs.PlaceLaws.{within}
use Rattle.fw_components.proofs.registry.Registry.free_at.Goals as goal

pub index-requires : goal.index-requires
index-requires c = omega (arith, within (λ (y : Component). y.id == c.args._buffer) (tables_of c.self.inside).buffers c.args.at (c.requires ∙ sym (ap (λ (t : Tables). position (λ (y : Component). y.id == c.args._buffer) t.buffers) c.self.view_is)), c.self.inside.buffers.ok.0)

pub returns : goal.returns
returns c =
    let t = tables_of c.self.inside in
    let x = c.index.result.now in
    let it : Some x ≡ find (λ y. y.id == c.args._buffer) t.buffers = ap (λ (y : Component). Some y) c.index.ensures ∙ taken-found c.args._buffer t.buffers c.args.at x (c.requires ∙ sym (ap (λ (t : Tables). position (λ (y : Component). y.id == c.args._buffer) t.buffers) c.self.view_is)) in
    let frames = (buffer-at t c.args._buffer c.args.at x it).0 ∙ ap (λ (t : Tables). held_frames t c.args._buffer) c.self.view_is in
    let room = (buffer-at t c.args._buffer c.args.at x it).1 ∙ ap (λ (t : Tables). capacity_at t c.args._buffer) c.self.view_is in
    ap (λ fs. c.room.result + length fs) (sym frames) ∙ c.room.ensures ∙ room
