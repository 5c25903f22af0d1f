use Rattle.std.proofs.Common.{◌≡◌, ◌∙◌, ap, Some, ◌==◌}
use Rattle.std.specs.Prelude.{find}
use Rattle.fw_units.specs.declared.component.Component.{Component}
use Rattle.fw_units.proofs.Standing.{channels-is}
use Rattle.fw_units.proofs.Taking.{taken-found}
use Rattle.fw_moves.proofs.PlaceLaws.{within}
use Rattle.fw_moves.proofs.moving.width_of.Goals as goal

pub bounds-buffers-at : goal.bounds-buffers-at
bounds-buffers-at c = within (λ (y : Component). y.id == c.args._id) c.args.buffers.now c.args.at c.requires.place

pub returns-clause-is : goal.returns-clause-is
returns-clause-is c =
    let cs = c.args.buffers.now in
    let it : Some c.index-buffers-at.result ≡ find (λ (y : Component). y.id == c.args._id) cs = ap (λ (x : Component). Some x) c.index-buffers-at.is ∙ taken-found c.args._id cs c.args.at _ c.requires.place in
    c.frame_samples.ensures.is ∙ channels-is c.args._id cs c.index-buffers-at.result it
