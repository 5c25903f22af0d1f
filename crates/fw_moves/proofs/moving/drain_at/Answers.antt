use Rattle.std.proofs.Common.{◌≡◌, sym, ap, ◌∙◌, subst, ◌≤◌, ◌==◌, List, length, Some, arith}
use Rattle.std.specs.Prelude.{find}
use Rattle.sof_base.specs.Samples.{Frame}
use Rattle.fw_units.specs.declared.component.Component.{Component}
use Rattle.fw_units.proofs.Putting.{taken-put}
use Rattle.fw_units.proofs.Standing.{frames-is}
use Rattle.fw_units.proofs.Taking.{taken-found}
use Rattle.fw_moves.proofs.moving.drain_at.Goals as goal

pub index_mut-requires : goal.index_mut-requires
index_mut-requires c = omega (arith, c.requires.within, c.args.buffers.now.ok.0)

pub take-requires : goal.take-requires
take-requires c =
    let bs = c.args.buffers.now.items in let b = c.args._inlet in let x = c.index_mut.result.now in
    let it : Some x ≡ find (λ (y : Component). y.id == b) bs = ap (λ (y : Component). Some y) c.index_mut.ensures.value ∙ taken-found b bs c.args.at x c.requires.place in
    subst (λ (fs : List Frame). c.args.n ≤ length fs) (sym (frames-is b bs x it)) c.requires.held

pub returns-clause-items : goal.returns-clause-items
returns-clause-items c = taken-put c.args._inlet c.args.at c.args.buffers.now.items c.index_mut.result.now c.take.new.self c.requires.ascends c.requires.place c.index_mut.ensures.value c.args.n c.take.ensures
