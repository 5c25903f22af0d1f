use Rattle.std.proofs.Common.{sym, ap, ◌∙◌, ◌==◌, ℕ, Some, get_or, arith}
use Rattle.fw_moves.specs.Processed.{chosen_by, output_number}
use Rattle.fw_units.specs.declared.component.Component.{Component}
use Rattle.fw_moves.proofs.PlaceLaws.{length-places, place-at, within}
use Rattle.fw_moves.proofs.moving.copy_between.Goals as goal

pub amplify-requires-clause-from : goal.amplify-requires-clause-from
amplify-requires-clause-from c = ap (λ (k : ℕ). Some k) c.from.ensures ∙ place-at c.args.buffers.now.items c.args.looked.now c.args.from.now 0 c.requires.from (omega (arith, c.requires.one.0))

pub amplify-requires-clause-to : goal.amplify-requires-clause-to
amplify-requires-clause-to c = ap (λ (k : ℕ). Some k) c.from-then-is_past.ensures ∙ place-at c.args.buffers.now.items c.args.fed.now c.args.to.now 0 c.requires.to (omega (arith, c.requires.one.1))

pub amplify-requires-clause-within : goal.amplify-requires-clause-within
amplify-requires-clause-within c =
    let bs = c.args.buffers.now.items in
    let first = ap (λ (k : ℕ). Some k) c.from.ensures ∙ place-at bs c.args.looked.now c.args.from.now 0 c.requires.from (omega (arith, c.requires.one.0)) in
    let second = ap (λ (k : ℕ). Some k) c.from-then-is_past.ensures ∙ place-at bs c.args.fed.now c.args.to.now 0 c.requires.to (omega (arith, c.requires.one.1)) in
    (within (λ (y : Component). y.id == get_or c.args.looked.now 0 0) bs c.from.result first, within (λ (y : Component). y.id == get_or c.args.fed.now 0 0) bs c.from-then-is_past.result second)

pub bounds-from-0 : goal.bounds-from-0
bounds-from-0 c = omega (arith, c.requires.one.0, length-places c.args.buffers.now.items c.args.looked.now c.args.from.now c.requires.from)

pub bounds-to-0 : goal.bounds-to-0
bounds-to-0 c = omega (arith, c.requires.one.1, length-places c.args.buffers.now.items c.args.fed.now c.args.to.now c.requires.to)

pub amplify-requires-clause-past : goal.amplify-requires-clause-past
amplify-requires-clause-past c = sym c.is_past.ensures ∙ c.if-is_past.true

pub returns-then-is_past-clause-moved : goal.returns-then-is_past-clause-moved
returns-then-is_past-clause-moved c = c.amplify.ensures.moved (chosen_by c.args.component.now.unit c.args.component.now.id c.args.joins.now) (output_number c.args.joins.now c.args.component.now.id)
