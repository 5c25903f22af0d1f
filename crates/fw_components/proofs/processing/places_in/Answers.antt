use Rattle.std.proofs.Common.{◌≡◌, sym, ap, ◌∙◌, ℕ, ◌==◌, [], ◌∷◌, ◌++◌, map, take, length-take, get_or, Option, Some, true, lit<, arith}
use Rattle.std.proofs.lemmas.List.{take_all, take_more, map-append}
use Rattle.std.specs.Prelude.{position}
use Rattle.fw_units.specs.declared.component.Component.{Component}
use Rattle.fw_units.specs.Changes.{has_id}
use Rattle.fw_moves.proofs.MadeLaws.{all-at}
use Rattle.fw_moves.proofs.PlaceLaws.{length-places}
use Rattle.fw_components.proofs.processing.places_in.Goals as goal

pub place-at-requires-clause-there : goal.place-at-requires-clause-there
place-at-requires-clause-there c = all-at (λ b. has_id c.args.buffers.now b ≡ true) c.args.ids.now c.loop-i.i 0 c.loop-i-test.true c.requires.there

pub overflow_cast-place : goal.overflow_cast-place
overflow_cast-place c = omega (arith, c.place-at.ensures.within, c.requires.few.1)

pub push-requires : goal.push-requires
push-requires c = (lit< tt, omega (arith, length-places c.args.buffers.now (take c.loop-i.i c.args.ids.now) c.loop-i.places.items c.loop-i.invariant, length-take c.loop-i.i c.args.ids.now, c.loop-i-test.true, c.requires.few.0))

pub loop-i-init : goal.loop-i-init
loop-i-init c = ap (map (λ (k : ℕ). Some k)) c.new-places.ensures

pub loop-i-preserved : goal.loop-i-preserved
loop-i-preserved c =
    let at : ℕ → Option ℕ = λ b. position (λ (y : Component). y.id == b) c.args.buffers.now in
    let b = get_or c.args.ids.now c.loop-i.i 0 in
    ap (map (λ (k : ℕ). Some k)) c.push.ensures.items
    ∙ map-append (λ (k : ℕ). Some k) c.loop-i.places.items (c.place-at.result ∷ [])
    ∙ (λ i. c.loop-i.invariant i ++ c.place-at.ensures.place i ∷ [])
    ∙ sym (map-append at (take c.loop-i.i c.args.ids.now) (b ∷ []))
    ∙ ap (map at) (sym (take_more c.args.ids.now c.loop-i.i 0 c.loop-i-test.true))

pub returns : goal.returns
returns c = c.loop-i.invariant ∙ ap (map (λ b. position (λ (y : Component). y.id == b) c.args.buffers.now)) (take_all c.loop-i.i c.args.ids.now (omega (arith, c.loop-i-test.false)))
