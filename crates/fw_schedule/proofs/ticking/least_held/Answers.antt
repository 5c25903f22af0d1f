use Rattle.std.proofs.Common.{sym, ap, ◌∙◌, ℕ, min, map, length, List, Some, arith}
use Rattle.std.proofs.lemmas.List.{take_all}
use Rattle.stream_law.specs.Moves.{least}
use Rattle.fw_components.specs.Tables.{held_frames}
use Rattle.fw_moves.proofs.PlaceLaws.{length-places, place-at}
use Rattle.fw_schedule.proofs.Least.{least-more}
use Rattle.fw_schedule.proofs.ticking.least_held.Goals as goal

pub held_at-requires : goal.held_at-requires
held_at-requires c = ap (λ (n : ℕ). Some n) c.from.ensures ∙ place-at c.args.registry.now.buffers c.args.looked.now c.args.from.now c.loop-i.i c.requires c.loop-i-test.true

pub bounds-from-i : goal.bounds-from-i
bounds-from-i c = omega (arith, c.loop-i-test.true, length-places c.args.registry.now.buffers c.args.looked.now c.args.from.now c.requires)

pub loop-i-preserved : goal.loop-i-preserved
loop-i-preserved c =
    let f : ℕ → ℕ = λ b. length (held_frames c.args.registry.now b) in
    c.min-n.ensures
    ∙ (λ i. min (c.loop-i.invariant i) (c.held_at.ensures i))
    ∙ sym (least-more f c.args.most c.args.looked.now c.loop-i.i 0 c.loop-i-test.true)

pub returns : goal.returns
returns c = c.loop-i.invariant ∙ ap (λ (xs : List ℕ). least c.args.most (map (λ b. length (held_frames c.args.registry.now b)) xs)) (take_all c.loop-i.i c.args.looked.now (omega (arith, c.loop-i-test.false)))
