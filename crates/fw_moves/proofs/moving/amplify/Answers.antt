use Rattle.std.proofs.Common.{◌≡◌, sym, ap, ◌∙◌, ◌<◌, false, length, get_or, arith}
use Rattle.stream_law.specs.Order.{is_among}
use Rattle.fw_units.specs.declared.component.Unit.TheVariants.{Volume}
use Rattle.fw_moves.specs.Processed.{IsInlet, IsOutlet, run_unit}
use Rattle.fw_moves.proofs.Draining.{drained-single}
use Rattle.fw_moves.proofs.MadeLaws.{all-at}
use Rattle.fw_moves.proofs.OutletLaws.{fed-some}
use Rattle.fw_moves.proofs.Amplifying.{looked-one, outlet-apart, inlet-still, place-still, long-still, mid-ascending, amplify-moves, gains_by}
use Rattle.fw_moves.proofs.moving.amplify.Goals as goal

pub bounds-looked-0 : goal.bounds-looked-0
bounds-looked-0 c = let one = looked-one c.args.component.now.unit (length c.args.looked.now) c.requires.past c.requires.can.kind in omega (arith, one)

pub bounds-fed-0 : goal.bounds-fed-0
bounds-fed-0 c = fed-some c.args.component.now.unit c.args.fed.now c.requires.can.feeds

pub amplify_over-requires-clause-apart : goal.amplify_over-requires-clause-apart
amplify_over-requires-clause-apart c =
    let looked = c.args.looked.now in let fed = c.args.fed.now in
    let one = looked-one c.args.component.now.unit (length looked) c.requires.past c.requires.can.kind in
    outlet-apart looked (get_or fed 0 0) (omega (arith, one)) (all-at (λ b. is_among looked b ≡ false) fed 0 0 (fed-some c.args.component.now.unit fed c.requires.can.feeds) c.requires.can.apart)

pub amplify_over-requires-clause-inlet : goal.amplify_over-requires-clause-inlet
amplify_over-requires-clause-inlet c =
    let x = c.args.component.now in let looked = c.args.looked.now in
    let one = looked-one x.unit (length looked) c.requires.past c.requires.can.kind in
    all-at (IsInlet c.args.buffers.now.items x.channels c.args.n) looked 0 0 (omega (arith, one)) c.requires.can.inlets

pub amplify_over-requires-clause-outlet : goal.amplify_over-requires-clause-outlet
amplify_over-requires-clause-outlet c =
    let x = c.args.component.now in let fed = c.args.fed.now in
    all-at (IsOutlet c.args.buffers.now.items x.channels c.args.n) fed 0 0 (fed-some x.unit fed c.requires.can.feeds) c.requires.can.outlets

pub drain_at-requires-clause-ascends : goal.drain_at-requires-clause-ascends
drain_at-requires-clause-ascends c = mid-ascending c.args.buffers.now.items c.amplify_over.new.buffers.items c.args.component.now.channels c.args.n (get_or c.args.fed.now 0 0) _ _ c.amplify_over.ensures.items c.requires.can.ascends

pub drain_at-requires-clause-place : goal.drain_at-requires-clause-place
drain_at-requires-clause-place c = place-still c.args.buffers.now.items c.amplify_over.new.buffers.items c.args.component.now.channels c.args.n (get_or c.args.fed.now 0 0) _ _ c.amplify_over.ensures.items (get_or c.args.looked.now 0 0) c.args.from c.requires.from

pub drain_at-requires-clause-within : goal.drain_at-requires-clause-within
drain_at-requires-clause-within c =
    let long = long-still c.args.buffers.now.items c.amplify_over.new.buffers.items c.args.component.now.channels c.args.n (get_or c.args.fed.now 0 0) _ _ c.amplify_over.ensures.items in
    omega (arith, long, c.requires.within.0)

pub drain_at-requires-clause-held : goal.drain_at-requires-clause-held
drain_at-requires-clause-held c =
    let x = c.args.component.now in let bs = c.args.buffers.now.items in let mid = c.amplify_over.new.buffers.items in let looked = c.args.looked.now in let fed = c.args.fed.now in let n = c.args.n in
    let one = looked-one x.unit (length looked) c.requires.past c.requires.can.kind in
    let some : 0 < length looked = omega (arith, one) in
    let apart = outlet-apart looked (get_or fed 0 0) some (all-at (λ b. is_among looked b ≡ false) fed 0 0 (fed-some x.unit fed c.requires.can.feeds) c.requires.can.apart) in
    let inlet = all-at (IsInlet bs x.channels n) looked 0 0 some c.requires.can.inlets in
    (inlet-still bs mid x.channels n (get_or fed 0 0) _ _ c.amplify_over.ensures.items (get_or looked 0 0) apart inlet).held

pub returns-in-Volume-clause-moved : goal.returns-in-Volume-clause-moved
returns-in-Volume-clause-moved c chosen outputs =
    let x = c.args.component.now in let bs = c.args.buffers.now.items in let looked = c.args.looked.now in let fed = c.args.fed.now in let n = c.args.n in
    let v = c.in-Volume in let mid = c.amplify_over.new.buffers.items in
    let one = looked-one x.unit (length looked) c.requires.past c.requires.can.kind in
    amplify-moves bs looked fed n x c.requires.can c.amplify_over.ensures.some c.requires.past c.items.result.now (ap gains_by v.is ∙ sym c.items.ensures.value) mid c.drain_at.new.buffers.items _
    c.amplify_over.ensures.items (c.drain_at.ensures.items ∙ drained-single looked n mid one) c.amplify_over.ensures.frames
    (λ i. record { id = x.id; pipe = x.pipe; channels = x.channels; unit = (ap (λ k. Volume v.gains v.ramp v.from k v.length v.piece) c.done_after.ensures ∙ ap (run_unit v.piece.words n) (sym v.is)) i })
    chosen outputs
