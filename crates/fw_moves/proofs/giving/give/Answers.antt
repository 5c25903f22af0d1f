use Rattle.std.proofs.Common.{sym, ap, ◌∙◌, ◌==◌, ℕ, Some, arith}
use Rattle.std.specs.Prelude.{find}
use Rattle.sof_base.specs.FrameLists.{frames_of}
use Rattle.fw_units.specs.Frames.{words_by}
use Rattle.fw_moves.specs.Processed.{IsOutlet, output_number}
use Rattle.fw_moves.proofs.OutletLaws.{fed-some, given-one}
use Rattle.fw_moves.proofs.MadeLaws.{all-at}
use Rattle.fw_moves.proofs.PlaceLaws.{length-places, place-at}
use Rattle.fw_moves.proofs.giving.give.Goals as goal

pub bounds-fed-0 : goal.bounds-fed-0
bounds-fed-0 c = fed-some c.args.component.now.unit c.args.fed.now c.requires.feeds

pub bounds-to-0 : goal.bounds-to-0
bounds-to-0 c = omega (arith, fed-some c.args.component.now.unit c.args.fed.now c.requires.feeds, length-places c.args.buffers.now.items c.args.fed.now c.args.to.now c.requires.places)

pub put-requires-clause-place : goal.put-requires-clause-place
put-requires-clause-place c = ap (λ (k : ℕ). Some k) c.from.ensures ∙ place-at c.args.buffers.now.items c.args.fed.now c.args.to.now 0 c.requires.places (fed-some c.args.component.now.unit c.args.fed.now c.requires.feeds)

pub put-requires-clause-outlet : goal.put-requires-clause-outlet
put-requires-clause-outlet c =
    let x = c.args.component.now in
    all-at (IsOutlet c.args.buffers.now.items x.channels c.args.n) c.args.fed.now 0 0 (fed-some x.unit c.args.fed.now c.requires.feeds) c.requires.outlets

pub returns-else-splits-clause-items : goal.returns-else-splits-clause-items
returns-else-splits-clause-items c =
    let x = c.args.component.now in
    c.put.ensures.items
    ∙ given-one x.unit x.channels (output_number c.args.joins.now x.id) (frames_of x.channels c.args.n c.args.made.now) (λ b. words_by (find (λ y. y.id == b) c.put.new.buffers.items)) c.args.fed.now c.args.buffers.now.items
    (sym c.splits.ensures ∙ c.if-splits.false) c.requires.feeds
