use Rattle.std.proofs.Common.{◌≡◌, sym, subst}
use Rattle.mbox_link.specs.Meetings.{without_entry}
use Rattle.mbox_link.specs.Fates.{AreHeld}
use Rattle.mbox_link.proofs.FateLaws.{Kept-none, Kept-pass-at, Kept-push-at, Kept-end, AreHeld-without}
use Rattle.mbox_link.proofs.fates.others.Goals.{then-entry-number, else-entry-number}
use Rattle.mbox_link.proofs.fates.others.Goals as goal

pub loop-entry-init : goal.loop-entry-init
loop-entry-init c = rw c.new-left.ensures (Kept-none c.args.number c.args.entries.now)

pub loop-entry-preserved : goal.loop-entry-preserved
loop-entry-preserved c = elim c.if-entry-number.branch [
  | then-entry-number w ↦ rw (w.left-is, w.push.ensures.items) (Kept-push-at c.args.number c.loop-entry.left.items c.args.entries.now c.loop-entry.entry-index _ c.loop-entry-test.true w.if-entry-number.true c.loop-entry.invariant)
  | else-entry-number w ↦ rw w.left-is (Kept-pass-at c.args.number c.loop-entry.left.items c.args.entries.now c.loop-entry.entry-index _ c.loop-entry-test.true w.if-entry-number.false c.loop-entry.invariant)
]

pub returns : goal.returns
returns c =
    let left : c.loop-entry.left.items ≡ without_entry c.args.number c.args.entries.now = Kept-end c.args.number c.loop-entry.left.items c.args.entries.now c.loop-entry.entry-index c.loop-entry-test.false c.loop-entry.invariant in
    record {
      left = left;
      left_held = subst AreHeld (sym left) (AreHeld-without c.args.number c.args.entries.now c.requires.held);
    }
