use Rattle.std.proofs.Common.{◌≡◌, drop}
use Rattle.mbox_link.specs.Meetings.{planned}
use Rattle.mbox_link.specs.Fates.{AllMeant}
use Rattle.mbox_link.proofs.fates.entry_of.Given as goal

abbrev pub invariant-loop-entry : goal.invariant-loop-entry
invariant-loop-entry l =
    (planned l.entries l.number ≡ planned (drop l.entry-index l.entries) l.number) × AllMeant (drop l.entry-index l.entries)
