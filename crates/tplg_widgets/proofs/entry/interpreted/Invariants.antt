use Rattle.std.proofs.Common.{◌≡◌, take}
use Rattle.tplg_widgets.specs.Entries.{interpreted}
use Rattle.tplg_widgets.proofs.entry.interpreted.Given as goal

abbrev pub invariant-loop-entry : goal.invariant-loop-entry
invariant-loop-entry l = l.out.items ≡ interpreted (take l.entry-index l.entries)
