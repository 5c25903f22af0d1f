use Rattle.std.proofs.Common.{◌≡◌, ◌++◌, map, take}
use Rattle.tplg_picture.specs.ShownNames.{live_name}
use Rattle.tplg_picture.proofs.shown.add_live_names.Given as goal

abbrev pub invariant-loop-entry : goal.invariant-loop-entry
invariant-loop-entry l = l.out ≡ l.fn.out ++ map live_name (take l.entry-index l.entries)
