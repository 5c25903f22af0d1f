use Rattle.std.proofs.Common.{◌≡◌, ◌++◌, map, take}
use Rattle.tplg_widgets.specs.Entries.{entry_of}
use Rattle.tplg_widgets.proofs.entry.add_widgets.Given as goal

abbrev pub invariant-loop-widget : goal.invariant-loop-widget
invariant-loop-widget l = l.out.items ≡ l.initial.out.items ++ map (entry_of l.index) (take l.widget-index l.widgets)
