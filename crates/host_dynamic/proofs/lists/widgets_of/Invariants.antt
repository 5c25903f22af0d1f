use Rattle.std.proofs.Common.{◌≡◌, take}
use Rattle.host_widgets.specs.UpActs.{widgets_of}
use Rattle.host_dynamic.proofs.lists.widgets_of.Given as goal

-- so far the widgets of each index are listed
abbrev pub invariant-loop-index : goal.invariant-loop-index
invariant-loop-index l = l.ids.items ≡ widgets_of l.plan (take l.index-index l.indices)
