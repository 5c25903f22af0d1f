use Rattle.std.proofs.Common.{◌≡◌, ◌++◌, map, take}
use Rattle.tplg_model.specs.Arrays.{Each}
use Rattle.tplg_model.specs.Spelling.{IsBlock}
use Rattle.tplg_build.specs.TopologyForm.{widget_block}
use Rattle.tplg_build.proofs.building.put_widgets.Given as goal

abbrev pub invariant-loop-widget : goal.invariant-loop-widget
invariant-loop-widget l = (l.blocks ≡ l.fn.blocks ++ map widget_block (take l.widget-index l.widgets)) × (Each IsBlock l.fn.blocks → Each IsBlock l.blocks)
