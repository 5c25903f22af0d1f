use Rattle.std.proofs.Common.{◌≡◌, ◌++◌, take}
use Rattle.std.specs.List.{flat_map}
use Rattle.tplg_source.specs.SourceText.{widget_text}
use Rattle.tplg_source.proofs.texts.say_widgets.Given as goal

abbrev pub invariant-loop-widget : goal.invariant-loop-widget
invariant-loop-widget l = l.out.items ≡ l.fn.out.items ++ flat_map widget_text (take l.widget-index l.widgets)
