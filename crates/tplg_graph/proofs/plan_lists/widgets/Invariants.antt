use Rattle.std.proofs.Common.{◌≡◌, take}
use Rattle.std.specs.Prelude.{All}
use Rattle.tplg_graph.specs.PlanLists.{widgets_on}
use Rattle.tplg_plan.specs.WidgetWords.{FitsWords}
use Rattle.tplg_graph.proofs.plan_lists.widgets.Given as goal

abbrev pub invariant-loop-part : goal.invariant-loop-part
invariant-loop-part l = record {
  values : l.out.items ≡ widgets_on (take l.part-index l.parts);
  fit : All FitsWords l.out.items;
}
