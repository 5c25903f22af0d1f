use Rattle.std.proofs.Common.{length, ap, ◌∙◌, arith}
use Rattle.tplg_widgets.specs.Entries.{interpreted}
use Rattle.tplg_widgets.proofs.widgets.Widgets.interpreted.Goals as goal

pub returns-clause-few : goal.returns-clause-few
returns-clause-few c = let n = ap length (c.self.invariant.parts ∙ ap interpreted c.self.view_is) in omega (arith, n, c.self.invariant.parts_few)
