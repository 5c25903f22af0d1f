use Rattle.std.proofs.Common.{sym, ap, ◌∙◌, ℕ, Option}
use Rattle.tplg_widgets.proofs.FirstValues.{number_of-drop, number_of-none, found, missed}
use Rattle.tplg_widgets.proofs.tokens.number_of.Goals as goal

pub returns-in-Some : goal.returns-in-Some
returns-in-Some c = found _ _ _ _ _ c.loop-array.invariant (number_of-drop c.args.arrays.now c.loop-array.array-index c.array-item.result c.args.token c.loop-array-test.true c.array-item.is) (sym c.number_in.ensures ∙ ap (λ (o : Option ℕ). o) c.in-Some.is)

pub loop-array-preserved : goal.loop-array-preserved
loop-array-preserved c = missed _ _ _ _ c.loop-array.invariant (number_of-drop c.args.arrays.now c.loop-array.array-index c.array-item.result c.args.token c.loop-array-test.true c.array-item.is) (sym c.number_in.ensures ∙ ap (λ (o : Option ℕ). o) c.in_default.is)

pub returns : goal.returns
returns c = sym (number_of-none c.args.arrays.now c.loop-array.array-index c.args.token c.loop-array-test.false) ∙ c.loop-array.invariant
