use Rattle.std.proofs.Common.{sym, ap, ◌∙◌}
use Rattle.std.specs.Option.{option_copied}
use Rattle.tplg_widgets.proofs.FirstValues.{text_of-drop, text_of-none, found, missed}
use Rattle.tplg_widgets.proofs.tokens.text_of.Goals as goal

pub returns-in-Some : goal.returns-in-Some
returns-in-Some c = found _ _ _ _ _ c.loop-array.invariant (text_of-drop c.args.arrays.now c.loop-array.array-index c.array-item.result c.args.token c.loop-array-test.true c.array-item.is) (sym c.text_in.ensures ∙ ap option_copied c.in-Some.is)

pub loop-array-preserved : goal.loop-array-preserved
loop-array-preserved c = missed _ _ _ _ c.loop-array.invariant (text_of-drop c.args.arrays.now c.loop-array.array-index c.array-item.result c.args.token c.loop-array-test.true c.array-item.is) (sym c.text_in.ensures ∙ ap option_copied c.in_default.is)

pub returns : goal.returns
returns c = sym (text_of-none c.args.arrays.now c.loop-array.array-index c.args.token c.loop-array-test.false) ∙ c.loop-array.invariant
