use Rattle.sof_script.proofs.ItemLaws.{Counted}
use Rattle.sof_script.proofs.items.numbers.Given as goal

abbrev pub invariant-loop-token : goal.invariant-loop-token
invariant-loop-token l = Counted l.tokens l.token-index l.numbers.items
