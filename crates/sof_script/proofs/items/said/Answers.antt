use Rattle.std.proofs.Common.{ap, ◌∙◌, Option}
use Rattle.sof_script.specs.declared.words.Word.{Word}
use Rattle.sof_script.specs.TokenStarts.{texts}
use Rattle.sof_script.specs.Words.{behind_word}
use Rattle.sof_script.proofs.WordLaws.{said-by-word, if-said}
use Rattle.sof_script.proofs.items.said.Goals as goal

pub returns-in-Some : goal.returns-in-Some
returns-in-Some c = if-said c.meant.result c.args.first.now (texts c.args.args.now) c.in-Some.word c.in-Some.ensures c.meant.ensures

pub returns-in-None : goal.returns-in-None
returns-in-None c = ap (λ (o : Option Word). behind_word o (texts c.args.args.now)) c.in-None.ensures ∙ said-by-word c.args.first.now (texts c.args.args.now)
