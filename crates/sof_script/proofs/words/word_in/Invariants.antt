use Rattle.std.proofs.Common.{◌≡◌, drop}
use Rattle.sof_script.specs.Words.{word_listed, listed_words}
use Rattle.sof_script.proofs.words.word_in.Given as goal

abbrev pub invariant-loop-text : goal.invariant-loop-text
invariant-loop-text l = word_listed l.token (listed_words (drop l.text-index l.words)) ≡ word_listed l.token (listed_words l.words)
