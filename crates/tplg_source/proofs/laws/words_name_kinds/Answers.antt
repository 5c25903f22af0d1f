use Rattle.tplg_source.proofs.KindWords.{named-again}
use Rattle.tplg_source.proofs.laws.words_name_kinds.Goals as goal

pub returns : goal.returns
returns c = named-again
