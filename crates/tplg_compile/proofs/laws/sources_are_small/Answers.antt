use Rattle.tplg_compile.proofs.StatedSizes.{short-small}
use Rattle.tplg_compile.proofs.laws.sources_are_small.Goals as goal

pub returns : goal.returns
returns c = λ text table t short document is. short-small text table short document t is
