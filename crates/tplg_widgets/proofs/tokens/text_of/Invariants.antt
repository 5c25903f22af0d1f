use Rattle.std.proofs.Common.{◌≡◌, drop}
use Rattle.tplg_model.specs.TokenValues.{text_of}
use Rattle.tplg_widgets.proofs.tokens.text_of.Given as goal

abbrev pub invariant-loop-array : goal.invariant-loop-array
invariant-loop-array l = text_of (drop l.array-index l.arrays) l.token ≡ text_of l.arrays l.token
