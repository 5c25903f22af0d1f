use Rattle.std.proofs.Common.{◌≡◌, drop}
use Rattle.tplg_model.specs.TokenValues.{number_of}
use Rattle.tplg_widgets.proofs.tokens.number_of.Given as goal

abbrev pub invariant-loop-array : goal.invariant-loop-array
invariant-loop-array l = number_of (drop l.array-index l.arrays) l.token ≡ number_of l.arrays l.token
