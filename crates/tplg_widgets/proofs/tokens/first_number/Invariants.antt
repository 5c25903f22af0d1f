use Rattle.std.proofs.Common.{◌≡◌, drop}
use Rattle.tplg_model.specs.TokenValues.{first_number}
use Rattle.tplg_widgets.proofs.tokens.first_number.Given as goal

abbrev pub invariant-loop-item : goal.invariant-loop-item
invariant-loop-item l = first_number (drop l.item-index l.items) l.token ≡ first_number l.items l.token
