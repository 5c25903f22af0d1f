use Rattle.std.proofs.Common.{◌≡◌, drop}
use Rattle.tplg_model.specs.TokenValues.{first_text}
use Rattle.tplg_widgets.proofs.tokens.first_text.Given as goal

abbrev pub invariant-loop-item : goal.invariant-loop-item
invariant-loop-item l = first_text (drop l.item-index l.items) l.token ≡ first_text l.items l.token
