use Rattle.std.proofs.Common.{ap, ◌∙◌, ℕ, length}
use Rattle.std.specs.Prelude.{unwrap_or, Option}
use Rattle.fw_places.proofs.Charts.{place-is}
use Rattle.fw_places.proofs.places.place_of.Goals as goal

pub returns-clause-place : goal.returns-clause-place
returns-clause-place c = c.unwrap_or.ensures ∙ ap (λ (o : Option ℕ). unwrap_or o (length c.args.ids.now)) c.first_of.ensures ∙ place-is c.args.ids.now c.args.id
