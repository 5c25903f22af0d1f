use Rattle.std.proofs.Common.{◌∙◌, sym}
use Rattle.std.proofs.lemmas.Bool.{true≢false}
use Rattle.fw_units.proofs.Found.{never-there}
use Rattle.fw_units.proofs.hints.Hints.place.Goals as goal

pub unreachable-requires : goal.unreachable-requires
unreachable-requires c = true≢false (sym c.requires.there ∙ never-there c.args.id c.args.components.now c.in-None.ensures)
