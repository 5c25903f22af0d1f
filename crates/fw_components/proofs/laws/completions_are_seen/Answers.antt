use Rattle.fw_components.proofs.SeenLaws.{completions}
use Rattle.fw_components.proofs.laws.completions_are_seen.Goals as goal

pub returns : goal.returns
returns c id xs all = completions id xs all
