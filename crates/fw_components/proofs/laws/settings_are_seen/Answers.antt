use Rattle.fw_components.proofs.SeenLaws.{streams-set, comps-same}
use Rattle.fw_components.proofs.laws.settings_are_seen.Goals as goal

pub returns-clause-streams : goal.returns-clause-streams
returns-clause-streams c host phase params xs = streams-set host phase params xs

pub returns-clause-comps : goal.returns-clause-comps
returns-clause-comps c host phase params xs = comps-same host phase params xs
