use Rattle.fw_components.proofs.SeenFrames.{edges-joined, rings-joined}
use Rattle.fw_components.proofs.laws.joins_are_seen.Goals as goal

pub returns-clause-edges : goal.returns-clause-edges
returns-clause-edges c j xs all = edges-joined j xs all

pub returns-clause-rings : goal.returns-clause-rings
returns-clause-rings c j xs = rings-joined j xs
