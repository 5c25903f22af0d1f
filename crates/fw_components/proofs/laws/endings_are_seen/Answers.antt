use Rattle.fw_components.proofs.SeenFrames.{edges-ended, rings-ended}
use Rattle.fw_components.proofs.laws.endings_are_seen.Goals as goal

pub returns-clause-edges : goal.returns-clause-edges
returns-clause-edges c id xs = edges-ended id xs

pub returns-clause-rings : goal.returns-clause-rings
returns-clause-rings c id xs = rings-ended id xs
