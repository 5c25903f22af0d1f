use Rattle.fw_components.proofs.SeenFrames.{comps-begun, edges-begun, pipes-begun, rings-begun, streams-begun}
use Rattle.fw_components.proofs.laws.beginnings_are_seen.Goals as goal

pub returns-clause-comps : goal.returns-clause-comps
returns-clause-comps c id channels rate words xs = comps-begun id channels rate words xs

pub returns-clause-edges : goal.returns-clause-edges
returns-clause-edges c id channels rate words xs = edges-begun id channels rate words xs

pub returns-clause-pipes : goal.returns-clause-pipes
returns-clause-pipes c id channels rate words xs = pipes-begun id channels rate words xs

pub returns-clause-streams : goal.returns-clause-streams
returns-clause-streams c id channels rate words xs = streams-begun id channels rate words xs

pub returns-clause-rings : goal.returns-clause-rings
returns-clause-rings c id channels rate words xs = rings-begun id channels rate words xs
