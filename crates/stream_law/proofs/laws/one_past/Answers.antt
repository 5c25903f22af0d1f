use Rattle.stream_law.specs.Past.{start}
use Rattle.stream_law.proofs.OnePast.{leads_same}
use Rattle.stream_law.proofs.laws.one_past.Goals as goal

pub returns : goal.returns
returns c = λ whole moments a b ranked first second. leads_same whole moments start a b ranked first second
