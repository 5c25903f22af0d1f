use Rattle.std.proofs.Common.{refl}
use Rattle.stream_law.proofs.Standing.{Stands-cut}
use Rattle.stream_law.proofs.laws.cut_law.Goals as goal

pub returns : goal.returns
unfolding Stands-cut
returns c = λ whole inputs moments before. (Stands-cut whole inputs moments before, refl)
