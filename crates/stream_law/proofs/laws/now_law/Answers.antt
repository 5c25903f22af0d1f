use Rattle.std.proofs.Common.{refl}
use Rattle.stream_law.proofs.Standing.{Stands-now}
use Rattle.stream_law.proofs.laws.now_law.Goals as goal

pub returns : goal.returns
unfolding Stands-now
returns c = λ f f' v fresh whole inputs moments before sees agrees stays. (Stands-now f f' v fresh whole inputs moments before sees agrees stays, refl)
