use Rattle.std.proofs.Common.{refl}
use Rattle.stream_law.proofs.Filled.{Stands-filled}
use Rattle.stream_law.proofs.laws.fill_law.Goals as goal

pub returns : goal.returns
unfolding Stands-filled
returns c = λ device whole inputs inputs' moments slot more before within fills. (Stands-filled device whole inputs inputs' moments slot more before within fills, refl)
