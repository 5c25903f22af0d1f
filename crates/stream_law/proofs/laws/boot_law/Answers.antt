use Rattle.std.proofs.Common.{refl}
use Rattle.stream_law.proofs.Standing.{Stands-boot}
use Rattle.stream_law.proofs.laws.boot_law.Goals as goal

pub returns : goal.returns
unfolding Stands-boot
returns c = λ f whole inputs moments before booted. (Stands-boot f whole inputs moments before booted, refl)
