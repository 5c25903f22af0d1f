use Rattle.host_pm.proofs.ScratchTaken.{from-scratch}
use Rattle.host_pm.proofs.laws.incremental_equals_from_scratch.Goals as goal

pub returns : goal.returns
returns c = λ plan heap kept sound is fits. from-scratch plan heap kept sound is fits
