-- how many ids are left
use Rattle.std.proofs.Common.{◌-◌}
use Rattle.fw_tests.proofs.filled.+is_filled.Given as goal

abbrev pub decreases-is_filled : goal.decreases-is_filled
decreases-is_filled l = 129 - l.id
