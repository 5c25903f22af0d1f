use Rattle.std.proofs.Common.{◌≡◌, drop}
use Rattle.sof_script.specs.Splitting.{all_plain}
use Rattle.sof_script.proofs.scanning.all_may_stand.Given as goal

abbrev pub invariant-loop-byte : goal.invariant-loop-byte
invariant-loop-byte l = all_plain l.bytes ≡ all_plain (drop l.byte-index l.bytes)
