use Rattle.std.proofs.Common.{◌≡◌, ◌++◌, take, drop}
use Rattle.sof_base.specs.Slots.{until_zero}
use Rattle.tplg_widgets.proofs.tokens.before_zero.Given as goal

abbrev pub invariant-loop-i : goal.invariant-loop-i
invariant-loop-i l = take l.i l.bytes ++ until_zero (drop l.i l.bytes) ≡ until_zero l.bytes
