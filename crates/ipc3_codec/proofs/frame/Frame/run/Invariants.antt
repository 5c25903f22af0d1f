use Rattle.std.proofs.Common.{◌≡◌, ◌+◌, ◌-◌, ◌*◌}
use Rattle.ipc3_codec.specs.Reading.{run_in}
use Rattle.ipc3_codec.proofs.frame.Frame.run.Given as goal

abbrev pub invariant-loop-i : goal.invariant-loop-i
invariant-loop-i l = run_in l.self l.width l.at l.count ≡ run_in l.self l.width (l.at + l.width * l.i) (l.count - l.i)
