use Rattle.std.proofs.Common.{map, take, drop}
use Rattle.fw_schedule.specs.Ticks.{io_of}
use Rattle.fw_schedule.specs.Stages.{audio_from}
use Rattle.fw_schedule.proofs.InTurn.{IsOnWay}
use Rattle.fw_schedule.proofs.ticking.tick_by.Given as goal

-- the components of the first steps have moved, and the others are left
abbrev pub invariant-loop-i : goal.invariant-loop-i
invariant-loop-i l =
    IsOnWay l.fn.registry (io_of l.fn.io l.fn.out) l.clock (audio_from l.fn.registry (io_of l.fn.io l.fn.out))
    (take l.i (map (λ s. s.id) l.steps)) (drop l.i (map (λ s. s.id) l.steps))
    l.registry l.io l.out
