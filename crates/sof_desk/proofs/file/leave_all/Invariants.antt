use Rattle.std.proofs.Common.{◌≡◌, ◌++◌, map, take, drop}
use Rattle.sof_desk.specs.HeldFiles.{without_slot}
use Rattle.sof_desk.proofs.file.leave_all.Given as goal

abbrev pub invariant-loop-file : goal.invariant-loop-file
invariant-loop-file l =
    map (without_slot l.slot) l.fn.files ≡ take l.file-index l.file-items ++ map (without_slot l.slot) (drop l.file-index l.file-items)
