-- How the calls of a run use files.
use Rattle.std.specs.Prelude.{Bool, true, false, Option, Some, None}
use Rattle.sof_desk.specs.declared.calls.FileUse.{FileUse}
use Rattle.sof_desk.specs.declared.calls.FileUse.TheVariants.{ToRead}

-- whether a file may be taken for a use, by the use that it has: it is read unless it is written or told to, and written where it has
-- none
abbrev pub may_use : FileUse → Option FileUse → Bool
may_use usage None = true
may_use ToRead (Some ToRead) = true
may_use _ _ = false
