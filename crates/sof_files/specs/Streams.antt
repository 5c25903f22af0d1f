-- Where a program's lines go, as far as a system tells.
use Rattle.std.specs.Prelude.{Option}
use Rattle.sof_files.specs.declared.file_use.FileId.{FileId}
use Rattle.sof_files.specs.declared.standard.Stream.{Stream}

-- nothing is stated of what a name under /proc stands for, nor of its metadata
abbrev pub untold : Stream → Option FileId → Type 0
untold stream file = Unit {0}
