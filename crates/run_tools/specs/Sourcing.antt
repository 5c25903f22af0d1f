-- The line of a topology that has no source.
use Rattle.std.specs.Prelude.{ℕ, List, codes}

-- the line of a topology whose text as a source has another plan, or more than 1048576 bytes
abbrev pub no_source_line : List ℕ
no_source_line = codes "topology no source\n"
