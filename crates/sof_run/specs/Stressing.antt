-- The numbers that `stress` says.
use Rattle.std.specs.Prelude.{ℕ, List, [], ◌∷◌, codes}
use Rattle.sof_stress.specs.declared.counts.Counts.{Counts}
use Rattle.run_desk.specs.Lines.{count_line}

-- the five numbers
abbrev pub stress_lines : Counts → List (List ℕ)
stress_lines counts =
    count_line (codes "messages ") counts.messages
    ∷ count_line (codes "ticks ") counts.ticks
    ∷ count_line (codes "done ") counts.done
    ∷ count_line (codes "refused ") counts.refused
    ∷ count_line (codes "bytes ") counts.bytes
    ∷ []
