-- The status that the program ends with, by its words.
use Rattle.std.specs.Prelude.{◌≡◌, ◌⊎◌, ℕ, Bool, true, false, List, Option, Some, None}
use Rattle.run_serve.specs.ServeWords.{ServeNames, serve_of}
use Rattle.sof.specs.Asked.{asks_text, DriveNames, drive_of}
use Rattle.sof.specs.HandedOn.{Played, ServedDriver}
use Rattle.sof.specs.Driven.{Drove}

-- or there was no memory to begin with
abbrev pub OrNoMemory : ℕ → Type 0 → Type 0
OrNoMemory told did = did ⊎ (told ≡ 7)

-- a text was printed, or standard output failed
abbrev pub Printed : ℕ → Type 0
Printed told = (told ≡ 0) ⊎ (told ≡ 3)

-- by what the words ask for: a text, a driver to be served, a play over a far side, or else what `run` does
abbrev pub StatusBy : ℕ → Bool → Option ServeNames → Option DriveNames → List (List ℕ) → ℕ → Type 0
StatusBy room true serves drives words told = Printed told
StatusBy room false (Some names) drives words told = OrNoMemory told (ServedDriver room names told)
StatusBy room false None (Some names) words told = OrNoMemory told (Drove room names told)
StatusBy room false None None words told = OrNoMemory told (Played room words told)

abbrev pub StatusOf : ℕ → List (List ℕ) → ℕ → Type 0
StatusOf room words told = StatusBy room (asks_text words) (serve_of words) (drive_of room words) words told
