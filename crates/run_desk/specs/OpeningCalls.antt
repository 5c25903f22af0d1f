-- Calls that load, create or open files.
use Rattle.std.specs.Prelude.{true, List}
use Rattle.std.specs.List.{AllByRecursion}
use Rattle.sof_desk.specs.Desk.{DeskAct, DeskCall, Did, Put, Read}

-- a call is a load, or creates or opens a file
abbrev pub IsOpening : DeskCall → Type 0
IsOpening (Did (Put place piece) done) = ⊥
IsOpening (Read slot size got) = ⊥
IsOpening _ = Unit {0}

-- a call creates or opens a file
abbrev pub IsOpeningAct : DeskAct → Type 0
IsOpeningAct act = IsOpening (Did act true)

-- the calls were loads, creates and opens alone
abbrev pub AreOpening : List DeskCall → Type 0
AreOpening calls = AllByRecursion IsOpening calls
