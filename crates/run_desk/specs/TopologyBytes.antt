-- What the bytes of a loaded file are, and those of a topology file.
use Rattle.std.specs.Prelude.{ℕ, ◌<◌, List, get_or, Ok, Err}
use Rattle.sof_desk.specs.Desk.{Heard}
use Rattle.tplg_model.specs.declared.block.Topology.{Topology}
use Rattle.tplg_model.specs.File.{IsTopology, IsFileOf}

-- each is a byte
abbrev pub AreBytes : List ℕ → Type 0
AreBytes bytes = (i : ℕ) → get_or bytes i 0 < 256

-- what a load brought is bytes; one that failed brought nothing
abbrev pub BringsBytes : Heard → Type 0
BringsBytes (Ok bytes) = AreBytes bytes
BringsBytes (Err fault) = Unit {0}

-- the bytes are the file of this topology
abbrev pub IsFile : List ℕ → Topology → Type 0
IsFile bytes t = IsTopology t × IsFileOf bytes t

-- no topology has these bytes as its file
abbrev pub IsBroken : List ℕ → Type 0
IsBroken bytes = (t : Topology) → IsFile bytes t → ⊥
