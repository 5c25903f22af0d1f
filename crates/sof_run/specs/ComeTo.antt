-- What loaded bytes come to, and how far a course was made.
use Rattle.std.specs.Prelude.{ℕ, List, Result, MatchResult, ◌<◌, length}
use Rattle.tplg_model.specs.declared.block.Topology.{Topology}
use Rattle.tplg_compile.specs.declared.source_fault.SourceFault.{SourceFault}
use Rattle.tplg_compile.specs.Compiled.{IsCompiled, IsCompileFault}
use Rattle.sof_desk.specs.Desk.{DeskCall}
use Rattle.sof_script.specs.Commands.{Read}
use Rattle.sof_script.specs.Tasks.{Turn}
use Rattle.run_desk.specs.declared.preparing.Halt.{Halt}
use Rattle.run_desk.specs.Verdicts.{MakeRun, IsHalt}
use Rattle.sof_run.specs.Calls.{Course, Made}

-- what a topology and a script come to
abbrev pub FilesComeTo : List ℕ → List ℕ → Result (Topology × Read) Halt → Type 0
FilesComeTo topology script r = MatchResult r (λ run. MakeRun topology script run.0 run.1) (IsHalt topology script)

-- the result for a source
abbrev pub SourceComesTo : List ℕ → Result Topology SourceFault → Type 0
SourceComesTo text r = MatchResult r (IsCompiled text) (IsCompileFault text)

-- a course was made, or a front of it
abbrev pub IsMade : Course → List Turn → List DeskCall → ℕ → Type 0
IsMade c turns calls status = Made c.items c.status turns calls status

-- a topology or a script has more bytes than its limit
abbrev pub IsLong : List ℕ → Type 0
IsLong bytes = 1048576 < length bytes
