-- Which bytes of a topology and of a script make a run, and which status they lead to.
use Rattle.std.specs.Prelude.{◌≡◌, ◌⊎◌, ℕ, ◌<◌, ◌≤◌, List, length, Some, None, Ok, Err, true}
use Rattle.std.specs.List.{sum_by, last_or}
use Rattle.sof_desk.specs.Desk.{Put, Spoken, DeskCall, Did}
use Rattle.tplg_model.specs.declared.block.Topology.{Topology}
use Rattle.tplg_model.specs.File.{IsFileFault}
use Rattle.tplg_rules.specs.WellFormed.{IsWellFormed, Breaks}
use Rattle.tplg_graph.specs.PlanOf.{plan_of}
use Rattle.sof_script.specs.declared.reading.ScriptFault.TheVariants.{Line}
use Rattle.sof_script.specs.declared.script.Numbered.{Numbered}
use Rattle.sof_script.specs.Commands.{Read, script_of}
use Rattle.sof_script.specs.Ticks.{command_ticks}
use Rattle.run_desk.specs.declared.preparing.Halt.{Halt}
use Rattle.run_desk.specs.declared.preparing.Halt.TheVariants as halts
use Rattle.run_desk.specs.TopologyBytes.{IsFile, IsBroken}
use Rattle.run_desk.specs.Bindings.{wrong_binding}
use Rattle.run_desk.specs.Lines.{halt_line, halt_status}

-- neither file is longer than its limit
abbrev pub Fit : List ℕ → List ℕ → Type 0
Fit topology script = (length topology ≤ 1048576) × (length script ≤ 1048576)

-- the sum of a script's ticks and lags
abbrev pub ticks_of : List Numbered → ℕ
ticks_of commands = sum_by (λ (n : Numbered). command_ticks n.command) commands

-- the script has no line at fault and not too many ticks
abbrev pub IsScript : List ℕ → Read → Type 0
IsScript script read = (script_of script ≡ Ok read) × (ticks_of read.commands ≤ 60000)

-- the files make a run: the topology keeps all rules, and the bindings are right
pub record MakeRun (topology script : List ℕ) (t : Topology) (read : Read) : Type 0 where
  pub lines : IsScript script read
  pub file : IsFile topology t
  pub whole : IsWellFormed t
  pub right : wrong_binding (plan_of t) read.bindings ≡ None

-- Why the files make no run: a line of the script is at fault; its ticks are too many; no topology has the bytes, and this is
-- their first fault; the topology that has them breaks this rule first, with this least item; or it keeps all rules and a binding
-- is wrong, the first on this line.
abbrev pub IsHalt : List ℕ → List ℕ → Halt → Type 0
IsHalt topology script (halts.Script line cause) = script_of script ≡ Err (Line line cause)
IsHalt topology script (halts.Ticks sum) = (read : Read) × (script_of script ≡ Ok read) × (sum ≡ ticks_of read.commands) × (60000 < sum)
IsHalt topology script (halts.Broken fault) = ((read : Read) × IsScript script read) × IsBroken topology × IsFileFault topology fault
IsHalt topology script (halts.Rule rule item) = (read : Read) × (t : Topology) × IsScript script read × IsFile topology t × Breaks t rule item
IsHalt topology script (halts.Binding line) =
    (read : Read) × (t : Topology)
    × IsScript script read × IsFile topology t × IsWellFormed t × (wrong_binding (plan_of t) read.bindings ≡ Some line)
IsHalt topology script halts.OutOfMemory = ⊥

-- The status by the bytes of the files, whose cases exclude each other: a desk that failed or want of memory; 5 where topology
-- or script is too long; 4, 8 or 2 where they make no run, and then the line for it was said; 0 where they make one.
abbrev pub Verdict : List ℕ → List ℕ → List DeskCall → ℕ → Type 0
Verdict topology script calls status =
    ((status ≡ 3) ⊎ (status ≡ 7))
    ⊎ (((status ≡ 5) × ((1048576 < length topology) ⊎ (1048576 < length script)))
    ⊎ (((why : Halt) × (status ≡ halt_status why) × Fit topology script × IsHalt topology script why × (last_or None calls ≡ Some (Did (Put Spoken (halt_line why)) true)))
    ⊎ ((status ≡ 0) × Fit topology script × ((t : Topology) × ((read : Read) × MakeRun topology script t read)))))
