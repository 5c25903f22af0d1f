-- What the bytes of files come to, step by step.
use Rattle.std.specs.Prelude.{ℕ, Bool, true, false, nat_lt, List, Option, Some, None, Result, Ok, Err}
use Rattle.tplg_model.specs.declared.fault.TplgFault.{TplgFault}
use Rattle.tplg_model.specs.declared.block.Topology.{Topology}
use Rattle.tplg_model.specs.Reading.{topology_of}
use Rattle.tplg_plan.specs.declared.plans.Plan.{Plan}
use Rattle.tplg_rules.specs.RuleTest.{ruling_of}
use Rattle.tplg_graph.specs.PlanOf.{plan_of}
use Rattle.sof_script.specs.declared.reading.ScriptFault.{ScriptFault}
use Rattle.sof_script.specs.declared.reading.ScriptFault.TheVariants as scripts
use Rattle.sof_script.specs.Commands.{Read, script_of}
use Rattle.run_desk.specs.declared.preparing.Halt.{Halt}
use Rattle.run_desk.specs.declared.preparing.Halt.TheVariants as halts
use Rattle.run_desk.specs.Bindings.{wrong_binding}
use Rattle.run_desk.specs.Verdicts.{ticks_of}

-- ---- a topology and a script

-- what the two files come to: a plan with a script, or why they make no run
pub data Prepared : Type 0 where
  Ready : (plan : Plan) (read : Read) → Prepared
  Halted : (why : Halt) → Prepared

-- each binding is to be right, which comes last
abbrev pub prepared_bindings : Plan → Read → Option ℕ → Prepared
prepared_bindings plan read (Some line) = Halted (halts.Binding line)
prepared_bindings plan read None = Ready plan read

-- the first rule that it breaks comes before all that is over its plan
abbrev pub prepared_rules : Topology → Read → Option (ℕ × ℕ) → Prepared
prepared_rules topology read (Some (rule, item)) = Halted (halts.Rule rule item)
prepared_rules topology read None = prepared_bindings (plan_of topology) read (wrong_binding (plan_of topology) read.bindings)

abbrev pub prepared_topology : Read → Result Topology TplgFault → Prepared
prepared_topology read (Err fault) = Halted (halts.Broken fault)
prepared_topology read (Ok topology) = prepared_rules topology read (ruling_of topology)

-- the sum of the script's ticks and lags is to be at most 60000
abbrev pub prepared_ticks : List ℕ → Read → Bool → Prepared
prepared_ticks topology read true = Halted (halts.Ticks (ticks_of read.commands))
prepared_ticks topology read false = prepared_topology read (topology_of topology)

-- a script at fault comes first; no script's fault is want of memory
abbrev pub prepared_script : List ℕ → Result Read ScriptFault → Prepared
prepared_script topology (Err (scripts.Line line cause)) = Halted (halts.Script line cause)
prepared_script topology (Err scripts.OutOfMemory) = Halted halts.OutOfMemory
prepared_script topology (Ok read) = prepared_ticks topology read (nat_lt 60000 (ticks_of read.commands))

-- what the bytes of the topology and of the script come to
abbrev pub prepared : List ℕ → List ℕ → Prepared
prepared topology script = prepared_script topology (script_of script)

-- ---- a topology alone

-- a topology is to break no rule
abbrev pub checked_rules : Topology → Option (ℕ × ℕ) → Result Topology Halt
checked_rules t (Some (rule, item)) = Err (halts.Rule rule item)
checked_rules t None = Ok t

-- the first fault of the file comes before
abbrev pub checked_file : Result Topology TplgFault → Result Topology Halt
checked_file (Err fault) = Err (halts.Broken fault)
checked_file (Ok t) = checked_rules t (ruling_of t)

-- what the bytes come to: a topology that keeps all rules, or why they make none
abbrev pub checked : List ℕ → Result Topology Halt
checked bytes = checked_file (topology_of bytes)
