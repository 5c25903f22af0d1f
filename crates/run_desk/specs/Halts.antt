-- Why files make no run, or that they make one, as each step of preparing it may tell.
use Rattle.std.specs.Prelude.{◌≡◌, ℕ, Option, Some, None, Result, Err}
use Rattle.tplg_model.specs.declared.fault.TplgFault.{TplgFault}
use Rattle.tplg_model.specs.declared.fault.TplgFault.TheVariants.{OutOfMemory}
use Rattle.tplg_model.specs.declared.block.Topology.{Topology}
use Rattle.tplg_plan.specs.declared.plans.Plan.{Plan}
use Rattle.sof_script.specs.Commands.{Read}
use Rattle.tplg_plan.specs.Sound.{IsSound}
use Rattle.run_desk.specs.declared.preparing.Halt.{Halt}
use Rattle.run_desk.specs.declared.preparing.Halt.TheVariants as halts
use Rattle.run_desk.specs.Bindings.{wrong_binding}
use Rattle.run_desk.specs.Prepared.{Prepared, Halted}

-- the halt is what the files come to; want of memory may come with any files
abbrev pub Halts : Halt → Prepared → Type 0
Halts halts.OutOfMemory files = Unit {0}
Halts why files = files ≡ Halted why

-- a fault of a file breaks it
abbrev pub HaltsFor : Halt → TplgFault → Type 0
HaltsFor (halts.Broken broken) fault = (broken ≡ fault) × (fault ≡ OutOfMemory → ⊥)
HaltsFor halts.OutOfMemory fault = Unit {0}
HaltsFor why fault = ⊥

-- reading halts at the first fault
abbrev pub HaltsAtTopology : Halt → Result Topology TplgFault → Type 0
HaltsAtTopology (halts.Broken fault) read = read ≡ Err fault
HaltsAtTopology halts.OutOfMemory read = Unit {0}
HaltsAtTopology why read = ⊥

-- planning halts at the first rule that a topology breaks
abbrev pub HaltsAtRules : Halt → Option (ℕ × ℕ) → Type 0
HaltsAtRules (halts.Rule rule item) ruling = ruling ≡ Some (rule, item)
HaltsAtRules halts.OutOfMemory ruling = Unit {0}
HaltsAtRules why ruling = ⊥

-- checking halts at what the bytes come to
abbrev pub HaltsAtCheck : Halt → Result Topology Halt → Type 0
HaltsAtCheck halts.OutOfMemory bytes = Unit {0}
HaltsAtCheck why bytes = bytes ≡ Err why

-- a plan is sound, and a script's bindings are right over it
pub record IsCarriable (plan : Plan) (read : Read) : Type 0 where
  pub sound : IsSound plan
  pub right : wrong_binding plan read.bindings ≡ None
