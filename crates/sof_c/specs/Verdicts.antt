-- What a check of a topology file finds.
use Rattle.std.specs.Prelude.{◌≡◌, ◌⊎◌, ◌-◌, ◌^◌, ℕ, List, length, Option, Some, None, Result, Ok, Err, nat_lt, if◌then◌else◌}
use Rattle.tplg_model.specs.declared.block.Topology.{Topology}
use Rattle.tplg_model.specs.declared.fault.TplgFault.{TplgFault}
use Rattle.tplg_model.specs.declared.fault.TplgFault.TheVariants as fault
use Rattle.tplg_model.specs.Reading.{topology_of}
use Rattle.tplg_plan.specs.declared.plans.Plan.{Plan}
use Rattle.tplg_rules.specs.RuleTest.{ruling_of}
use Rattle.tplg_graph.specs.PlanOf.{plan_of}
use Rattle.tplg_graph.specs.TopologyNeed.{need_of}
use Rattle.sof_c.specs.declared.status.TheConstants.{DONE, NO_MEMORY, TOO_LARGE, BROKEN, RULE}
use Rattle.sof_c.specs.declared.topology.Verdict.{Verdict}

-- no topology, or one that breaks a rule: nothing is counted
abbrev pub refusal : ℕ → ℕ → ℕ → ℕ → Verdict
refusal status cause at number =
    record { status = status; cause = cause; number = number; reserved = 0; at = at; need = 0; pipelines = 0; components = 0; buffers = 0; routes = 0; streams = 0; controls = 0 }

-- what a plan has of each, and the heap that it needs
abbrev pub approval : Plan → ℕ → Verdict
approval p need =
    record {
      status = DONE;
      cause = 0;
      number = 0;
      reserved = 0;
      at = 0;
      need = need;
      pipelines = length p.graph.pipes;
      components = length p.graph.comps;
      buffers = length p.graph.edges;
      routes = length p.graph.joins;
      streams = length p.streams;
      controls = length p.controls;
    }

abbrev pub memory_refusal : Verdict
memory_refusal = refusal NO_MEMORY 0 0 0

-- a fault of the file: its cause by the table of docs/FORMATS.md, its place, and the number that was found
abbrev pub of_fault : TplgFault → Verdict
of_fault (fault.Truncated at) = refusal BROKEN 1 at 0
of_fault (fault.Magic at) = refusal BROKEN 2 at 0
of_fault (fault.Abi at number) = refusal BROKEN 3 at number
of_fault (fault.HeaderSize at) = refusal BROKEN 4 at 0
of_fault (fault.Payload at) = refusal BROKEN 5 at 0
of_fault (fault.Name at) = refusal BROKEN 6 at 0
of_fault (fault.ControlKind at number) = refusal BROKEN 7 at number
of_fault (fault.Tokens at) = refusal BROKEN 8 at 0
of_fault fault.OutOfMemory = memory_refusal

-- by the first rule that is broken, with its least item, if one is
abbrev pub of_rules : Topology → Option (ℕ × ℕ) → Verdict
of_rules t None = approval (plan_of t) (need_of t)
of_rules t (Some (rule, item)) = refusal RULE rule item 0

abbrev pub of_read : Result Topology TplgFault → Verdict
of_read (Err f) = of_fault f
of_read (Ok t) = of_rules t (ruling_of t)

abbrev pub verdict_of : List ℕ → Verdict
verdict_of bytes = if nat_lt (2 ^ 32 - 1) (length bytes) then refusal TOO_LARGE 0 0 0 else of_read (topology_of bytes)

-- this verdict, unless memory is missing
abbrev pub IsVerdict : Verdict → Verdict → Type 0
IsVerdict right v = (v ≡ memory_refusal) ⊎ (v ≡ right)
