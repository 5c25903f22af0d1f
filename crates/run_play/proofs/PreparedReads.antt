-- A run is made of the script that was read.
use Rattle.std.proofs.Common.{◌≡◌, ap, ℕ, Bool, true, false, List, Option, Some, None, Result, Ok, Err}
use Rattle.tplg_model.specs.declared.fault.TplgFault.{TplgFault}
use Rattle.tplg_model.specs.declared.block.Topology.{Topology}
use Rattle.tplg_model.specs.Reading.{topology_of}
use Rattle.tplg_plan.specs.declared.plans.Plan.{Plan}
use Rattle.tplg_rules.specs.RuleTest.{ruling_of}
use Rattle.tplg_graph.specs.PlanOf.{plan_of}
use Rattle.sof_script.specs.declared.reading.ScriptFault.{ScriptFault}
use Rattle.sof_script.specs.declared.reading.ScriptFault.TheVariants.{Line, OutOfMemory}
use Rattle.sof_script.specs.Commands.{Read, script_of}
use Rattle.std.specs.Prelude.{nat_lt}
use Rattle.run_desk.specs.Bindings.{wrong_binding}
use Rattle.run_desk.specs.Verdicts.{ticks_of}
use Rattle.run_desk.specs.Prepared.{Ready, prepared, prepared_script, prepared_ticks, prepared_topology, prepared_rules, prepared_bindings}

module _ (plan : Plan) (read : Read) where
  by_bindings : (p : Plan) (r : Read) (wrong : Option ℕ) → prepared_bindings p r wrong ≡ Ready plan read → r ≡ read
  by_bindings p r (Some line) is = absurd (cc is)
  by_bindings p r None is = cc is

  by_rules : (t : Topology) (r : Read) (ruling : Option (ℕ × ℕ)) → prepared_rules t r ruling ≡ Ready plan read → r ≡ read
  by_rules t r (Some fault) is = absurd (cc is)
  by_rules t r None is = by_bindings (plan_of t) r (wrong_binding (plan_of t) r.bindings) is

  by_topology : (r : Read) (t : Result Topology TplgFault) → prepared_topology r t ≡ Ready plan read → r ≡ read
  by_topology r (Err fault) is = absurd (cc is)
  by_topology r (Ok t) is = by_rules t r (ruling_of t) is

  by_ticks : (topology : List ℕ) (r : Read) (over : Bool) → prepared_ticks topology r over ≡ Ready plan read → r ≡ read
  by_ticks topology r true is = absurd (cc is)
  by_ticks topology r false is = by_topology r (topology_of topology) is

  by_script : (topology : List ℕ) (r : Result Read ScriptFault) → prepared_script topology r ≡ Ready plan read → r ≡ Ok read
  by_script topology (Err (Line line cause)) is = absurd (cc is)
  by_script topology (Err OutOfMemory) is = absurd (cc is)
  by_script topology (Ok r) is = ap Ok (by_ticks topology r (nat_lt 60000 (ticks_of r.commands)) is)

  pub prepared_read : (topology script : List ℕ) → prepared topology script ≡ Ready plan read → script_of script ≡ Ok read
  prepared_read topology script is = by_script topology (script_of script) is
