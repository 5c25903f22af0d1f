-- The result of writing the source of a topology.
use Rattle.std.specs.Prelude.{ℕ, ◌&&◌, nat_le, Bool, false, if◌then◌else◌, List, length, Option, Some, None, Result, Ok, Err}
use Rattle.tplg_model.specs.declared.block.Topology.{Topology}
use Rattle.tplg_plan.specs.declared.plans.Plan.{Plan}
use Rattle.tplg_same.specs.SamePlan.{IsSamePlan}
use Rattle.tplg_same.specs.SameTest.{same_plans}
use Rattle.tplg_graph.specs.PlanOf.{plan_of}
use Rattle.tplg_compile.specs.declared.source_fault.SourceFault.{SourceFault}
use Rattle.tplg_compile.specs.Compiled.{IsCompiled}
use Rattle.tplg_compile.specs.InOrder.{compiled_of}
use Rattle.tplg_source.specs.Carried.{carried_source}
use Rattle.tplg_source.specs.SourceText.{source_text}

-- the text of what a source can carry of a topology
abbrev pub text_carrying : Topology → List ℕ
text_carrying t = source_text (carried_source t)

-- ---- the promise

-- a text compiles to a topology that keeps all rules and has this plan, but for what no source carries
pub record KeepsPlan (plan : Plan) (text : List ℕ) : Type 0 where
  pub made : Topology
  pub compiled : IsCompiled text made
  pub same : IsSamePlan (plan_of made) plan

-- ---- as a test

-- what a text compiles to has this plan
abbrev pub has_plan : Plan → Result Topology SourceFault → Bool
has_plan plan (Ok made) = same_plans (plan_of made) plan
has_plan plan (Err fault) = false

-- a text is no longer than a source may be, and compiles to a topology of this plan
abbrev pub is_kept : Plan → List ℕ → Bool
is_kept plan text = nat_le (length text) 1048576 && has_plan plan (compiled_of text)

-- a text, where it keeps the plan
abbrev pub kept_text : Plan → List ℕ → Option (List ℕ)
kept_text plan text = if is_kept plan text then Some text else None

-- the source of a topology, where it has one
unfoldable pub source_for : Topology → Option (List ℕ)
source_for t = kept_text (plan_of t) (text_carrying t)
