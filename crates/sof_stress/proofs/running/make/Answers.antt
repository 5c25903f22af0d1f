use Rattle.std.proofs.Common.{ap, ◌∙◌}
use Rattle.tplg_graph.specs.PlanOf.{plan_of}
use Rattle.sof_stress.specs.StressGraph.{stress_topology}
use Rattle.sof_stress.proofs.running.make.Goals as goal

pub returns-clause-plan : goal.returns-clause-plan
returns-clause-plan c = c.in_ok-plan_over.ensures.plan ∙ ap (λ n. plan_of (stress_topology n)) c.streams_of-streams.ensures.streams
