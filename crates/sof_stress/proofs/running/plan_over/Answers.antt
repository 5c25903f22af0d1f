use Rattle.std.proofs.Common.{◌<◌, ◌^◌, length, sym, subst, ap, ◌∙◌}
use Rattle.tplg_rules.specs.WellFormed.{IsWellFormed}
use Rattle.tplg_graph.specs.PlanOf.{plan_of}
use Rattle.tplg_widgets.specs.Entries.{entries_of}
use Rattle.tplg_widgets.specs.Ends.{ends_in}
use Rattle.sof_stress.proofs.SmallStress.{stress-widgets, stress-routes}
use Rattle.sof_stress.proofs.StressRules.{stress-kept}
use Rattle.sof_stress.proofs.running.plan_over.Goals as goal

pub returns-in-Ok-clause-plan : goal.returns-in-Ok-clause-plan
returns-in-Ok-clause-plan c = c.in-Ok.ensures.lists ∙ ap plan_of c.in_ok-topology.ensures.value

pub unreachable-requires : goal.unreachable-requires
unreachable-requires c =
    let kept = subst IsWellFormed (sym c.in_ok-topology.ensures.value) (stress-kept c.args.streams c.requires.some c.requires.few) in
    cc (sym c.in-Err-Rule.field-0-is ∙ c.in-Err-Rule.ensures.kept kept)

pub plan-requires : goal.plan-requires
plan-requires c = record {
  widgets = subst (λ t. length (entries_of t) < 2 ^ 32) (sym c.in_ok-topology.ensures.value) (stress-widgets c.args.streams c.requires.few);
  routes = subst (λ t. length (ends_in t) < 2 ^ 32) (sym c.in_ok-topology.ensures.value) (stress-routes c.args.streams c.requires.few);
}
