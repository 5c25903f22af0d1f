use Rattle.std.proofs.Common.{◌≡◌}
use Rattle.tplg_rules.specs.WellFormed.{rules_of}
use Rattle.tplg_plan.specs.HeapNeed.{IsSmall, need_on}
use Rattle.tplg_graph.specs.TopologyNeed.{need_of}
use Rattle.tplg_graph.specs.Orderable.{IsOrderable, IsAcyclic}
use Rattle.tplg_rules.proofs.RuleTellings.{kept, broken}
use Rattle.tplg_graph.proofs.PlanLaws.{on-plan, is-small, is-need, is-orderable, is-acyclic}
use Rattle.tplg_graph.proofs.Soundness.{is-sound-plan}
use Rattle.tplg_graph.proofs.planning.plan.Goals as goal

pub returns-clause-kept : goal.returns-clause-kept
returns-clause-kept c = kept (rules_of c.args.topology.now) c.plan_in_form.result c.plan_in_form.ensures.err

pub returns-clause-broken : goal.returns-clause-broken
returns-clause-broken c = broken (rules_of c.args.topology.now) c.plan_in_form.result c.plan_in_form.ensures.ok c.plan_in_form.ensures.err

pub returns-clause-small : goal.returns-clause-small
returns-clause-small c = on-plan c.args.topology.now c.plan_in_form.result (λ p. IsSmall p.graph) c.plan_in_form.ensures.ok c.plan_in_form.ensures.lists (is-small c.args.topology.now)

pub returns-clause-need : goal.returns-clause-need
returns-clause-need c = on-plan c.args.topology.now c.plan_in_form.result (λ p. need_on p.graph ≡ need_of c.args.topology.now) c.plan_in_form.ensures.ok c.plan_in_form.ensures.lists (is-need c.args.topology.now)

pub returns-clause-orderable : goal.returns-clause-orderable
returns-clause-orderable c = on-plan c.args.topology.now c.plan_in_form.result (λ p. IsOrderable p.graph) c.plan_in_form.ensures.ok c.plan_in_form.ensures.lists (λ w. is-orderable c.args.topology.now)

pub returns-clause-acyclic : goal.returns-clause-acyclic
returns-clause-acyclic c = on-plan c.args.topology.now c.plan_in_form.result (λ p. IsAcyclic p.graph) c.plan_in_form.ensures.ok c.plan_in_form.ensures.lists (is-acyclic c.args.topology.now)

pub returns-clause-sound : goal.returns-clause-sound
returns-clause-sound c = is-sound-plan c.args.topology.now c.plan_in_form.result c.plan_in_form.ensures.ok c.plan_in_form.ensures.lists c.plan_in_form.ensures.fit
