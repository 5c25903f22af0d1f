use Rattle.std.proofs.Common.{◌∙◌, sym, ap}
use Rattle.tplg_build.specs.SmallSource.{is_small_source}
use Rattle.sof_stress.specs.StressGraph.{stress_topology}
use Rattle.sof_stress.proofs.SmallStress.{stress-small}
use Rattle.sof_stress.proofs.graph.topology_of.Goals as goal

pub returns-in-Ok-clause-value : goal.returns-in-Ok-clause-value
unfolding stress_topology
returns-in-Ok-clause-value c = rw c.in_ok-source.ensures at c.in-Ok.ensures.value

pub unreachable-requires : goal.unreachable-requires
unreachable-requires c =
    let small = ap is_small_source c.in_ok-source.ensures ∙ stress-small c.args.streams c.requires in
    cc (sym c.in-Err-TooLarge.field-0-is ∙ c.in-Err-TooLarge.ensures.small small)
