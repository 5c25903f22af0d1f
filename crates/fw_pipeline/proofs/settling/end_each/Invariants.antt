use Rattle.fw_pipeline.proofs.Settled.{SettledFirst}
use Rattle.fw_pipeline.proofs.settling.end_each.Given as goal

abbrev pub invariant-loop-at : goal.invariant-loop-at
invariant-loop-at l = SettledFirst l.initial.registry l.at l.registry
