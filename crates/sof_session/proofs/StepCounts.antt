-- Counts of a device over some of its calls, by those over all.
use Rattle.mbox_link.specs.Calls.{Meaning, Steady}
use Rattle.mbox_link.proofs.Steps.{Rose-within}
use Rattle.sof_session.specs.SessionStep.{Calm}

-- where no count rose over all calls, none rose over some of them
pub Calm-between : {P : Type 0} (means : Meaning P) (a b c d : P) → Steady means a b → Steady means c d → Calm means a d → Calm means b c
Calm-between means a b c d first rest calm = record {
  faults = λ rose. calm.faults (Rose-within (means.faults a) (means.faults b) (means.faults c) (means.faults d) first.faults rest.faults rose);
  refusals = λ rose. calm.refusals (Rose-within (means.refusals a) (means.refusals b) (means.refusals c) (means.refusals d) first.refusals rest.refusals rose);
}
