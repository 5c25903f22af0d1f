use Rattle.std.proofs.Common.{List, subst}
use Rattle.std.specs.List.Sorted.{IsStrictlyIncreasing}
use Rattle.sof_base.specs.Ports.{InputView}
use Rattle.sof_io.specs.Takes.{input_slots}
use Rattle.sof_io.proofs.Ascending.{ascending_distinct}
use Rattle.sof_io.proofs.inputs.Inputs.len.Goals as goal

pub returns-clause-distinct : goal.returns-clause-distinct
returns-clause-distinct c = ascending_distinct (input_slots c.args.self.now) (subst (λ (inputs : List InputView). IsStrictlyIncreasing (input_slots inputs)) c.self.view_is c.self.invariant.0)
