use Rattle.sof_stress.proofs.CarrySteps.{one-held}
use Rattle.sof_stress.proofs.carry.held.Goals as goal

pub returns-clause-held : goal.returns-clause-held
returns-clause-held c = (one-held c.args.outputs.now c.args.slot _ c.requires c.at.ensures c.len.ensures.within).0

pub returns-clause-most : goal.returns-clause-most
returns-clause-most c = (one-held c.args.outputs.now c.args.slot _ c.requires c.at.ensures c.len.ensures.within).1
