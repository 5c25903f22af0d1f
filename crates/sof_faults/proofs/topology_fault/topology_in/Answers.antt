use Rattle.tplg_widgets.proofs.FileCounts.{few-widgets, few-routes}
use Rattle.sof_faults.proofs.topology_fault.topology_in.Goals as goal

pub returns-in-Ok-clause-widgets : goal.returns-in-Ok-clause-widgets
returns-in-Ok-clause-widgets c = few-widgets c.args.bytes.now c.in-Ok.topology c.in-Ok.ensures.found.1 c.requires

pub returns-in-Ok-clause-routes : goal.returns-in-Ok-clause-routes
returns-in-Ok-clause-routes c = few-routes c.args.bytes.now c.in-Ok.topology c.in-Ok.ensures.found.1 c.requires
