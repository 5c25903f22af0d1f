use Rattle.tplg_model.proofs.FileLaws.{topology_again}
use Rattle.tplg_widgets.proofs.FileCounts.{few-widgets, few-routes}
use Rattle.run_desk.proofs.BrokenFiles.{halted}
use Rattle.run_desk.proofs.preparing.topology_in.Goals as goal

pub returns-in-Ok-clause-topology : goal.returns-in-Ok-clause-topology
returns-in-Ok-clause-topology c = topology_again c.args.bytes.now c.in-Ok.topology c.in-Ok.ensures.found.0 c.in-Ok.ensures.found.1

pub returns-in-Ok-clause-widgets : goal.returns-in-Ok-clause-widgets
returns-in-Ok-clause-widgets c = few-widgets c.args.bytes.now c.in-Ok.topology c.in-Ok.ensures.found.1 c.requires

pub returns-in-Ok-clause-routes : goal.returns-in-Ok-clause-routes
returns-in-Ok-clause-routes c = few-routes c.args.bytes.now c.in-Ok.topology c.in-Ok.ensures.found.1 c.requires

pub returns-in-Err-clause-topology : goal.returns-in-Err-clause-topology
returns-in-Err-clause-topology c = halted c.args.bytes.now c.in-Err.fault c.halt_of.result c.in-Err.ensures.fault c.halt_of.ensures
