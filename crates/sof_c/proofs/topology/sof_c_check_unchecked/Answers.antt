use Rattle.std.proofs.Common.{length, le-ltb, arith}
use Rattle.tplg_widgets.proofs.FileCounts.{few-widgets, few-routes}
use Rattle.sof_c.proofs.CheckLaws.{faulty}
use Rattle.sof_c.proofs.topology.sof_c_check_unchecked.Goals as goal

pub of_rules-requires-clause-widgets : goal.of_rules-requires-clause-widgets
of_rules-requires-clause-widgets c = few-widgets c.args.bytes.now c.in-Ok.topology c.in-Ok.ensures.found.1 (omega (arith, c.if-bytes.false))

pub of_rules-requires-clause-routes : goal.of_rules-requires-clause-routes
of_rules-requires-clause-routes c = few-routes c.args.bytes.now c.in-Ok.topology c.in-Ok.ensures.found.1 (omega (arith, c.if-bytes.false))

pub returns-in-Err : goal.returns-in-Err
returns-in-Err c = faulty c.args.bytes.now c.in-Err.fault c.of_fault.result c.in-Err.ensures.gives c.of_fault.ensures (le-ltb 4294967295 (length c.args.bytes.now) c.if-bytes.false)
