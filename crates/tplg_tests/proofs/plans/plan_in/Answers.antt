use Rattle.std.proofs.Common.{arith}
use Rattle.tplg_widgets.proofs.FileCounts.{few-widgets, few-routes}
use Rattle.tplg_tests.proofs.plans.plan_in.Goals as goal

pub plan-requires : goal.plan-requires
plan-requires c = record {
  widgets = few-widgets c.args.bytes.now c.in-Ok.topology c.in-Ok.ensures.found.1 (omega arith);
  routes = few-routes c.args.bytes.now c.in-Ok.topology c.in-Ok.ensures.found.1 (omega arith);
}
