use Rattle.std.proofs.Common.{◌∙◌}
use Rattle.host_widgets.specs.declared.kept.Power.TheVariants.{Unloaded}
use Rattle.host_widgets.proofs.ControlLists.{same-length}
use Rattle.host_widgets.proofs.Halting.{closed-alike}
use Rattle.host_widgets.proofs.unloading.forget.Goals as goal

pub reset_all-requires-clause-all : goal.reset_all-requires-clause-all
reset_all-requires-clause-all c = same-length c.args.plan.now.controls c.args.kept.now.controls c.requires.kept.controls

pub returns : goal.returns
returns c = λ i. record {
  power = Unloaded;
  streams = (c.close_all.ensures ∙ closed-alike c.args.kept.now.streams c.args.plan.now.streams c.requires.kept.streams) i;
  controls = c.reset_all.ensures i;
}
