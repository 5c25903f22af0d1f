use Rattle.std.proofs.Common.{sym, ◌∙◌, refl}
use Rattle.mbox_link.specs.Calls.{world}
use Rattle.host_widgets.specs.Sides.{world_of}
use Rattle.host_ctl.proofs.PartsSent.{parts-lost, parts-held}
use Rattle.host_ctl.proofs.carrying.pass_parts.Goals as goal

pub returns-then-is_down : goal.returns-then-is_down
returns-then-is_down g c = record {
  passes = parts-lost g.P.Dsp.means c.args.side.now.plan.now c.args.side.now.heap c.args.comp c.args.blob.now c.args.side.now.kept.now (world_of c.args.side.now) c.link_down.new.kept (world c.send_parts-passed.new.dsp c.send_parts-passed.new.io c.send_parts-passed.new.out)
      (world c.link_down.new.dsp c.link_down.new.io c.link_down.new.out) c.send_parts-passed.result (c.send_parts-passed.ensures c.args.side.now.plan.now) (sym c.is_down.ensures ∙ c.if-is_down.true) c.link_down.ensures.calls c.link_down.ensures.kept;
  same = record { plan = refl; heap = refl; kept = refl; dsp = refl; io = refl; out = refl };
}

pub returns-else-is_down : goal.returns-else-is_down
returns-else-is_down g c = record {
  passes = parts-held g.P.Dsp.means c.args.side.now.plan.now c.args.side.now.heap c.args.comp c.args.blob.now c.args.side.now.kept.now (world_of c.args.side.now) (world c.send_parts-passed.new.dsp c.send_parts-passed.new.io c.send_parts-passed.new.out) c.send_parts-passed.result (c.send_parts-passed.ensures c.args.side.now.plan.now) (sym c.is_down.ensures ∙ c.if-is_down.false);
  same = record { plan = refl; heap = refl; kept = refl; dsp = refl; io = refl; out = refl };
}
