use Rattle.std.proofs.Common.{refl, sym, subst, Err}
use Rattle.host_widgets.specs.declared.answers.HostFault.{HostFault}
use Rattle.host_widgets.specs.Sides.{world_of}
use Rattle.host_dynamic.specs.UpCalls.{AfterMaking}
use Rattle.host_dynamic.proofs.AfterFaults.{after-other}
use Rattle.host_dynamic.proofs.opening.unmake_after.Goals as goal

pub returns-in-Refused-clause-did : goal.returns-in-Refused-clause-did
returns-in-Refused-clause-did g c =
    subst (λ (f : HostFault). AfterMaking g.P.Dsp.means c.args.side.now.plan.now c.args.side.now.heap c.args.made.now (Err f) c.args.side.now.kept.now c.unmake_or_cut-done.new.side.kept.now (world_of c.args.side.now) (world_of c.unmake_or_cut-done.new.side) c.first_told.result)
    (sym c.in-Refused.is) (c.unmake_or_cut-done.result, c.unmake_or_cut-done.ensures.did, c.first_told.ensures)

pub returns-in_default : goal.returns-in_default
returns-in_default g c = record {
  did = after-other g.P.Dsp.means c.args.side.now.plan.now c.args.side.now.heap c.args.made.now c.args.fault c.args.side.now.kept.now c.go_down.new.side.kept.now (world_of c.args.side.now) (world_of c.go_down.new.side) (Err c.args.fault) c.in_default.not-Refused refl
      (c.go_down.ensures.kept, (world_of c.go_down.new.side, c.go_down.ensures.calls, refl));
  same = c.go_down.ensures.same;
}
