use Rattle.std.proofs.Common.{◌≡◌, ◌*◌, true}
use Rattle.std.specs.Prelude.{is_some}
use Rattle.sof_base.specs.Ports.{HasRoom}
use Rattle.host_widgets.specs.Sides.{SameSide, world_of}
use Rattle.host_ctl.specs.ControlAnswers.{IsSetAt}
use Rattle.host_ctl.specs.ControlPlaces.{control_here, record_here}
use Rattle.host_ctl.proofs.ControlAnswered.{AskedAhead}
use Rattle.host_ctl.proofs.PartsTold.{first_bytes}
use Rattle.host_ctl.proofs.carrying.ask_all.Given as goal

-- so far each part was asked for, the record stays, and what came is put together
abbrev pub invariant-loop-index : goal.invariant-loop-index
invariant-loop-index g l = record {
  stays : l.side.kept.now ≡ l.fn.side.kept.now;
  same : SameSide l.fn.side l.side;
  room : HasRoom (61440 * g.P.Dsp.means.pending l.side.dsp.now) l.side.out.now;
  on : is_some (g.P.Dsp.means.on l.side.dsp.now) ≡ true;
  asked : AskedAhead g.P.Dsp.means l.fn.side.plan.now l.fn.side.heap (control_here l.fn.side.plan.now l.place).comp l.count l.fn.side.kept.now (world_of l.fn.side) (world_of l.side) l.index;
  told : IsSetAt g.P.Dsp.means l.fn.side.plan.now l.fn.side.kept.now (control_here l.fn.side.plan.now l.place).comp l.fn.side.dsp.now →
      (l.told.items ≡ first_bytes (record_here l.fn.side.kept.now l.place).blob l.index) × IsSetAt g.P.Dsp.means l.fn.side.plan.now l.fn.side.kept.now (control_here l.fn.side.plan.now l.place).comp l.side.dsp.now;
}
