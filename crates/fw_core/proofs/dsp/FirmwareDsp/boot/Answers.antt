use Rattle.std.proofs.Common.{◌∙◌, sym, ap, subst}
use Rattle.std.proofs.lemmas.Bool.{true≢false}
use Rattle.fw_heap.specs.Regions.{RegionState}
use Rattle.fw_components.specs.Tables.{Tables}
use Rattle.fw_core.specs.Held.{IsPieceHeld}
use Rattle.fw_core.specs.Device.{FirmwareView}
use Rattle.fw_core.proofs.Laid.{laid-off, fresh-held}
use Rattle.fw_core.proofs.dsp.FirmwareDsp.boot.Goals as goal

pub invariant_of-self : goal.invariant_of-self
invariant_of-self c =
    let off = c.self.invariant.off (laid-off c.self.inside c.self.invariant (ap (λ (d : FirmwareView). d.state) c.self.view_is ∙ c.requires.off)) in
    record {
      on = λ e. subst (λ (t : Tables). IsPieceHeld t c.limit.new.self) (sym off.0) (fresh-held c.args.heap c.limit.new.self (ap (λ (r : RegionState). r.holes) c.limit.ensures) (ap (λ (r : RegionState). r.usable) c.limit.ensures));
      off = λ e. absurd (true≢false e);
      schedule = c.self.invariant.schedule;
    }
