use Rattle.std.proofs.Common.{◌∙◌, sym, ap}
use Rattle.std.proofs.lemmas.Bool.{false≢true}
use Rattle.sof_base.specs.Holes.{fresh_holes}
use Rattle.fw_core.proofs.Laid.{laid-back}
use Rattle.fw_core.proofs.dsp.FirmwareDsp.cut.Goals as goal

pub invariant_of-self : goal.invariant_of-self
invariant_of-self c = record {
  on = λ e. absurd (false≢true e);
  off = λ e. (c.remove_all.ensures.tables, c.remove_all.ensures.holes ∙ laid-back c.self.inside c.self.invariant ∙ ap fresh_holes (sym c.remove_all.ensures.same.2));
  schedule = λ e. absurd (false≢true e);
}
