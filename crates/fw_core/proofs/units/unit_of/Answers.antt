use Rattle.std.proofs.Common.{sym, ap, ◌∙◌, subst, ℕ, ◌≤◌, List, length}
use Rattle.std.specs.Prelude.{nat_le}
use Rattle.std.specs.List.{list_all}
use Rattle.fw_core.proofs.Gains.{first-gains, short-ramp}
use Rattle.fw_core.proofs.units.unit_of.Goals as goal

pub returns-in-Volume-clause-new : goal.returns-in-Volume-clause-new
returns-in-Volume-clause-new c =
    let gains = first-gains c.in-Volume.channels c.first_gains.result (rw c.in-Volume.is at c.requires.words) c.first_gains.ensures in
    let from = first-gains c.in-Volume.channels c.first_gains-in-Volume.result (rw c.in-Volume.is at c.requires.words) c.first_gains-in-Volume.ensures in
    let short : c.ramp_of.result ≤ 10000 = subst (λ (n : ℕ). n ≤ 10000) (sym c.ramp_of.ensures) (short-ramp _ _) in
    (gains.0, gains.1, gains.2, ap length (c.first_gains-in-Volume.ensures ∙ sym c.first_gains.ensures), from.2, short)

pub returns-in-Demux-clause-new : goal.returns-in-Demux-clause-new
returns-in-Demux-clause-new c = (ap length c.first_masks.ensures, ap (λ (masks : List ℕ). list_all (λ m. nat_le m 255) masks) c.first_masks.ensures)
