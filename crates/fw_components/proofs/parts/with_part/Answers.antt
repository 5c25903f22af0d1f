use Rattle.std.proofs.Common.{◌∙◌, sym, ap, cond, Option, Some, None, List, ℕ}
use Rattle.fw_units.specs.declared.component.Unit as units
use Rattle.fw_components.specs.Parts.{takes_part, joined_bytes}
use Rattle.fw_components.proofs.parts.with_part.Goals as goal

pub returns-in-Eq-clause-bytes : goal.returns-in-Eq-clause-bytes
returns-in-Eq-clause-bytes c =
    let id = c.args.component.now.id in
    let part = c.args.part.now in
    c.joined.ensures.bytes id ∙ sym (ap (λ (u : units.Unit). cond {A = Option (List ℕ)} (takes_part id u part) (Some (joined_bytes id u part)) None) c.in-Eq.is)
