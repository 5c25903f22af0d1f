use Rattle.std.proofs.Common.{sym, ap, Option}
use Rattle.std.specs.Prelude.{option_map}
use Rattle.fw_units.specs.declared.component.Component.{Component}
use Rattle.fw_units.specs.Frames.{goes_to}
use Rattle.fw_units.proofs.Taking.{found-at, none-found}
use Rattle.fw_units.proofs.places.in_of.Goals as goal

pub returns-in-Some : goal.returns-in-Some
returns-in-Some c = ap (λ (o : Option Component). option_map (λ c. c.id) o) (found-at (goes_to c.args.id) c.args.buffers.now c.in-Some.at _ c.in-Some.ensures)

pub returns-in-None : goal.returns-in-None
returns-in-None c = sym (ap (λ (o : Option Component). option_map (λ c. c.id) o) (none-found (goes_to c.args.id) c.args.buffers.now c.in-None.ensures))
