use Rattle.std.proofs.Common.{sym, ap}
use Rattle.sof_base.specs.Ports.{InputView}
use Rattle.sof_io.proofs.InputBytes.{held-is}
use Rattle.sof_io.proofs.input.Input.held.Goals as goal

pub returns : goal.returns
returns c = sym (held-is c.self.inside c.args.self.now c.self.invariant.0 (sym c.self.inside.bytes.ok.0) (ap (λ (view : InputView). view.left) c.self.view_is))
