-- Sides that refer to the same.
use Rattle.std.proofs.Common.{◌∙◌}
use Rattle.host_widgets.specs.declared.host_call.HostCall.{HostCall}
use Rattle.host_widgets.specs.Sides.{SameSide}

-- one side after the other
pub same-on : {P : Type 0} (a b c : HostCall P) → SameSide a b → SameSide b c → SameSide a c
same-on a b c first then = record {
  plan = then.plan ∙ first.plan;
  heap = then.heap ∙ first.heap;
  kept = then.kept ∙ first.kept;
  dsp = then.dsp ∙ first.dsp;
  io = then.io ∙ first.io;
  out = then.out ∙ first.out;
}
