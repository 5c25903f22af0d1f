use Rattle.std.proofs.Common.{false}
use Rattle.sof_io.proofs.RoundBytes.{round-none}
use Rattle.sof_io.proofs.input.Input.new.Goals as goal

pub returns : goal.returns
returns c = λ i. record { slot = c.args.slot; position = 0; left = round-none 0 c.in_ok-with_capacity.field-0.items i; ended = false }
