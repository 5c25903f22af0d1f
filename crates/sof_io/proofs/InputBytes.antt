-- The bytes that an input holds.
use Rattle.std.proofs.Common.{◌≡◌, length, sym, ap, ◌∙◌, arith}
use Rattle.std.specs.Prelude.{vec_len}
use Rattle.sof_base.specs.Ports.{InputView}
use Rattle.sof_io.specs.declared.input.Input.TheInside.{Inside}
use Rattle.sof_io.specs.Round.{round_bytes, IsHeld}
use Rattle.sof_io.proofs.RoundBytes.{length-round}

-- they are as many as it says
pub held-is : (i : Inside) (now : InputView) → IsHeld i.start i.held (vec_len i.bytes) → length i.bytes.items ≡ vec_len i.bytes → round_bytes i.start i.held i.bytes.items ≡ now.left → length now.left ≡ i.held
held-is i now kept len left = ap length (sym left) ∙ length-round i.start i.held i.bytes.items (omega (arith, kept.begins, len)) (omega (arith, kept.fits, len))
