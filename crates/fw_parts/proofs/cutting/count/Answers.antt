use Rattle.std.proofs.Common.{ap, ◌∙◌, ℕ, ◌+◌, ◌-◌, ◌/◌, length-drop, arith}
use Rattle.fw_parts.proofs.cutting.count.Goals as goal

pub returns : goal.returns
returns c = c.count_of.ensures ∙ ap (λ (n : ℕ). (n + 259) / 260) (omega (arith, length-drop 32 c.args.blob.now))
