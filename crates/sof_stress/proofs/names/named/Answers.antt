use Rattle.std.proofs.Common.{sym, ◌∙◌}
use Rattle.sof_stress.proofs.names.named.Goals as goal

pub unreachable-requires : goal.unreachable-requires
unreachable-requires c = cc (sym c.in-None.is ∙ rw c.requires at c.new.ensures)
