use Rattle.std.proofs.Common.{◌≡◌, Some, [], sym, ◌∙◌}
use Rattle.sof_base.specs.Slots.{has_zero}
use Rattle.tplg_build.proofs.names.empty_name.Goals as goal

pub unreachable-requires : goal.unreachable-requires
unfolding has_zero
unreachable-requires c = let is : c.new.result ≡ Some [] = c.new.ensures in let none = sym is ∙ c.in-None.is in cc none
