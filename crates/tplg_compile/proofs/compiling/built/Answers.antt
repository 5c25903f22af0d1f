use Rattle.std.proofs.Common.{sym, ◌∙◌}
use Rattle.tplg_compile.proofs.compiling.built.Goals as goal

pub unreachable-requires : goal.unreachable-requires
unreachable-requires c = cc (sym c.in-Err-TooLarge.field-0-is ∙ c.in-Err-TooLarge.ensures.small c.requires)
