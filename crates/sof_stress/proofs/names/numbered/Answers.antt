use Rattle.std.proofs.Common.{arith}
use Rattle.sof_stress.proofs.NameLaws.{two_are_name}
use Rattle.sof_stress.proofs.names.numbered.Goals as goal

pub named-requires : goal.named-requires
named-requires c = two_are_name c.args.letter c.digit.result c.requires.letter (omega (arith, c.digit.ensures))
