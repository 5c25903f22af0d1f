use Rattle.std.proofs.Common.{ℕ, ◌+◌, ◌/◌, sym, ap, arith}
use Rattle.std.proofs.lemmas.List.{length-drop}
use Rattle.host_widgets.proofs.PartFacts.{blob-long}
use Rattle.host_widgets.proofs.parts.part_count.Goals as goal

pub overflow_sub-result : goal.overflow_sub-result
overflow_sub-result c = let l = (blob-long c.args.blob.now c.requires).0 in omega (arith, l)

pub overflow_cast-result : goal.overflow_cast-result
overflow_cast-result c = let l = (blob-long c.args.blob.now c.requires).1 in omega (arith, l)

pub returns : goal.returns
returns c = ap (λ (n : ℕ). (n + 259) / 260) (sym (length-drop 32 c.args.blob.now))
