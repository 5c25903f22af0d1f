use Rattle.std.proofs.Common.{ap, sym, ◌∙◌, ◌<◌, length, get_or, arith, rules, pos, w32, FitsSigned}
use Rattle.std.specs.Int.{cast_unsigned}
use Rattle.std.proofs.lemmas.Int.{to_z-of_z}
use Rattle.eq_blob.proofs.ByteLaws.{word-bytes}
use Rattle.eq_biquad.proofs.lookup.count_at.Goals as goal

pub returns : goal.returns
returns c =
    let ws = c.args.blob.now in let i = c.args.place in
    let fit : FitsSigned w32 (get_or ws i (pos 0)) = search rules in
    let lt : i < length ws = omega (arith, c.requires) in
    c.cast_unsigned.ensures ∙ ap (cast_unsigned w32) (to_z-of_z w32 (get_or ws i (pos 0)) fit) ∙ sym (word-bytes ws i c.args._len lt c.requires.0 fit)
