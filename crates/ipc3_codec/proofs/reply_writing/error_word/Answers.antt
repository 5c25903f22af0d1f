use Rattle.std.proofs.Common.{ap, ◌∙◌, of_z, SFits, w32, rules}
use Rattle.std.proofs.lemmas.Int.{to_z-of_z}
use Rattle.ipc3_codec.proofs.reply_writing.error_word.Goals as goal

pub returns : goal.returns
returns c =
    let error = c.args.error in
    let fits : SFits w32 error = search rules in
    c.cast_unsigned.ensures ∙ ap (of_z w32) (to_z-of_z w32 error fits)
