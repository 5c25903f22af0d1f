use Rattle.std.proofs.Common.{ap, ◌∙◌, sym, ◌++◌, ◌∷◌, [], ◌<◌, ℕ, List, length, take, arith}
use Rattle.std.proofs.lemmas.List.{take_more, take_more_set}
use Rattle.eq_blob.specs.WordBytes.{bytes_of_words}
use Rattle.eq_blob.proofs.ByteLaws.{length-bytes}
use Rattle.eq_blob.proofs.bytes.copy_out.Goals as goal

pub loop-i-preserved : goal.loop-i-preserved
loop-i-preserved c =
    let out = c.loop-i.out in let i = c.loop-i.i in let all = bytes_of_words c.args.words.now in
    let lt : i < length out = omega (arith, c.loop-i-test.true, c.loop-i.auto.out) in
    let under : i < length all = omega (arith, c.loop-i-test.true, c.requires, length-bytes c.args.words.now) in
    take_more_set out i c.byte_at.result lt
    ∙ ap (λ (t : List ℕ). t ++ c.byte_at.result ∷ []) c.loop-i.invariant
    ∙ ap (λ b. take i all ++ b ∷ []) c.byte_at.ensures
    ∙ sym (take_more all i 0 under)
