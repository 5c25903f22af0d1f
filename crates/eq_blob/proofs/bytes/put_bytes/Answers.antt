use Rattle.std.proofs.Common.{refl, ap, ◌∙◌, ℕ, ◌+◌, List, get_or, set, arith}
use Rattle.eq_blob.specs.WordBytes.{bytes_of_words}
use Rattle.eq_blob.proofs.ByteLaws.{length-bytes, put-more}
use Rattle.eq_blob.proofs.bytes.put_bytes.Goals as goal

pub loop-i-preserved : goal.loop-i-preserved
loop-i-preserved c =
    let old = bytes_of_words c.args.words.now in let bytes = c.args.bytes.now in let i = c.loop-i.i in let at = c.args.at in
    c.put_byte.ensures
    ∙ ap (λ (l : List ℕ). set l (at + i) (get_or bytes i 0)) c.loop-i.invariant
    ∙ put-more old bytes at i (get_or bytes i 0) (omega (arith, c.loop-i-test.true, c.requires, length-bytes c.args.words.now)) c.loop-i-test.true refl
