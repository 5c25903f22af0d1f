use Rattle.std.proofs.Common.{◌≡◌, ap, ◌∙◌, length, drop, arith, length-take, length-drop}
use Rattle.eq_blob.specs.WordBytes.{bytes_of_words}
use Rattle.eq_biquad.proofs.PartLaws.{own-put, from-before, drop-put}
use Rattle.eq_biquad.proofs.equaliser.stage_words.Goals as goal

pub returns-clause-staged : goal.returns-clause-staged
returns-clause-staged c =
    let ws = c.args.words.now in let new = c.put_bytes.new.words in
    let part : length new ≡ 256 = omega (arith, c.put_bytes.auto.words, length-take 256 (drop 272 ws), length-drop 272 ws, c.requires.words) in
    ap bytes_of_words (own-put 272 256 ws new part (omega (arith, c.requires.words))) ∙ c.put_bytes.ensures

pub returns-clause-blob : goal.returns-clause-blob
returns-clause-blob c = from-before 16 256 272 256 c.args.words.now c.put_bytes.new.words (omega arith) (omega (arith, c.requires.words))

pub returns-clause-numbers : goal.returns-clause-numbers
returns-clause-numbers c =
    let ws = c.args.words.now in let new = c.put_bytes.new.words in
    let part : length new ≡ 256 = omega (arith, c.put_bytes.auto.words, length-take 256 (drop 272 ws), length-drop 272 ws, c.requires.words) in
    drop-put 528 272 256 ws new part (omega arith) (omega (arith, c.requires.words))
