use Rattle.std.proofs.Common.{◌≡◌, refl, ap, ◌∙◌, ◌+◌, List, ℕ, ℤ, length, take, drop, arith, take_at, length-take, length-drop}
use Rattle.eq_blob.specs.WordBytes.{bytes_of_words}
use Rattle.eq_biquad.proofs.PartLaws.{own-put, from-after, from-same, drop-put}
use Rattle.eq_biquad.proofs.equaliser.install_words.Goals as goal

pub returns-clause-blob : goal.returns-clause-blob
returns-clause-blob c =
    let ws = c.clear_numbers.new.words in let new = c.put_bytes.new.words in let n : ℕ = length c.args.blob.now in let old = bytes_of_words (take 256 (drop 16 ws)) in
    let long : length ws ≡ 1040 = omega (arith, c.clear_numbers.auto.words, c.requires.words) in
    let part : length new ≡ 256 = omega (arith, c.put_bytes.auto.words, length-take 256 (drop 16 ws), length-drop 16 ws, long) in
    ap (λ (l : List ℤ). take n (bytes_of_words l)) (own-put 16 256 ws new part (omega (arith, long)))
    ∙ ap (take n) c.put_bytes.ensures
    ∙ take_at c.args.blob.now (drop (0 + n) old) n refl

pub returns-clause-staged : goal.returns-clause-staged
returns-clause-staged c =
    let ws = c.clear_numbers.new.words in let new = c.put_bytes.new.words in
    let long : length ws ≡ 1040 = omega (arith, c.clear_numbers.auto.words, c.requires.words) in
    let part : length new ≡ 256 = omega (arith, c.put_bytes.auto.words, length-take 256 (drop 16 ws), length-drop 16 ws, long) in
    from-after 272 256 16 256 ws new part (omega arith) (omega (arith, long)) ∙ from-same 528 272 256 ws c.args.words.now (omega arith) c.clear_numbers.ensures.before

pub returns-clause-numbers : goal.returns-clause-numbers
returns-clause-numbers c =
    let ws = c.clear_numbers.new.words in let new = c.put_bytes.new.words in
    let long : length ws ≡ 1040 = omega (arith, c.clear_numbers.auto.words, c.requires.words) in
    let part : length new ≡ 256 = omega (arith, c.put_bytes.auto.words, length-take 256 (drop 16 ws), length-drop 16 ws, long) in
    drop-put 528 16 256 ws new part (omega arith) (omega (arith, long)) ∙ c.clear_numbers.ensures.numbers
