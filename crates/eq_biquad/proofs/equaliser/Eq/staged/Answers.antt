use Rattle.std.proofs.Common.{◌≡◌, ap, ◌∙◌, ℤ, List, length, take, drop, arith, rules, length-take}
use Rattle.std.proofs.lemmas.List.{take_all}
use Rattle.eq_blob.specs.WordBytes.{bytes_of_words}
use Rattle.eq_blob.proofs.ByteLaws.{length-bytes}
use Rattle.eq_biquad.proofs.equaliser.Eq.staged.Goals as goal

pub returns : goal.returns
returns c =
    let ws = c.words-words.result.now in let part = take 256 (drop 272 ws) in
    let long : length c.args.out.now ≡ 1024 = search rules in
    rw (← c.self.view_is) (c.copy_out.ensures
    ∙ take_all (length c.args.out.now) (bytes_of_words part) (omega (arith, long, length-bytes part, length-take 256 (drop 272 ws)))
    ∙ ap (λ (l : List ℤ). bytes_of_words (take 256 (drop 272 l))) c.words-words.ensures)
