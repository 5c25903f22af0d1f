use Rattle.std.proofs.Common.{◌≡◌, sym, ap, ◌∙◌, ◌+◌, ◌*◌, ◌++◌, ℕ, arith}
use Rattle.eq_biquad.specs.PieceWords.{numbers_at}
use Rattle.eq_biquad.proofs.StretchLaws.{words-then}
use Rattle.eq_biquad.proofs.pair_numbers.near_series.Goals as goal

pub returns-clause-left : goal.returns-clause-left
returns-clause-left c =
    let words = c.args.words.now in let p : ℕ = 8 * c.args.slot in
    let next : 8 * (c.args.slot + 1) ≡ p + 8 * 1 = omega arith in
    (λ i. c.in_ok-first.ensures.left i ++ (c.in_ok-second.ensures.left ∙ ap (λ q. numbers_at words q 1) next) i) ∙ sym (words-then words p 1 1)

pub returns-clause-right : goal.returns-clause-right
returns-clause-right c =
    let words = c.args.words.now in let p : ℕ = 8 * c.args.slot + 64 in
    let next : 8 * (c.args.slot + 1) + 64 ≡ p + 8 * 1 = omega arith in
    (λ i. c.in_ok-first.ensures.right i ++ (c.in_ok-second.ensures.right ∙ ap (λ q. numbers_at words q 1) next) i) ∙ sym (words-then words p 1 1)

pub returns-clause-beside : goal.returns-clause-beside
returns-clause-beside c =
    let first = c.in_ok-first.ensures.beside in let second = c.in_ok-second.ensures.beside in
    ((first.0, second.0), (first.1, second.1))

pub returns-clause-near : goal.returns-clause-near
returns-clause-near c = (c.in_ok-first.ensures.near, c.in_ok-second.ensures.near)
