use Rattle.std.proofs.Common.{◌≡◌, ap, ◌∙◌, ◌+◌, ◌*◌, ◌<◌, ◌≤◌, ◌⊎◌, inl, inr, ◌++◌, ℕ, arith}
use Rattle.eq_biquad.specs.PieceWords.{numbers_at}
use Rattle.eq_biquad.proofs.NumberLaws.{numbers_at-same}
use Rattle.eq_biquad.proofs.StretchLaws.{words-then}
use Rattle.eq_biquad.proofs.pair_numbers.put_series.Goals as goal

nearer : (slot i : ℕ) → (i < 8 * slot) ⊎ (8 * slot + 8 * 2 ≤ i) → (i < 8 * slot) ⊎ (8 * slot + 8 * 1 ≤ i)
nearer slot i (inl low) = inl low
nearer slot i (inr high) = inr (omega (arith, high))

further : (slot i : ℕ) → (i < 8 * slot) ⊎ (8 * slot + 8 * 2 ≤ i) → (i < 8 * (slot + 1)) ⊎ (8 * (slot + 1) + 8 * 1 ≤ i)
further slot i (inl low) = inl (omega (arith, low))
further slot i (inr high) = inr (omega (arith, high))

behind : (slot i : ℕ) → (i < 8 * (slot + 8)) ⊎ (8 * (slot + 8) + 8 * 2 ≤ i) → (i < 8 * (slot + 1 + 8)) ⊎ (8 * (slot + 1 + 8) + 8 * 1 ≤ i)
behind slot i (inl low) = inl (omega (arith, low))
behind slot i (inr high) = inr (omega (arith, high))

pub returns-clause-left : goal.returns-clause-left
returns-clause-left c =
    let slot = c.args.slot in let new = c.put_pair-2.new.words in
    let next : 8 * slot + 8 * 1 ≡ 8 * (slot + 1) = omega arith in
    words-then new (8 * slot) 1 1
    ∙ (λ i. (numbers_at-same new c.put_pair.new.words (8 * slot) 1 (λ i le under. c.put_pair-2.ensures.others i (inl (omega (arith, under))) (inl (omega (arith, under)))) ∙ c.put_pair.ensures.left) i
    ++ (ap (λ q. numbers_at new q 1) next ∙ c.put_pair-2.ensures.left) i)

pub returns-clause-right : goal.returns-clause-right
returns-clause-right c =
    let slot = c.args.slot in let new = c.put_pair-2.new.words in
    let next : 8 * slot + 64 + 8 * 1 ≡ 8 * (slot + 1) + 64 = omega arith in
    words-then new (8 * slot + 64) 1 1
    ∙ (λ i. (numbers_at-same new c.put_pair.new.words (8 * slot + 64) 1 (λ i le under. c.put_pair-2.ensures.others i (inr (omega (arith, le))) (inl (omega (arith, under)))) ∙ c.put_pair.ensures.right) i
    ++ (ap (λ q. numbers_at new q 1) next ∙ c.put_pair-2.ensures.right) i)

pub returns-clause-others : goal.returns-clause-others
returns-clause-others c =
    λ i out out'. c.put_pair-2.ensures.others i (further c.args.slot i out) (behind c.args.slot i out') ∙ c.put_pair.ensures.others i (nearer c.args.slot i out) (nearer (c.args.slot + 8) i out')
