use Rattle.std.proofs.Common.{◌∙◌, ◌+◌, ◌≤◌, ◌<◌, ◌⊎◌, inl, inr, ℕ, arith}
use Rattle.eq_biquad.proofs.ArithLaws.{same-128}
use Rattle.eq_biquad.proofs.NumberLaws.{wide-same}
use Rattle.eq_biquad.proofs.numbers.put_numbers.Goals as goal

pub returns-clause-numbers : goal.returns-clause-numbers
returns-clause-numbers c = (
  wide-same c.put_wide-2.new.words c.put_wide.new.words c.args.place (λ i le lt. c.put_wide-2.ensures.others i (inl (omega arith))) ∙ c.put_wide.ensures.number ∙ same-128 c.args.numbers.first (omega (arith, c.requires.within)),
  c.put_wide-2.ensures.number ∙ same-128 c.args.numbers.second (omega (arith, c.requires.within)),
)

first : (i p : ℕ) → (i < p) ⊎ (p + 8 ≤ i) → (i < p) ⊎ (p + 4 ≤ i)
first i p (inl low) = inl low
first i p (inr high) = inr (omega arith)

second : (i p : ℕ) → (i < p) ⊎ (p + 8 ≤ i) → (i < p + 4) ⊎ (p + 4 + 4 ≤ i)
second i p (inl low) = inl (omega arith)
second i p (inr high) = inr (omega arith)

pub returns-clause-others : goal.returns-clause-others
returns-clause-others c = λ i out. c.put_wide-2.ensures.others i (second i c.args.place out) ∙ c.put_wide.ensures.others i (first i c.args.place out)
