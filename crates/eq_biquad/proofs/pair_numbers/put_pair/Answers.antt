use Rattle.std.proofs.Common.{sym, subst, ◌∙◌, ◌+◌, ◌*◌, ◌^◌, ◌<◌, ◌≤◌, ◌⊎◌, inl, inr, [], ◌∷◌, ℕ, ℤ, nat_abs, arith, w64, FitsSigned}
use Rattle.std.proofs.lemmas.Int.{ints}
use Rattle.eq_biquad.specs.Pairs.{left_number, right_number}
use Rattle.eq_biquad.proofs.NearLaws.{less-within}
use Rattle.eq_biquad.proofs.NumberLaws.{numbers_at-same, numbers-put, slot-put}
use Rattle.eq_biquad.proofs.pair_numbers.put_pair.Goals as goal

fits-within : (z : ℤ) → FitsSigned w64 z → nat_abs z ≤ 2 ^ 63
fits-within z fit = omega (arith, ints, fit.sfits)

further : (slot i : ℕ) → (i < 8 * (slot + 8)) ⊎ (8 * (slot + 8) + 8 * 1 ≤ i) → (i < 8 * slot + 64) ⊎ (8 * slot + 64 + 8 ≤ i)
further slot i (inl low) = inl (omega (arith, low))
further slot i (inr high) = inr (omega (arith, high))

pub put_numbers-requires-clause-within : goal.put_numbers-requires-clause-within
put_numbers-requires-clause-within c =
    let near = c.args.near in let parts = c.requires.near in let numbers = c.numbers_of-numbers.ensures in
    let left_one : nat_abs c.numbers_of-numbers.result.0.first ≤ 2 ^ 64 = subst (λ z. nat_abs z ≤ 2 ^ 64) (sym numbers.left.0) (less-within (left_number near.ahead) (left_number near.fed) parts.sums.0) in
    let left_two : nat_abs c.numbers_of-numbers.result.0.second ≤ 2 ^ 63 = subst (λ z. nat_abs z ≤ 2 ^ 63) (sym numbers.left.1) (fits-within (left_number near.second) parts.second.1.0) in
    let right_one : nat_abs c.numbers_of-numbers.result.1.first ≤ 2 ^ 64 = subst (λ z. nat_abs z ≤ 2 ^ 64) (sym numbers.right.0) (less-within (right_number near.ahead) (right_number near.fed) parts.sums.1) in
    let right_two : nat_abs c.numbers_of-numbers.result.1.second ≤ 2 ^ 63 = subst (λ z. nat_abs z ≤ 2 ^ 63) (sym numbers.right.1) (fits-within (right_number near.second) parts.second.1.1) in
    (left_one, omega (arith, left_two))

pub put_numbers-requires-2-clause-within : goal.put_numbers-requires-2-clause-within
put_numbers-requires-2-clause-within c =
    let near = c.args.near in let parts = c.requires.near in let numbers = c.numbers_of-numbers.ensures in
    let left_one : nat_abs c.numbers_of-numbers.result.0.first ≤ 2 ^ 64 = subst (λ z. nat_abs z ≤ 2 ^ 64) (sym numbers.left.0) (less-within (left_number near.ahead) (left_number near.fed) parts.sums.0) in
    let left_two : nat_abs c.numbers_of-numbers.result.0.second ≤ 2 ^ 63 = subst (λ z. nat_abs z ≤ 2 ^ 63) (sym numbers.left.1) (fits-within (left_number near.second) parts.second.1.0) in
    let right_one : nat_abs c.numbers_of-numbers.result.1.first ≤ 2 ^ 64 = subst (λ z. nat_abs z ≤ 2 ^ 64) (sym numbers.right.0) (less-within (right_number near.ahead) (right_number near.fed) parts.sums.1) in
    let right_two : nat_abs c.numbers_of-numbers.result.1.second ≤ 2 ^ 63 = subst (λ z. nat_abs z ≤ 2 ^ 63) (sym numbers.right.1) (fits-within (right_number near.second) parts.second.1.1) in
    (right_one, omega (arith, right_two))

pub returns-clause-left : goal.returns-clause-left
returns-clause-left c =
    let numbers = c.numbers_of-numbers.ensures in let put = c.put_numbers.ensures.numbers in
    numbers_at-same c.put_numbers-2.new.words c.put_numbers.new.words (8 * c.args.slot) 1 (λ i le under. c.put_numbers-2.ensures.others i (inl (omega (arith, under))))
    ∙ (λ i. (put.0 ∙ numbers.left.0) i ∷ (put.1 ∙ numbers.left.1) i ∷ [])

pub returns-clause-right : goal.returns-clause-right
returns-clause-right c =
    let numbers = c.numbers_of-numbers.ensures in let put = c.put_numbers-2.ensures.numbers in
    λ i. (put.0 ∙ numbers.right.0) i ∷ (put.1 ∙ numbers.right.1) i ∷ []

pub returns-clause-others : goal.returns-clause-others
returns-clause-others c =
    λ i out out'. c.put_numbers-2.ensures.others i (further c.args.slot i out') ∙ c.put_numbers.ensures.others i out

pub returns-clause-within : goal.returns-clause-within
returns-clause-within c =
    let near = c.args.near in let parts = c.requires.near in let numbers = c.numbers_of-numbers.ensures in
    let left_one : nat_abs c.numbers_of-numbers.result.0.first ≤ 2 ^ 64 = subst (λ z. nat_abs z ≤ 2 ^ 64) (sym numbers.left.0) (less-within (left_number near.ahead) (left_number near.fed) parts.sums.0) in
    let left_two : nat_abs c.numbers_of-numbers.result.0.second ≤ 2 ^ 63 = subst (λ z. nat_abs z ≤ 2 ^ 63) (sym numbers.left.1) (fits-within (left_number near.second) parts.second.1.0) in
    let right_one : nat_abs c.numbers_of-numbers.result.1.first ≤ 2 ^ 64 = subst (λ z. nat_abs z ≤ 2 ^ 64) (sym numbers.right.0) (less-within (right_number near.ahead) (right_number near.fed) parts.sums.1) in
    let right_two : nat_abs c.numbers_of-numbers.result.1.second ≤ 2 ^ 63 = subst (λ z. nat_abs z ≤ 2 ^ 63) (sym numbers.right.1) (fits-within (right_number near.second) parts.second.1.1) in
    let one = c.put_numbers.ensures in let two = c.put_numbers-2.ensures in let left = c.numbers_of-numbers.result.0 in let right = c.numbers_of-numbers.result.1 in
    let first = numbers-put c.args.words.now c.put_numbers.new.words c.args.slot left.first left.second c.requires.numbers one.numbers.0 one.numbers.1 left_one left_two one.others in
    slot-put c.put_numbers.new.words c.put_numbers-2.new.words c.args.slot 8 right.first right.second first two.numbers.0 two.numbers.1 right_one right_two two.others
