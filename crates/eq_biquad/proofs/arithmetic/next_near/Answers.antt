use Rattle.std.proofs.Common.{◌≡◌, refl, rules, ◌*ℤ◌, w32, FitsSigned}
use Rattle.eq_biquad.proofs.ArithLaws.{abs-below}
use Rattle.eq_biquad.proofs.NearLaws.{next-fits, next-fits-2, next-fits-3, next-first, next-second, next-first-within, next-second-within}
use Rattle.eq_biquad.proofs.arithmetic.next_near.Goals as goal

pub overflow_add-result : goal.overflow_add-result
overflow_add-result c =
    let s = c.args.section in let x = c.args.x in let w = c.args.w in
    let fit_a1 : FitsSigned w32 s.a1 = search rules in
    let one : c.times_held.result ≡ s.b1 *ℤ x = search rules in
    next-fits s.b1 s.a1 s.b2 s.a2 x w c.args.second c.times_held.result (s.a1 *ℤ w) (s.b2 *ℤ x) (s.a2 *ℤ w) one refl refl refl c.ranges.x c.requires.held c.requires.narrow c.requires.second (abs-below s.a1 fit_a1)

pub overflow_add-result-2 : goal.overflow_add-result-2
overflow_add-result-2 c =
    let s = c.args.section in let x = c.args.x in let w = c.args.w in
    let fit_a1 : FitsSigned w32 s.a1 = search rules in
    let one : c.times_held.result ≡ s.b1 *ℤ x = search rules in
    next-fits-2 s.b1 s.a1 s.b2 s.a2 x w c.args.second c.times_held.result (s.a1 *ℤ w) (s.b2 *ℤ x) (s.a2 *ℤ w) one refl refl refl c.ranges.x c.requires.held c.requires.narrow c.requires.second (abs-below s.a1 fit_a1)

pub overflow_add-result-3 : goal.overflow_add-result-3
overflow_add-result-3 c =
    let s = c.args.section in let x = c.args.x in let w = c.args.w in
    let fit_a1 : FitsSigned w32 s.a1 = search rules in
    let one : c.times_held.result ≡ s.b1 *ℤ x = search rules in
    let two : c.times_held-2.result ≡ s.a1 *ℤ w = search rules in
    let three : c.times_held-3.result ≡ s.b2 *ℤ x = search rules in
    let four : c.times_held-4.result ≡ s.a2 *ℤ w = search rules in
    next-fits-3 s.b1 s.a1 s.b2 s.a2 x w c.args.second c.times_held.result c.times_held-2.result c.times_held-3.result c.times_held-4.result one two three four c.ranges.x c.requires.held c.requires.narrow c.requires.second (abs-below s.a1 fit_a1)

pub returns-clause-first : goal.returns-clause-first
returns-clause-first c =
    let s = c.args.section in let x = c.args.x in let w = c.args.w in
    let fit_a1 : FitsSigned w32 s.a1 = search rules in
    let one : c.times_held.result ≡ s.b1 *ℤ x = search rules in
    let two : c.times_held-2.result ≡ s.a1 *ℤ w = search rules in
    let three : c.times_held-3.result ≡ s.b2 *ℤ x = search rules in
    let four : c.times_held-4.result ≡ s.a2 *ℤ w = search rules in
    next-first s.b1 s.a1 s.b2 s.a2 x w c.args.second c.times_held.result c.times_held-2.result c.times_held-3.result c.times_held-4.result one two three four c.ranges.x c.requires.held c.requires.narrow c.requires.second (abs-below s.a1 fit_a1)

pub returns-clause-second : goal.returns-clause-second
returns-clause-second c =
    let s = c.args.section in let x = c.args.x in let w = c.args.w in
    let fit_a1 : FitsSigned w32 s.a1 = search rules in
    let one : c.times_held.result ≡ s.b1 *ℤ x = search rules in
    let two : c.times_held-2.result ≡ s.a1 *ℤ w = search rules in
    let three : c.times_held-3.result ≡ s.b2 *ℤ x = search rules in
    let four : c.times_held-4.result ≡ s.a2 *ℤ w = search rules in
    next-second s.b1 s.a1 s.b2 s.a2 x w c.args.second c.times_held.result c.times_held-2.result c.times_held-3.result c.times_held-4.result one two three four c.ranges.x c.requires.held c.requires.narrow c.requires.second (abs-below s.a1 fit_a1)

pub returns-clause-within : goal.returns-clause-within
returns-clause-within c =
    let s = c.args.section in let x = c.args.x in let w = c.args.w in
    let fit_a1 : FitsSigned w32 s.a1 = search rules in
    let one : c.times_held.result ≡ s.b1 *ℤ x = search rules in
    let two : c.times_held-2.result ≡ s.a1 *ℤ w = search rules in
    let three : c.times_held-3.result ≡ s.b2 *ℤ x = search rules in
    let four : c.times_held-4.result ≡ s.a2 *ℤ w = search rules in
    (next-first-within s.b1 s.a1 s.b2 s.a2 x w c.args.second c.times_held.result c.times_held-2.result c.times_held-3.result c.times_held-4.result one two three four c.ranges.x c.requires.held c.requires.narrow c.requires.second (abs-below s.a1 fit_a1), next-second-within s.b1 s.a1 s.b2 s.a2 x w c.args.second c.times_held.result c.times_held-2.result c.times_held-3.result c.times_held-4.result one two three four c.ranges.x c.requires.held c.requires.narrow c.requires.second (abs-below s.a1 fit_a1))
