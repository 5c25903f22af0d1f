use Rattle.std.proofs.Common.{◌≡◌, sym, subst, ◌∙◌, ℕ, ℤ, List, [], ◌∷◌, map, rules, pos, w32, to_z, of_z, FitsSigned}
use Rattle.std.proofs.lemmas.Int.{to_z-of_z}
use Rattle.sof_base.specs.Equations.{channel_gain}
use Rattle.fw_gain.specs.Kernels.{eight_gains}
use Rattle.fw_gain.proofs.amplifying.factors_of.Goals as goal

-- eight factors of one channel, and of two
one-channel : (gains : List ℕ) (a : ℤ) → a ≡ pos (channel_gain gains 0) → a ∷ a ∷ a ∷ a ∷ a ∷ a ∷ a ∷ a ∷ [] ≡ map pos (eight_gains 1 gains)
one-channel gains a is = λ i. is i ∷ is i ∷ is i ∷ is i ∷ is i ∷ is i ∷ is i ∷ is i ∷ []

two-channels : (gains : List ℕ) (a b : ℤ) → a ≡ pos (channel_gain gains 0) → b ≡ pos (channel_gain gains 1) → a ∷ b ∷ a ∷ b ∷ a ∷ b ∷ a ∷ b ∷ [] ≡ map pos (eight_gains 2 gains)
two-channels gains a b is_a is_b = λ i. is_a i ∷ is_b i ∷ is_a i ∷ is_b i ∷ is_a i ∷ is_b i ∷ is_a i ∷ is_b i ∷ []

pub returns-then-channels-eq1 : goal.returns-then-channels-eq1
returns-then-channels-eq1 c =
    let gains : List ℕ = c.args.gains.now in let a : ℤ = c.factor_of-first.result in
    let fit : FitsSigned w32 a = search rules in
    let first : ℤ = to_z w32 (of_z w32 a) in
    subst (λ (n : ℕ). first ∷ first ∷ first ∷ first ∷ first ∷ first ∷ first ∷ first ∷ [] ≡ map pos (eight_gains n gains)) (sym c.if-channels-eq1.true) (one-channel gains first (to_z-of_z w32 a fit ∙ c.factor_of-first.ensures))

pub returns-then-channels-eq2 : goal.returns-then-channels-eq2
returns-then-channels-eq2 c =
    let gains : List ℕ = c.args.gains.now in let a : ℤ = c.factor_of-first.result in let b : ℤ = c.factor_of-second.result in
    let fit_a : FitsSigned w32 a = search rules in
    let fit_b : FitsSigned w32 b = search rules in
    let first : ℤ = to_z w32 (of_z w32 a) in
    let second : ℤ = to_z w32 (of_z w32 b) in
    subst (λ (n : ℕ). first ∷ second ∷ first ∷ second ∷ first ∷ second ∷ first ∷ second ∷ [] ≡ map pos (eight_gains n gains)) (sym c.if-channels-eq2.true)
    (two-channels gains first second (to_z-of_z w32 a fit_a ∙ c.factor_of-first.ensures) (to_z-of_z w32 b fit_b ∙ c.factor_of-second.ensures))
