-- A few bytes that are not zero are a name.
use Rattle.std.proofs.Common.{◌≡◌, ℕ, zero, suc, ◌≤◌, true, [], ◌∷◌, refl, arith}
use Rattle.sof_base.specs.Slots.{is_name, has_zero}

pub two_are_name : (a b : ℕ) → 1 ≤ a → 1 ≤ b → is_name (a ∷ b ∷ []) ≡ true
unfolding has_zero
two_are_name zero b first second = absurd (omega (arith, first))
two_are_name (suc a) zero first second = absurd (omega (arith, second))
two_are_name (suc a) (suc b) first second = refl

-- the name of a PCM, and that of a pipeline
pub pcm_is_name : (n : ℕ) → 1 ≤ n → is_name (80 ∷ 67 ∷ 77 ∷ n ∷ []) ≡ true
unfolding has_zero
pcm_is_name zero some = absurd (omega (arith, some))
pcm_is_name (suc n) some = refl

pub pipeline_is_name : (n : ℕ) → 1 ≤ n → is_name (80 ∷ 73 ∷ 80 ∷ 69 ∷ n ∷ []) ≡ true
unfolding has_zero
pipeline_is_name zero some = absurd (omega (arith, some))
pipeline_is_name (suc n) some = refl
