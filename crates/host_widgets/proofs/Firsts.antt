-- The first number of a range that passes a test.
use Rattle.std.proofs.Common.{◌≡◌, ap, ◌∙◌, ℕ, suc, ◌+◌, ◌-◌, ◌<◌, ◌≤◌, Bool, true, false, cond, Option, Some, None, arith}
use Rattle.std.specs.Prelude.{find}
use Rattle.std.specs.List.{range_with_len}

module _ (f : ℕ → Bool) (max : ℕ) where
  -- the first from v on, up to max
  abbrev pub from : ℕ → Option ℕ
  from v = find f (range_with_len v (suc max - v))

  front : (v : ℕ) → v < max + 1 → from v ≡ cond (f v) (Some v) (find f (range_with_len (v + 1) (max - v)))
  front v within = ap (λ (n : ℕ). find f (range_with_len v n)) (let more : suc max - v ≡ suc (max - v) = omega (arith, within) in more)

  pub from-next : (v : ℕ) → v < max + 1 → f v ≡ false → from v ≡ from (v + 1)
  from-next v within fails =
      front v within
      ∙ ap (λ (b : Bool). cond b (Some v) (find f (range_with_len (v + 1) (max - v)))) fails
      ∙ ap (λ (n : ℕ). find f (range_with_len (v + 1) n)) (let less : max - v ≡ suc max - (v + 1) = omega arith in less)

  pub from-here : (v : ℕ) → v < max + 1 → f v ≡ true → from v ≡ Some v
  from-here v within passes = front v within ∙ ap (λ (b : Bool). cond b (Some v) (find f (range_with_len (v + 1) (max - v)))) passes

  pub from-past : (v : ℕ) → max + 1 ≤ v → from v ≡ None
  from-past v past = ap (λ (n : ℕ). find f (range_with_len v n)) (let none : suc max - v ≡ 0 = omega (arith, past) in none)
