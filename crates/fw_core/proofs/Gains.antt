-- The first gains of a volume, and its ramp.
use Rattle.std.proofs.Common.{◌≡◌, refl, ap, ◌∙◌, ℕ, zero, suc, ◌≤◌, min, ◌==◌, cond, Bool, List, length, replicate, true, false, arith}
use Rattle.std.specs.Prelude.{nat_le}
use Rattle.std.proofs.lemmas.List.{length-replicate}
use Rattle.std.specs.List.{list_all}
use Rattle.std.proofs.lemmas.Bool.{and_parts, leb-true}
use Rattle.sof_base.specs.Ramps.{ramp_of}
use Rattle.ipc3_model.specs.Allowed.{is_channels}

most : (n : ℕ) → list_all (λ g. nat_le g 16777216) (replicate n 65536) ≡ true
most zero = refl
most (suc n) = most n

pub first-gains : (n : ℕ) (gains : List ℕ) → is_channels n ≡ true → gains ≡ replicate n 65536 → (1 ≤ length gains) × (length gains ≤ 8) × (list_all (λ g. nat_le g 16777216) gains ≡ true)
first-gains n gains right is =
    let parts = and_parts (nat_le 1 n) (nat_le n 8) right in
    let few = leb-true 1 n parts.0 in let many = leb-true n 8 parts.1 in
    let size : length gains ≡ n = ap length is ∙ length-replicate n 65536 in
    (omega arith, omega arith, ap (λ (xs : List ℕ). list_all (λ g. nat_le g 16777216) xs) is ∙ most n)

pub short-ramp : (kind milliseconds : ℕ) → ramp_of kind milliseconds ≤ 10000
short-ramp kind milliseconds = by (kind == 0)
  where
    by : (h : Bool) → cond h (min milliseconds 10000) 0 ≤ 10000
    by true = omega arith
    by false = omega arith
