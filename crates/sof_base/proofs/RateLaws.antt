-- A rate is at most the greatest.
use Rattle.std.proofs.Common.{◌≡◌, refl, subst, sym, ℕ, ◌≤◌, ◌%◌, Bool, true, false, ◌==◌, arith}
use Rattle.std.specs.Prelude.{◌&&◌, ◌||◌, nat_le}
use Rattle.std.proofs.lemmas.Bool.{and_parts, leb-true, eqb-true}
use Rattle.sof_base.specs.Rates.{is_rate}

-- what follows from each of two tests follows where one passes
either : (a b : Bool) (n : ℕ) → (a ≡ true → n ≤ 192000) → (b ≡ true → n ≤ 192000) → (a || b) ≡ true → n ≤ 192000
either true b n first second is = first refl
either false b n first second is = second is

-- one of the family
named : (n rate : ℕ) → rate ≤ 192000 → (n == rate) ≡ true → n ≤ 192000
named n rate few is = subst (λ k. k ≤ 192000) (sym (eqb-true n rate is)) few

pub rate-most : (n : ℕ) → is_rate n ≡ true → n ≤ 192000
rate-most n is =
    either (thousands || n == 11025 || n == 22050 || n == 44100) (n == 88200) n
    (λ h. either (thousands || n == 11025 || n == 22050) (n == 44100) n
    (λ h. either (thousands || n == 11025) (n == 22050) n
    (λ h. either thousands (n == 11025) n
    (λ h. leb-true n 192000 (and_parts (nat_le 8000 n) (nat_le n 192000) (and_parts (nat_le 8000 n && nat_le n 192000) (n % 1000 == 0) h).0).1)
    (named n 11025 (omega arith)) h)
    (named n 22050 (omega arith)) h)
    (named n 44100 (omega arith)) h)
    (named n 88200 (omega arith))
    is
  where
    thousands : Bool
    thousands = nat_le 8000 n && nat_le n 192000 && n % 1000 == 0
