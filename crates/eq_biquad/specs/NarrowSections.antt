-- Sections whose sums stay within 64 bits.
use Rattle.std.specs.Prelude.{◌+◌, ◌-◌, ◌*◌, ◌^◌, ◌<◌, ◌≤◌, ℤ, nat_abs}
use Rattle.sof_base.specs.Equations as law

-- a section with two numbers whose sums stay below 7 * 2 ^ 61 in size, and the parts of its numbers within 64 bits
pub record IsNarrow (s : law.Section) (first second : ℤ) : Type 0 where
  pub ahead : nat_abs s.b1 + (nat_abs s.b2 + nat_abs s.a2) < 2 ^ 32
  pub all : nat_abs s.b0 + nat_abs s.a1 + (nat_abs s.b1 + (nat_abs s.b2 + nat_abs s.a2)) < 7 * 2 ^ 30
  pub input : nat_abs s.b0 ≤ 2 ^ 31
  pub first_within : nat_abs first ≤ 2 ^ 63 - 2 ^ 30
  pub second_within : nat_abs second ≤ (nat_abs s.b2 + nat_abs s.a2) * 2 ^ 31
