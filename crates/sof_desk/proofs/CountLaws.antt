-- Numbers that are the same, and counts that rise.
use Rattle.std.proofs.Common.{◌≡◌, ◌≤◌, ℕ, Bool, true, false, nat_eq, arith, if◌then◌else◌}
use Rattle.sof_desk.specs.Counts.{one_more}
use Rattle.sof_desk.specs.Desk.{CountRose}

pub same_number : (m n : ℕ) → nat_eq m n ≡ true → m ≡ n
same_number m n same = grind arith

pub le-one_more : (n : ℕ) → n ≤ one_more n
le-one_more n = grind arith

pub rose-one_more : (n : ℕ) → CountRose n (one_more n)
rose-one_more n = grind arith

pub kept_faults : (n : ℕ) (done : Bool) → n ≤ (if done then n else one_more n)
kept_faults n true = omega arith
kept_faults n false = le-one_more n

pub failed_faults : (n : ℕ) (done : Bool) → done ≡ false → CountRose n (if done then n else one_more n)
failed_faults n true is = cc
failed_faults n false is = rose-one_more n
