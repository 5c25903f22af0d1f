-- How many edges a component of a kind may have, and which of more or fewer are right.
use Rattle.std.proofs.Common.{◌≡◌, ℕ, zero, suc, ◌+◌, ◌≤◌, true, false, arith}
use Rattle.std.proofs.lemmas.Bool.{true≢false, and_parts, and_from, eqb-true, eq-eqb, leb-true, le-leb}
use Rattle.std.specs.Prelude.{nat_le}
use Rattle.stream_law.specs.declared.graph.Kind.{Kind}
use Rattle.stream_law.specs.declared.graph.Kind.TheVariants.{HostPlay, DaiCapture, Mixer, Mux}
use Rattle.stream_law.specs.Joins.{kind_ins, kind_outs, is_right_number, fits_kind}
use Rattle.stream_law.specs.Moves.{skips_idle_inputs}

pub right-most : (most n : ℕ) → is_right_number most n ≡ true → n ≤ most
right-most zero n right = let none = eqb-true n 0 right in omega (arith, none)
right-most (suc zero) n right = let one = eqb-true n 1 right in omega (arith, one)
right-most (suc (suc more)) n right = leb-true n (suc (suc more)) (and_parts (nat_le 1 n) (nat_le n (suc (suc more))) right).1

-- one more is right where there is room for it
pub more-right : (most m l : ℕ) → m ≤ l → l ≤ m + 1 → m + 1 ≤ most → is_right_number most m ≡ true → is_right_number most l ≡ true
more-right zero m l least near room right = absurd (omega (arith, room))
more-right (suc zero) m l least near room right = let one = eqb-true m 1 right in absurd (omega (arith, room, one))
more-right (suc (suc more)) m l least near room right =
    let some = leb-true 1 m (and_parts (nat_le 1 m) (nat_le m (suc (suc more))) right).0 in
    and_from _ _ (le-leb 1 l (omega (arith, some, least))) (le-leb l (suc (suc more)) (omega (arith, room, near)))

-- fewer are right, where one at least is left
pub fewer-right : (most m l : ℕ) → 1 ≤ l → l ≤ m → is_right_number most m ≡ true → is_right_number most l ≡ true
fewer-right zero m l some fewer right = let none = eqb-true m 0 right in absurd (omega (arith, none, some, fewer))
fewer-right (suc zero) m l some fewer right = let one = eqb-true m 1 right in eq-eqb l 1 (omega (arith, one, some, fewer))
fewer-right (suc (suc more)) m l some fewer right =
    let few = leb-true m (suc (suc more)) (and_parts (nat_le 1 m) (nat_le m (suc (suc more))) right).1 in
    and_from _ _ (le-leb 1 l some) (le-leb l (suc (suc more)) (omega (arith, few, fewer)))

-- the two numbers of a component that may play
pub right-ins : (k : Kind) (m n : ℕ) → fits_kind k m n ≡ true → is_right_number (kind_ins k) m ≡ true
right-ins k m n fits = (and_parts (is_right_number (kind_ins k) m) (is_right_number (kind_outs k) n) fits).0

pub right-outs : (k : Kind) (m n : ℕ) → fits_kind k m n ≡ true → is_right_number (kind_outs k) n ≡ true
right-outs k m n fits = (and_parts (is_right_number (kind_ins k) m) (is_right_number (kind_outs k) n) fits).1

-- only kinds that choose have more than one edge in
pub most-ins : (k : Kind) → skips_idle_inputs k ≡ false → kind_ins k ≤ 1
most-ins Mixer plain = absurd (true≢false plain)
most-ins Mux plain = absurd (true≢false plain)
most-ins HostPlay plain = omega arith
most-ins (DaiCapture format) plain = omega arith
most-ins kind plain = omega arith
