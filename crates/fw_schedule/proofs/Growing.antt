-- How far outputs grow at some slots.
use Rattle.std.proofs.Common.{◌≡◌, refl, sym, ap, ◌∙◌, ℕ, ◌+◌, ◌≤◌, List, [], ◌∷◌, ◌++◌, length, Bool, true, false, cond, ◌==◌, ◌||◌, subst, arith, length-append}
use Rattle.std.proofs.lemmas.Bool.{eqb-true, or_from, true≢false}
use Rattle.std.specs.List.{AllByRecursion}
use Rattle.sof_base.specs.Ports.{OutputView, HasRoom}
use Rattle.sof_io.specs.Puts.{with_piece}
use Rattle.stream_law.specs.Order.{is_among}
use Rattle.fw_schedule.specs.Stages.{Grew}
use Rattle.fw_schedule.proofs.ShownEnds.{eqb-turned}

pub grew-none : (outputs : List OutputView) → Grew [] outputs outputs
grew-none [] = tt
grew-none (o ∷ outputs) = (refl, omega arith, grew-none outputs)

-- no output is longer than before
pub grew-still : (slots : List ℕ) (outputs : List OutputView) → Grew slots outputs outputs
grew-still slots [] = tt
grew-still slots (o ∷ outputs) = (refl, omega arith, grew-still slots outputs)

-- a piece at one slot
pub grew-piece : (c : ℕ) (piece : List ℕ) (outputs : List OutputView) → length piece ≤ 61440 → Grew (c ∷ []) outputs (with_piece c piece outputs)
grew-piece c piece [] small = tt
grew-piece c piece (o ∷ outputs) small = by_slot (o.slot == c) refl (grew-piece c piece outputs small)
  where
    longer : (h : Bool) → h ≡ true → length (o.bytes ++ piece) ≤ length o.bytes + cond (h || false) 61440 0
    longer true h = omega (arith, length-append o.bytes piece, small)
    longer false h = absurd (true≢false (sym h))

    by_slot : (h : Bool) → (o.slot == c) ≡ h → Grew (c ∷ []) outputs (with_piece c piece outputs) → Grew (c ∷ []) (o ∷ outputs) (cond h (record { slot = o.slot; bytes = o.bytes ++ piece } ∷ outputs) (o ∷ with_piece c piece outputs))
    by_slot true h rest = (refl, longer (c == o.slot) (eqb-turned c o.slot ∙ h), grew-still (c ∷ []) outputs)
    by_slot false h rest = (refl, omega arith, rest)

-- an id that none of these is
pub apart-among : (c : ℕ) (cs : List ℕ) → AllByRecursion (λ d. (c == d) ≡ false) cs → is_among cs c ≡ false
apart-among c [] apart = refl
apart-among c (d ∷ cs) apart = or_from (d == c) (is_among cs c) (eqb-turned d c ∙ apart.0) (apart-among c cs apart.1)

-- one slot and then others
pub grew-then : (c : ℕ) (cs : List ℕ) (old mid new : List OutputView) → is_among cs c ≡ false → Grew (c ∷ []) old mid → Grew cs mid new → Grew (c ∷ cs) old new
grew-then c cs [] [] [] apart first rest = tt
grew-then c cs [] [] (n ∷ new) apart first rest = elim rest [ ]
grew-then c cs [] (m ∷ mid) new apart first rest = elim first [ ]
grew-then c cs (o ∷ old) [] new apart first rest = elim first [ ]
grew-then c cs (o ∷ old) (m ∷ mid) [] apart first rest = elim rest [ ]
grew-then c cs (o ∷ old) (m ∷ mid) (n ∷ new) apart first rest =
    (rest.0 ∙ first.0, both (c == o.slot) (is_among cs o.slot) (λ h. ap (is_among cs) (sym (eqb-true c o.slot h)) ∙ apart) first.1 (let e : length n.bytes ≤ length m.bytes + cond (is_among cs o.slot) 61440 0 = subst (λ s. length n.bytes ≤ length m.bytes + cond (is_among cs s) 61440 0) first.0 rest.1 in e), grew-then c cs old mid new apart first.2 rest.2)
  where
    both : (p q : Bool) → (p ≡ true → q ≡ false) → length m.bytes ≤ length o.bytes + cond (p || false) 61440 0 → length n.bytes ≤ length m.bytes + cond q 61440 0 → length n.bytes ≤ length o.bytes + cond (p || q) 61440 0
    both true true e a b = absurd (true≢false (e refl))
    both true false e a b = omega (arith, a, b)
    both false true e a b = omega (arith, a, b)
    both false false e a b = omega (arith, a, b)

-- the room that is left
pub grew-room : (slots : List ℕ) (n : ℕ) (old new : List OutputView) → Grew slots old new → HasRoom (n + 61440) old → HasRoom n new
grew-room slots n [] [] grew room = tt
grew-room slots n [] (w ∷ new) grew room = elim grew [ ]
grew-room slots n (o ∷ old) [] grew room = elim grew [ ]
grew-room slots n (o ∷ old) (w ∷ new) grew room = (by_slot (is_among slots o.slot) grew.1, grew-room slots n old new grew.2 room.1)
  where
    by_slot : (h : Bool) → length w.bytes ≤ length o.bytes + cond h 61440 0 → length w.bytes + n ≤ 1048576
    by_slot true low = omega (arith, low, room.0)
    by_slot false low = omega (arith, low, room.0)
