-- The numbers of a volume as its unit holds them.
use Rattle.std.proofs.Common.{◌≡◌, refl, ap, ◌∙◌, ℕ, zero, suc, ◌+◌, ◌-◌, List, [], ◌∷◌, ◌++◌, map, length, take, get_or, arith, ℤ, pos, nat_abs}
use Rattle.std.proofs.lemmas.List.{length-append, take_at}
use Rattle.std.proofs.Math.Seq.{get_or-append_seam}
use Rattle.stream_law.specs.Ramps.{ramp_place, ramp_numbers, numbers_from, numbers_place, ramped_on}
use Rattle.fw_moves.specs.Processed.{done_after}

abbrev pub held : List ℕ → ℕ → List ℤ
held from done = map pos from ++ pos done ∷ []

abs-pos : (xs : List ℕ) → map nat_abs (map pos xs) ≡ xs
abs-pos [] = refl
abs-pos (x ∷ xs) = ap (λ l. x ∷ l) (abs-pos xs)

last-place : (from : List ℕ) (z : ℤ) → length (map pos from ++ z ∷ []) - 1 ≡ length (map pos from)
last-place from z = omega (arith, length-append (map pos from) (z ∷ []))

pub held-from : (from : List ℕ) (done : ℕ) → numbers_from (held from done) ≡ from
unfolding numbers_from
held-from from done =
    ap (λ k. map nat_abs (take k (map pos from ++ pos done ∷ []))) (last-place from (pos done))
    ∙ ap (map nat_abs) (take_at (map pos from) (pos done ∷ []) (length (map pos from)) refl)
    ∙ abs-pos from

pub held-place : (from : List ℕ) (done : ℕ) → numbers_place (held from done) ≡ done
unfolding numbers_place
held-place from done =
    ap (λ k. nat_abs (get_or (map pos from ++ pos done ∷ []) k (pos 0))) (last-place from (pos done))
    ∙ ap nat_abs (get_or-append_seam (map pos from) (pos done) [] (pos 0))

numbers-are : (from : List ℕ) (over j : ℕ) → ramp_numbers from over j ≡ held from (ramp_place over j)
unfolding ramp_numbers
numbers-are from over j = refl

-- they go on
pub held-on : (from : List ℕ) (over done n : ℕ) → ramped_on over (held from done) n ≡ held from (done_after over done n)
held-on from over done zero = refl
held-on from over done (suc n) =
    ap (λ (q : List ℕ × ℕ). ramp_numbers q.0 over (q.1 + suc n)) (λ i. (held-from from done i, held-place from done i))
    ∙ numbers-are from over (done + suc n)
