-- What a component looks at, of its inlets.
use Rattle.std.proofs.Common.{◌≡◌, refl, sym, ap, ◌∙◌, ℕ, List, [], ◌∷◌, filter, Bool, true, false, cond, not, ◌&&◌, ◌||◌, nat_le}
use Rattle.stream_law.specs.State.{View}
use Rattle.stream_law.specs.Ways.{ins, source_of, active_end}
use Rattle.stream_law.specs.Moves.{chooses, looked_at}
use Rattle.fw_schedule.specs.Schedules.{inlets_of}

plain : (p : ℕ → Bool) (on : Bool) → on ≡ false → (xs : List ℕ) → filter (λ b. not on || p b) xs ≡ xs
plain p on off [] = refl
plain p on off (x ∷ xs) = λ i. cond (not (off i) || p x) (x ∷ plain p on off xs i) (plain p on off xs i)

-- what passes both tests
twice : (p q : ℕ → Bool) (on : Bool) → on ≡ true → (xs : List ℕ) → filter (λ b. not on || (p b && q b)) xs ≡ filter q (filter (λ b. not on || p b) xs)
twice p q on is [] = refl
twice p q on is (x ∷ xs) =
    (λ i. cond (not (is i) || (p x && q x)) (x ∷ twice p q on is xs i) (twice p q on is xs i))
    ∙ by (p x)
    ∙ sym (ap (λ h. filter q (cond (not h || p x) (x ∷ filter (λ b. not on || p b) xs) (filter (λ b. not on || p b) xs))) is)
  where
    by : (h : Bool) → cond (h && q x) (x ∷ filter q (filter (λ b. not on || p b) xs)) (filter q (filter (λ b. not on || p b) xs)) ≡ filter q (cond h (x ∷ filter (λ b. not on || p b) xs) (filter (λ b. not on || p b) xs))
    by true = refl
    by false = refl

module _ (v : View) (c : ℕ) where
  -- one that does not choose looks at all its edges in
  pub plain-inlets : chooses v c ≡ false → inlets_of v c ≡ ins v.graph c
  plain-inlets off = plain (λ b. active_end v (source_of v.graph b)) (chooses v c) off (ins v.graph c)

  pub plain-looked : (held : ℕ → ℕ) → chooses v c ≡ false → looked_at v held c ≡ inlets_of v c
  plain-looked held off = plain (λ b. active_end v (source_of v.graph b) && nat_le 1 (held b)) (chooses v c) off (ins v.graph c) ∙ sym (plain-inlets off)

  -- one that chooses looks at those of its inlets that hold a frame
  pub chosen-looked : (held : ℕ → ℕ) → chooses v c ≡ true → looked_at v held c ≡ filter (λ b. nat_le 1 (held b)) (inlets_of v c)
  chosen-looked held on = twice (λ b. active_end v (source_of v.graph b)) (λ b. nat_le 1 (held b)) (chooses v c) on (ins v.graph c)
