-- The slot of each stream is new, and its input is put after those of earlier streams, filled and ended.
use Rattle.std.proofs.Common.{◌≡◌, ℕ, zero, suc, ◌+◌, ◌*◌, ◌<◌, ◌≤◌, Bool, true, false, cond, eqb, nat_lt, ◌||◌, List, [], ◌∷◌, ◌++◌, length, refl, sym, ap, ◌∙◌, subst, arith, zero-add, add-one}
use Rattle.std.specs.List.{AllByRecursion, range_with_len}
use Rattle.std.proofs.lemmas.List.{length-map}
use Rattle.std.proofs.lemmas.Bool.{eq-eqb, ne_eqb, ltb-true}
use Rattle.std.proofs.lemmas.List.FromFn.{map-range_with_len_more, length-range_with_len}
use Rattle.std.proofs.lemmas.Bool.Decides.{nat_tests}
use Rattle.sof_base.specs.Ports.{InputView}
use Rattle.sof_io.specs.Bound.{has_slot}
use Rattle.sof_io.specs.Takes.{input_slots}
use Rattle.sof_io.specs.Takes.{left_at}
use Rattle.sof_io.specs.Fills.{new_input}
use Rattle.sof_io.specs.Fills.{with_input, filled_at, ended_at}
use Rattle.sof_io.specs.Takes.{fuller_input, ended_input}
use Rattle.sof_io.specs.Takes.{held_at, has_ended}
use Rattle.sof_stress.specs.StressPorts.{input_bytes, stream_input, stress_inputs}
use Rattle.sof_stress.specs.GraphParts.{input_byte}

-- one input more
pub inputs-more : (n : ℕ) → stress_inputs (n + 1) ≡ stress_inputs n ++ stream_input n ∷ []
inputs-more n = map-range_with_len_more stream_input 0 n n (zero-add n)

-- how many bytes an input has
pub bytes-count : (i : ℕ) → length (input_bytes i) ≡ 4800
unfolding input_bytes
bytes-count i = length-map (range_with_len 0 4800) (input_byte i) ∙ length-range_with_len 0 4800

-- one of another slot
other-more : (slot : ℕ) (xs : List InputView) (y : InputView) → eqb y.slot slot ≡ false → has_slot slot (input_slots xs) ≡ false → has_slot slot (input_slots (xs ++ y ∷ [])) ≡ false
other-more slot [] y other none = rw other refl
other-more slot (x ∷ xs) y other none = by (eqb x.slot slot) none (other-more slot xs y other)
  where
    by : (b : Bool) → (b || has_slot slot (input_slots xs)) ≡ false → (has_slot slot (input_slots xs) ≡ false → has_slot slot (input_slots (xs ++ y ∷ [])) ≡ false) → (b || has_slot slot (input_slots (xs ++ y ∷ []))) ≡ false
    by true none rest = absurd (cc none)
    by false none rest = rest none

-- of no earlier stream
pub fresh-slot : (i n : ℕ) → n ≤ i → has_slot (5 * i) (input_slots (stress_inputs n)) ≡ false
fresh-slot i zero within = refl
fresh-slot i (suc n) within =
    let other : eqb (5 * n) (5 * i) ≡ false = grind (arith, nat_tests) in
    subst (λ m. has_slot (5 * i) (input_slots (stress_inputs m)) ≡ false) (add-one n)
    (subst (λ xs. has_slot (5 * i) (input_slots xs) ≡ false) (sym (inputs-more n)) (other-more (5 * i) (stress_inputs n) (stream_input n) other (fresh-slot i n (omega (arith, within)))))

-- ---- after inputs of lower slots

abbrev pub AreBelow : ℕ → List InputView → Type 0
AreBelow slot xs = AllByRecursion (λ (x : InputView). x.slot < slot) xs

below-more : (slot : ℕ) (xs : List InputView) (y : InputView) → AreBelow slot xs → y.slot < slot → AreBelow slot (xs ++ y ∷ [])
below-more slot [] y below less = (less, tt)
below-more slot (x ∷ xs) y below less = (below.0, below-more slot xs y below.1 less)

pub slots-below : (i n : ℕ) → n ≤ i → AreBelow (5 * i) (stress_inputs n)
slots-below i zero within = tt
slots-below i (suc n) within =
    subst (λ m. AreBelow (5 * i) (stress_inputs m)) (add-one n)
    (subst (AreBelow (5 * i)) (sym (inputs-more n)) (below-more (5 * i) (stress_inputs n) (stream_input n) (slots-below i n (omega (arith, within))) (omega (arith, within))))

module _ (slot : ℕ) where
  -- a lower slot is another one
  other-slot : (x : InputView) → x.slot < slot → eqb x.slot slot ≡ false
  other-slot x less = ne_eqb x.slot slot (λ same. omega (arith, less, same))

  same-slot : eqb slot slot ≡ true
  same-slot = eq-eqb slot slot refl

  pub with-last : (xs : List InputView) → AreBelow slot xs → with_input slot xs ≡ xs ++ new_input slot ∷ []
  with-last [] below = refl
  with-last (x ∷ xs) below = by (nat_lt slot x.slot) refl (with-last xs below.1)
    where
      by : (h : Bool) → nat_lt slot x.slot ≡ h → with_input slot xs ≡ xs ++ new_input slot ∷ [] → cond h (new_input slot ∷ x ∷ xs) (x ∷ with_input slot xs) ≡ x ∷ (xs ++ new_input slot ∷ [])
      by true is rest = absurd (omega (arith, ltb-true slot x.slot is, below.0))
      by false is rest = ap (λ ys. x ∷ ys) rest

  module _ (y : InputView) (is : eqb y.slot slot ≡ true) where
    pub filled-last : (piece : List ℕ) (xs : List InputView) → AreBelow slot xs → filled_at slot piece (xs ++ y ∷ []) ≡ xs ++ fuller_input piece y ∷ []
    filled-last piece [] below = ap (λ b. cond b (fuller_input piece y ∷ []) (y ∷ [])) is
    filled-last piece (x ∷ xs) below =
        ap (λ b. cond b (fuller_input piece x ∷ (xs ++ y ∷ [])) (x ∷ filled_at slot piece (xs ++ y ∷ []))) (other-slot x below.0) ∙ ap (λ ys. x ∷ ys) (filled-last piece xs below.1)

    pub ended-last : (xs : List InputView) → AreBelow slot xs → ended_at slot (xs ++ y ∷ []) ≡ xs ++ ended_input y ∷ []
    ended-last [] below = ap (λ b. cond b (ended_input y ∷ []) (y ∷ [])) is
    ended-last (x ∷ xs) below =
        ap (λ b. cond b (ended_input x ∷ (xs ++ y ∷ [])) (x ∷ ended_at slot (xs ++ y ∷ []))) (other-slot x below.0) ∙ ap (λ ys. x ∷ ys) (ended-last xs below.1)

    pub last-there : (xs : List InputView) → AreBelow slot xs → has_slot slot (input_slots (xs ++ y ∷ [])) ≡ true
    last-there [] below = ap (λ b. b || false) is
    last-there (x ∷ xs) below = ap (λ b. b || has_slot slot (input_slots (xs ++ y ∷ []))) (other-slot x below.0) ∙ last-there xs below.1

    pub last-ended : (xs : List InputView) → AreBelow slot xs → has_ended slot (xs ++ y ∷ []) ≡ y.ended
    last-ended [] below = ap (λ b. cond b y.ended false) is
    last-ended (x ∷ xs) below = ap (λ b. cond b x.ended (has_ended slot (xs ++ y ∷ []))) (other-slot x below.0) ∙ last-ended xs below.1

    last-left : (xs : List InputView) → AreBelow slot xs → left_at slot (xs ++ y ∷ []) ≡ y.left
    last-left [] below = ap (λ b. cond b y.left []) is
    last-left (x ∷ xs) below = ap (λ b. cond b x.left (left_at slot (xs ++ y ∷ []))) (other-slot x below.0) ∙ last-left xs below.1

    pub last-held : (xs : List InputView) → AreBelow slot xs → held_at slot (xs ++ y ∷ []) ≡ length y.left
    last-held xs below = ap length (last-left xs below)

  -- one that is new is there, open and empty
  module _ (xs : List InputView) (below : AreBelow slot xs) where
    pub new-there : has_slot slot (input_slots (with_input slot xs)) ≡ true
    new-there = ap (λ ys. has_slot slot (input_slots ys)) (with-last xs below) ∙ last-there (new_input slot) same-slot xs below

    pub new-open : has_ended slot (with_input slot xs) ≡ false
    new-open = ap (has_ended slot) (with-last xs below) ∙ last-ended (new_input slot) same-slot xs below

    pub new-held : held_at slot (with_input slot xs) ≡ 0
    new-held = ap (held_at slot) (with-last xs below) ∙ last-held (new_input slot) same-slot xs below

    filled-is : (bytes : List ℕ) → filled_at slot bytes (with_input slot xs) ≡ xs ++ fuller_input bytes (new_input slot) ∷ []
    filled-is bytes = ap (filled_at slot bytes) (with-last xs below) ∙ filled-last (new_input slot) same-slot bytes xs below

    pub filled-there : (bytes : List ℕ) → has_slot slot (input_slots (filled_at slot bytes (with_input slot xs))) ≡ true
    filled-there bytes = ap (λ ys. has_slot slot (input_slots ys)) (filled-is bytes) ∙ last-there (fuller_input bytes (new_input slot)) same-slot xs below

    -- and stands after the others with its bytes, of which no more come
    pub loaded : (bytes : List ℕ) → ended_at slot (filled_at slot bytes (with_input slot xs)) ≡ xs ++ record { slot = slot; position = 0; left = bytes; ended = true } ∷ []
    loaded bytes = ap (ended_at slot) (filled-is bytes) ∙ ended-last (fuller_input bytes (new_input slot)) same-slot xs below
