-- What endpoints show of a tick that has gone some way.
use Rattle.std.proofs.Common.{◌≡◌, refl, sym, ap, ◌∙◌, ℕ, ◌-◌, ◌^◌, ◌≤◌, List, [], ◌∷◌, ◌++◌, map, drop, Bool, true, false, cond, ◌==◌, ◌||◌, subst, append_assoc, arith}
use Rattle.std.proofs.lemmas.Bool.{eqb-true, eq-eqb, true≢false, false_from_ne_true}
use Rattle.std.proofs.lemmas.List.{append-nil}
use Rattle.std.specs.List.{AllByRecursion, IsDistinct}
use Rattle.sof_base.specs.Ports.{InputView, OutputView, moved_on}
use Rattle.sof_io.specs.Takes.{after_input, left_at, taken}
use Rattle.sof_io.specs.Puts.{with_piece}
use Rattle.stream_law.specs.Placed.{HasDistinct}
use Rattle.stream_law.specs.Order.{is_among}

-- ---- ids

-- ids are equal either way round
pub eqb-turned : (a b : ℕ) → (a == b) ≡ (b == a)
eqb-turned a b = by_case (a == b) refl
  where
    by_case : (h : Bool) → (a == b) ≡ h → h ≡ (b == a)
    by_case true h = sym (eq-eqb b a (sym (eqb-true a b h)))
    by_case false h = sym (false_from_ne_true (b == a) (λ k. true≢false (sym (eq-eqb a b (sym (eqb-true b a k))) ∙ h)))

-- ---- inputs

-- inputs at these positions with these bytes left
abbrev pub shown_inputs : (ℕ → ℕ) → (ℕ → List ℕ) → List InputView → List InputView
shown_inputs position left inputs = map (λ (x : InputView). record x { position = position x.slot; left = left x.slot }) inputs

inputs-apart : (c n : ℕ) (bytes : List ℕ) (position : ℕ → ℕ) (left : ℕ → List ℕ) (inputs : List InputView) → AllByRecursion (λ s. (c == s) ≡ false) (map (λ (x : InputView). x.slot) inputs) → shown_inputs (λ x. cond (c == x) n (position x)) (λ x. cond (c == x) bytes (left x)) inputs ≡ shown_inputs position left inputs
inputs-apart c n bytes position left [] apart = refl
inputs-apart c n bytes position left (x ∷ inputs) apart =
    λ i. record x { position = cond (apart.0 i) n (position x.slot); left = cond (apart.0 i) bytes (left x.slot) } ∷ inputs-apart c n bytes position left inputs apart.1 i

-- m bytes are taken of one slot
pub shown-taken : (c m : ℕ) (position : ℕ → ℕ) (left : ℕ → List ℕ) (inputs : List InputView) → HasDistinct (λ x. x.slot) inputs → shown_inputs (λ x. cond (c == x) (moved_on (position c) m) (position x)) (λ x. cond (c == x) (drop m (left c)) (left x)) inputs ≡ taken c m (shown_inputs position left inputs)
unfolding IsDistinct
shown-taken c m position left [] distinct = refl
shown-taken c m position left (x ∷ inputs) distinct = by_case (x.slot == c) refl (shown-taken c m position left inputs distinct.1)
  where
    here : InputView
    here = record x { position = position x.slot; left = left x.slot }

    by_case : (h : Bool) → (x.slot == c) ≡ h → shown_inputs (λ x. cond (c == x) (moved_on (position c) m) (position x)) (λ x. cond (c == x) (drop m (left c)) (left x)) inputs ≡ taken c m (shown_inputs position left inputs) → shown_inputs (λ x. cond (c == x) (moved_on (position c) m) (position x)) (λ x. cond (c == x) (drop m (left c)) (left x)) (x ∷ inputs) ≡ cond h (after_input m here ∷ shown_inputs position left inputs) (here ∷ taken c m (shown_inputs position left inputs))
    by_case true h rest =
        let same : x.slot ≡ c = eqb-true x.slot c h in
        let is : (c == x.slot) ≡ true = eq-eqb c x.slot (sym same) in
        let apart : AllByRecursion (λ s. (c == s) ≡ false) (map (λ (x : InputView). x.slot) inputs) = subst (λ a. AllByRecursion (λ s. (a == s) ≡ false) (map (λ (x : InputView). x.slot) inputs)) same distinct.0 in
        (λ i. record x { position = cond (is i) (moved_on (position c) m) (position x.slot); left = cond (is i) (drop m (left c)) (left x.slot) } ∷ inputs-apart c (moved_on (position c) m) (drop m (left c)) position left inputs apart i)
        ∙ ap (λ s. record x { position = moved_on (position s) m; left = drop m (left s) } ∷ shown_inputs position left inputs) (sym same)
    by_case false h rest =
        let other : (c == x.slot) ≡ false = eqb-turned c x.slot ∙ h in
        λ i. record x { position = cond (other i) (moved_on (position c) m) (position x.slot); left = cond (other i) (drop m (left c)) (left x.slot) } ∷ rest i

-- a position that no byte moves stays
moved_on-none : (n : ℕ) → n ≤ 2 ^ 64 - 1 → moved_on n 0 ≡ n
moved_on-none n low = omega (arith, low)

-- no byte is taken
pub shown-untaken : (c : ℕ) (position : ℕ → ℕ) (left : ℕ → List ℕ) (inputs : List InputView) → ((x : ℕ) → position x ≤ 2 ^ 64 - 1) → taken c 0 (shown_inputs position left inputs) ≡ shown_inputs position left inputs
shown-untaken c position left [] low = refl
shown-untaken c position left (x ∷ inputs) low = by_case (x.slot == c) (shown-untaken c position left inputs low)
  where
    here : InputView
    here = record x { position = position x.slot; left = left x.slot }

    by_case : (h : Bool) → taken c 0 (shown_inputs position left inputs) ≡ shown_inputs position left inputs → cond h (after_input 0 here ∷ shown_inputs position left inputs) (here ∷ taken c 0 (shown_inputs position left inputs)) ≡ here ∷ shown_inputs position left inputs
    by_case true rest = ap (λ n. record x { position = n; left = left x.slot } ∷ shown_inputs position left inputs) (moved_on-none (position x.slot) (low x.slot))
    by_case false rest = ap (λ xs. here ∷ xs) rest

-- what is left of a slot, if nothing is left of one that is not bound
pub shown-left : (c : ℕ) (position : ℕ → ℕ) (left : ℕ → List ℕ) (inputs : List InputView) → (is_among (map (λ (x : InputView). x.slot) inputs) c ≡ false → left c ≡ []) → left_at c (shown_inputs position left inputs) ≡ left c
shown-left c position left [] none = sym (none refl)
shown-left c position left (x ∷ inputs) none = by_case (x.slot == c) refl (shown-left c position left inputs)
  where
    by_case : (h : Bool) → (x.slot == c) ≡ h → ((is_among (map (λ (x : InputView). x.slot) inputs) c ≡ false → left c ≡ []) → left_at c (shown_inputs position left inputs) ≡ left c) → cond h (left x.slot) (left_at c (shown_inputs position left inputs)) ≡ left c
    by_case true h rest = ap left (eqb-true x.slot c h)
    by_case false h rest = rest (λ gone. none (ap (λ t. t || is_among (map (λ (x : InputView). x.slot) inputs) c) h ∙ gone))

-- ---- outputs

-- outputs with these bytes after their own
abbrev pub shown_outputs : (ℕ → List ℕ) → List OutputView → List OutputView
shown_outputs written outputs = map (λ x. record { slot = x.slot; bytes = x.bytes ++ written x.slot }) outputs

outputs-apart : (c : ℕ) (bytes : List ℕ) (written : ℕ → List ℕ) (outputs : List OutputView) → AllByRecursion (λ s. (c == s) ≡ false) (map (λ (x : OutputView). x.slot) outputs) → shown_outputs (λ x. cond (c == x) bytes (written x)) outputs ≡ shown_outputs written outputs
outputs-apart c bytes written [] apart = refl
outputs-apart c bytes written (x ∷ outputs) apart =
    λ i. record { slot = x.slot; bytes = x.bytes ++ cond (apart.0 i) bytes (written x.slot) } ∷ outputs-apart c bytes written outputs apart.1 i

-- a piece is put after one slot's bytes
pub shown-put : (c : ℕ) (piece : List ℕ) (written : ℕ → List ℕ) (outputs : List OutputView) → HasDistinct (λ x. x.slot) outputs → shown_outputs (λ x. cond (c == x) (written c ++ piece) (written x)) outputs ≡ with_piece c piece (shown_outputs written outputs)
unfolding IsDistinct
shown-put c piece written [] distinct = refl
shown-put c piece written (x ∷ outputs) distinct = by_case (x.slot == c) refl (shown-put c piece written outputs distinct.1)
  where
    by_case : (h : Bool) → (x.slot == c) ≡ h → shown_outputs (λ x. cond (c == x) (written c ++ piece) (written x)) outputs ≡ with_piece c piece (shown_outputs written outputs) → shown_outputs (λ x. cond (c == x) (written c ++ piece) (written x)) (x ∷ outputs) ≡ cond h (record { slot = x.slot; bytes = (x.bytes ++ written x.slot) ++ piece } ∷ shown_outputs written outputs) (record { slot = x.slot; bytes = x.bytes ++ written x.slot } ∷ with_piece c piece (shown_outputs written outputs))
    by_case true h rest =
        let same : x.slot ≡ c = eqb-true x.slot c h in
        let is : (c == x.slot) ≡ true = eq-eqb c x.slot (sym same) in
        let apart : AllByRecursion (λ s. (c == s) ≡ false) (map (λ (x : OutputView). x.slot) outputs) = subst (λ a. AllByRecursion (λ s. (a == s) ≡ false) (map (λ (x : OutputView). x.slot) outputs)) same distinct.0 in
        (λ i. record { slot = x.slot; bytes = x.bytes ++ cond (is i) (written c ++ piece) (written x.slot) } ∷ outputs-apart c (written c ++ piece) written outputs apart i)
        ∙ ap (λ bytes. record { slot = x.slot; bytes = bytes } ∷ shown_outputs written outputs) (ap (λ s. x.bytes ++ (written s ++ piece)) (sym same) ∙ sym (append_assoc x.bytes (written x.slot) piece))
    by_case false h rest =
        let other : (c == x.slot) ≡ false = eqb-turned c x.slot ∙ h in
        λ i. record { slot = x.slot; bytes = x.bytes ++ cond (other i) (written c ++ piece) (written x.slot) } ∷ rest i

-- an empty piece changes nothing
pub put-none : (c : ℕ) (outputs : List OutputView) → with_piece c [] outputs ≡ outputs
put-none c [] = refl
put-none c (x ∷ outputs) = by_case (x.slot == c) (put-none c outputs)
  where
    by_case : (h : Bool) → with_piece c [] outputs ≡ outputs → cond h (record { slot = x.slot; bytes = x.bytes ++ [] } ∷ outputs) (x ∷ with_piece c [] outputs) ≡ x ∷ outputs
    by_case true rest = ap (λ bytes. record { slot = x.slot; bytes = bytes } ∷ outputs) (append-nil x.bytes)
    by_case false rest = ap (λ xs. x ∷ xs) rest
