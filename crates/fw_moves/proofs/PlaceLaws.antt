-- The places of buffers.
use Rattle.std.proofs.Common.{◌≡◌, refl, sym, ap, ◌∙◌, ℕ, suc, ◌<◌, List, [], ◌∷◌, map, length, get_or, Option, Some, None, Bool, true, false, cond, ◌==◌, ◌||◌, arith}
use Rattle.std.proofs.lemmas.List.{get_or-map, length-map}
use Rattle.std.proofs.lemmas.List.Quantifiers.{position-Some}
use Rattle.std.proofs.lemmas.List.Folds.{list_any_at}
use Rattle.std.proofs.lemmas.Bool.{eqb-true}
use Rattle.std.specs.Prelude.{position, option_map, option_and_then}
use Rattle.stream_law.specs.Order.{is_among}
use Rattle.fw_units.specs.declared.component.Component.{Component}
use Rattle.fw_units.proofs.Positions.{first, first-is, position-map}
use Rattle.fw_moves.specs.Moving.{AreAt, looked_choice}

-- as many places as ids
pub length-places : (cs : List Component) (ids places : List ℕ) → AreAt cs ids places → length places ≡ length ids
length-places cs ids places are = sym (length-map places (λ at. Some at)) ∙ ap length are ∙ length-map ids (λ b. position (λ c. c.id == b) cs)

-- the place of one of them
pub place-at : (cs : List Component) (ids places : List ℕ) (i : ℕ) → AreAt cs ids places → i < length ids → Some (get_or places i 0) ≡ position (λ c. c.id == get_or ids i 0) cs
place-at cs ids places i are low =
    sym (get_or-map (λ (at : ℕ). Some at) places i 0 None (omega (arith, low, length-places cs ids places are)))
    ∙ ap (λ (os : List (Option ℕ)). get_or os i None) are
    ∙ get_or-map (λ (b : ℕ). position (λ (c : Component). c.id == b) cs) ids i 0 None low

-- a place is below the length
pub within : {X : Type 0} (p : X → Bool) (xs : List X) (at : ℕ) → Some at ≡ position p xs → at < length xs
within p [] at e = absurd (cc e)
within p (x ∷ xs) at e = (position-Some p (x ∷ xs) at x (sym e)).0

-- places stay where ids do
pub places-still : (f : Component → Component) → ((x : Component) → (f x).id ≡ x.id) → (cs : List Component) (ids places : List ℕ) → AreAt cs ids places → AreAt (map f cs) ids places
places-still f same cs ids places are = are ∙ each ids
  where
    each : (ids : List ℕ) → map (λ b. position (λ c. c.id == b) cs) ids ≡ map (λ b. position (λ c. c.id == b) (map f cs)) ids
    each [] = refl
    each (b ∷ ids) = λ i. sym (position-map (λ (c : Component). c.id == b) f (λ x. ap (λ k. k == b) (same x)) cs) i ∷ each ids i

-- ---- the chosen buffer

first-none : (xs : List ℕ) (b : ℕ) → None ≡ first (λ x. x == b) xs → is_among xs b ≡ false
first-none [] b e = refl
first-none (x ∷ xs) b e = by (x == b) (λ none. first-none xs b none) refl e
  where
    later : (o : Option ℕ) → None ≡ option_map suc o → None ≡ o
    later None e = refl
    later (Some i) e = absurd (cc e)

    by : (h : Bool) → (None ≡ first (λ x. x == b) xs → is_among xs b ≡ false) → (x == b) ≡ h → None ≡ cond h (Some 0) (option_map suc (first (λ x. x == b) xs)) → (x == b || is_among xs b) ≡ false
    by true rest own e = absurd (cc e)
    by false rest other e = ap (λ h. h || is_among xs b) other ∙ rest (later (first (λ x. x == b) xs) e)

-- the place at which it is looked at, or there is none
pub choice-at : (looked : List ℕ) (chosen : Option ℕ) (k : ℕ) → Some k ≡ option_and_then (λ b. position (λ x. x == b) looked) chosen → Some (get_or looked k 0) ≡ looked_choice looked chosen
choice-at looked None k e = absurd (cc e)
choice-at looked (Some b) k e =
    let is = position-Some (λ (x : ℕ). x == b) looked k 0 (sym e) in
    ap (λ (n : ℕ). Some n) (eqb-true (get_or looked k 0) b is.1) ∙ ap (λ h. cond h (Some b) None) (sym (list_any_at (λ (x : ℕ). x == b) looked k 0 is.0 is.1))

pub choice-within : (looked : List ℕ) (chosen : Option ℕ) (k : ℕ) → Some k ≡ option_and_then (λ b. position (λ x. x == b) looked) chosen → k < length looked
choice-within looked None k e = absurd (cc e)
choice-within looked (Some b) k e = within (λ x. x == b) looked k e

pub choice-none : (looked : List ℕ) (chosen : Option ℕ) → None ≡ option_and_then (λ b. position (λ x. x == b) looked) chosen → None ≡ looked_choice looked chosen
choice-none looked None e = refl
choice-none looked (Some b) e = ap (λ h. cond h (Some b) None) (sym (first-none looked b (e ∙ first-is (λ x. x == b) looked)))
