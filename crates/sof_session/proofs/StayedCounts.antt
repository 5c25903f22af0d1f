-- Counts of faults and refusals that do not rise.
use Rattle.std.proofs.Common.{◌≡◌, ◌⊎◌, inl, inr, ℕ, ◌+◌, ◌<◌, ◌≤◌, ◌^◌, List, ◌∷◌, arith}
use Rattle.mbox_link.specs.Exchange.{Rose}
use Rattle.mbox_link.specs.Calls.{Meaning, Steady}
use Rattle.mbox_link.proofs.Steps.{Rose-within}

-- none of them rose
pub record Stayed {D : Type 0} (means : Meaning D) (old new : D) : Type 0 where
  pub faults : Rose (means.faults old) (means.faults new) → ⊥
  pub refusals : Rose (means.refusals old) (means.refusals new) → ⊥

-- nor over some of the calls
module _ {D : Type 0} (means : Meaning D) (a b c d : D) (first : Steady means a b) (rest : Steady means c d) (stayed : Stayed means a d) where
  pub Stayed-between : Stayed means b c
  Stayed-between = record {
    faults = λ rose. stayed.faults (Rose-within (means.faults a) (means.faults b) (means.faults c) (means.faults d) first.faults rest.faults rose);
    refusals = λ rose. stayed.refusals (Rose-within (means.refusals a) (means.refusals b) (means.refusals c) (means.refusals d) first.refusals rest.refusals rose);
  }

-- a count that is the same and not at its last value
one-stays : (count count' : ℕ) → count' ≡ count → count + 1 < 2 ^ 64 → (count < count') ⊎ (2 ^ 64 ≤ count' + 1) → ⊥
one-stays count count' same below (inl less) = omega (arith, same, less)
one-stays count count' same below (inr last) = omega (arith, same, below, last)

-- the counts of a link, its own before those of its device, where none rose
pub none-rose : (before after : List ℕ) (own own' : ℕ) → (Rose before after → ⊥) → own' ≡ own → own + 1 < 2 ^ 64 → Rose (own ∷ before) (own' ∷ after) → ⊥
none-rose before after own own' calm same below (inl one) = one-stays own own' same below one
none-rose before after own own' calm same below (inr rose) = calm rose
