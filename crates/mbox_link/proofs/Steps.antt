-- What an exchange does, and how counts rise.
use Rattle.std.proofs.Common.{◌≡◌, ◌⊎◌, inl, inr, ℕ, ◌+◌, ◌^◌, ◌<◌, ◌≤◌, List, [], ◌∷◌, Option, Some, None, arith}
use Rattle.sof_base.specs.Ports.{Io}
use Rattle.stream_law.specs.State.{FwState}
use Rattle.mbox_link.specs.Step.{step}
use Rattle.mbox_link.specs.Exchange.{Stepped, Rose, NoneFell, more}

pub Stepped-raise : {R R' F F' : Type 0} (p : FwState × Io) (request : List ℕ) (answer : Option (List ℕ)) (after : Option FwState) (io : Io) → (R → R') → (F → F') → Stepped R F p request answer after io → Stepped R' F' p request answer after io
Stepped-raise p request None after io r f stepped = (stepped.0, f stepped.1, stepped.2)
Stepped-raise p request (Some reply) after io r f (same, inl done) = (same, inl done)
Stepped-raise p request (Some reply) after io r f (same, inr refusal) = (same, inr (r refusal.0, refusal.1, refusal.2))

-- counts that did not fall, one after another
pub NoneFell-same : (counts : List ℕ) → NoneFell counts counts
NoneFell-same [] = tt
NoneFell-same (n ∷ counts) = (omega arith, NoneFell-same counts)

pub NoneFell-by : (a b c : List ℕ) → NoneFell a b → NoneFell b c → NoneFell a c
NoneFell-by [] [] [] first then = tt
NoneFell-by [] [] (n ∷ c) first then = absurd then
NoneFell-by [] (n ∷ b) c first then = absurd first
NoneFell-by (n ∷ a) [] c first then = absurd first
NoneFell-by (n ∷ a) (m ∷ b) [] first then = absurd then
NoneFell-by (n ∷ a) (m ∷ b) (k ∷ c) first then = (omega (arith, first.0, then.0), NoneFell-by a b c first.1 then.1)

-- what rose in between rose over all
pub Rose-within : (a b c d : List ℕ) → NoneFell a b → NoneFell c d → Rose b c → Rose a d
Rose-within a [] c d before later rose = absurd rose
Rose-within a (m ∷ b) [] d before later rose = absurd rose
Rose-within [] (m ∷ b) (n ∷ c) d before later rose = absurd before
Rose-within (k ∷ a) (m ∷ b) (n ∷ c) [] before later rose = absurd later
Rose-within (k ∷ a) (m ∷ b) (n ∷ c) (l ∷ d) before later (inl (inl less)) = inl (inl (omega (arith, before.0, later.0, less)))
Rose-within (k ∷ a) (m ∷ b) (n ∷ c) (l ∷ d) before later (inl (inr last)) = inl (inr (omega (arith, later.0, last)))
Rose-within (k ∷ a) (m ∷ b) (n ∷ c) (l ∷ d) before later (inr rose) = inr (Rose-within a b c d before.1 later.1 rose)

-- one more rises, or stood at its last value
pub Rose-more : (count : ℕ) (before after : List ℕ) → Rose (count ∷ before) (more count ∷ after)
Rose-more count before after = inl (rises count)
  where
    rises : (n : ℕ) → (n < more n) ⊎ (2 ^ 64 ≤ more n + 1)
    rises n = grind arith

-- after an exchange whose answer was lost
pub Stepped-lost : (R F : Type 0) (p : FwState × Io) (request : List ℕ) (answer : Option (List ℕ)) (after : Option FwState) (io : Io) → Stepped R F p request answer after io → (io ≡ p.1) × ((after ≡ Some (step p.0 request).0) ⊎ (after ≡ Some p.0))
Stepped-lost R F p request None after io stepped = (stepped.0, stepped.2)
Stepped-lost R F p request (Some reply) after io (same, inl done) = (same, inl done.0)
Stepped-lost R F p request (Some reply) after io (same, inr refusal) = (same, inr refusal.2)
