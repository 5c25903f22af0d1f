use Rattle.std.proofs.Common.{◌≡◌, ◌<◌, ◌+◌, ℕ, List, Bool, true, false, get_or, set, length, ◌∙◌, inl, inr, arith}
use Rattle.std.specs.Prelude.{◌⊎◌}
use Rattle.std.proofs.Math.Nat.{eq-or-lt_of_le}
use Rattle.std.proofs.lemmas.List.{get_or-set_same, get_or-set_other}
use Rattle.core.specs.Mem.Slots.{slots_filled, slots_counts}
use Rattle.fw_heap.proofs.region.fill.Goals as goal

-- one more place is filled
one-more : (fs gs : List Bool) (i : ℕ) → i < length fs → ((k : ℕ) → k < i → get_or fs k false ≡ true) → gs ≡ set fs i true → (k : ℕ) → k < i + 1 → get_or gs k false ≡ true
one-more fs gs i low full is k below = at (eq-or-lt_of_le {n = k} {m = i} (omega arith))
  where
    at : (k ≡ i) ⊎ (k < i) → get_or gs k false ≡ true
    at (inl same) = (λ j. get_or (is j) (same j) false) ∙ get_or-set_same fs i true false low
    at (inr under) = (λ j. get_or (is j) k false) ∙ get_or-set_other fs i k true false (omega arith) ∙ full k under

pub put-requires : goal.put-requires
put-requires c = omega (arith, c.loop-i.invariant.places.count, c.requires, c.loop-i-test.true)

pub loop-i-preserved : goal.loop-i-preserved
loop-i-preserved c = record {
  places = record { start = c.put.ensures.places.start ∙ c.loop-i.invariant.places.start; count = c.put.ensures.places.count ∙ c.loop-i.invariant.places.count };
  full = one-more (slots_filled c.loop-i.row) (slots_filled c.put.new.self) c.loop-i.i (omega (arith, c.loop-i.invariant.places.count, c.requires, c.loop-i-test.true, (slots_counts c.loop-i.row).1)) c.loop-i.invariant.full c.put.ensures.filled;
}
