-- What a search for the first failing item finds.
use Rattle.std.specs.Prelude.{ℕ, Option, Some, None}
use Rattle.tplg_walks.specs.Rules.{Rule, HoldsAll, FailsFirst}

-- what a search for the first item at which a rule fails has found
abbrev pub IsFirstFailing : Rule → Option ℕ → Type 0
IsFirstFailing r None = HoldsAll r
IsFirstFailing r (Some item) = FailsFirst r item
