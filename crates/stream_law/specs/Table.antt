-- A table from ids to values: a list of pairs, whose first entry of an id counts.
use Rattle.std.specs.Prelude.{ℕ, List, [], ◌∷◌, ◌++◌, if◌then◌else◌, ◌==◌}

-- a value for each id
abbrev pub table : {X : Type 0} → List ℕ → (ℕ → X) → List (ℕ × X)
table [] f = []
table (id ∷ ids) f = (id, f id) ∷ table ids f

-- the value of an id, or else the given one
abbrev pub value_of : {X : Type 0} → X → List (ℕ × X) → ℕ → X
value_of other [] id = other
value_of other (entry ∷ entries) id = if entry.0 == id then entry.1 else value_of other entries id

-- the number of an id, 0 where there is none
abbrev pub number_of : List (ℕ × ℕ) → ℕ → ℕ
number_of entries id = value_of 0 entries id

-- the list of an id, empty where there is none
abbrev pub list_of : {X : Type 0} → List (ℕ × List X) → ℕ → List X
list_of entries id = value_of [] entries id

-- the ids have new values, and all others keep theirs
abbrev pub updated : {X : Type 0} → List ℕ → (ℕ → X) → List (ℕ × X) → List (ℕ × X)
updated ids f entries = table ids f ++ entries
