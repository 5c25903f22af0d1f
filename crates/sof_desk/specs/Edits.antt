-- Edits of the first item of a list that passes a test.
use Rattle.std.specs.Prelude.{Bool, List, [], ◌∷◌, if◌then◌else◌}

-- the first item that passes is changed
abbrev pub changed_first : {X : Type 0} → (X → Bool) → (X → X) → List X → List X
changed_first p change [] = []
changed_first p change (x ∷ xs) = if p x then change x ∷ xs else x ∷ changed_first p change xs

-- an item in the place of the first that passes, or at the end where none does
abbrev pub put_first : {X : Type 0} → (X → Bool) → X → List X → List X
put_first p new [] = new ∷ []
put_first p new (x ∷ xs) = if p x then new ∷ xs else x ∷ put_first p new xs
