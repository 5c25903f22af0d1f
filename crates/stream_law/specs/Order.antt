-- The order in which the components of a tick move.
use Rattle.std.specs.Prelude.{ℕ, zero, suc, List, [], ◌∷◌, length, filter, Bool, true, not, ◌==◌, Option, Some, None}
use Rattle.std.specs.Option.{option_map_or}
use Rattle.std.specs.List.{list_any, list_all}
use Rattle.stream_law.specs.declared.graph.Graph.{Graph}
use Rattle.stream_law.specs.Ways.{components, source_of, ins}
use Rattle.stream_law.specs.Moves.{least}

-- x is one of these ids
abbrev pub is_among : List ℕ → ℕ → Bool
is_among ids x = list_any (λ id. id == x) ids

-- the sources of the edges into c have all been placed
abbrev pub is_ready : Graph → List ℕ → ℕ → Bool
is_ready g placed c = list_all (λ b. option_map_or (is_among placed) (source_of g b) true) (ins g c)

-- the least id of a list
abbrev pub least_of : List ℕ → Option ℕ
least_of [] = None
least_of (x ∷ xs) = Some (least x xs)

-- a list of ids without c
abbrev pub without : ℕ → List ℕ → List ℕ
without c ids = filter (λ id. not (id == c)) ids

-- at most n more components, placed one after another
abbrev pub placed_from : Graph → ℕ → List ℕ → List ℕ → List ℕ
placed_from g zero placed left = []
placed_from g (suc n) placed left = option_map_or (λ c. c ∷ placed_from g n (c ∷ placed) (without c left)) (least_of (filter (is_ready g placed) left)) []

-- repeatedly the component with the least id whose sources all have been placed
unfoldable pub order : Graph → List ℕ
order g = placed_from g (length (components g)) [] (components g)
