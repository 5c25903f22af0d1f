-- What walks along joins reach, by ids and by places.
use Rattle.std.specs.Prelude.{◌≡◌, ℕ, suc, ◌<◌, List, [], ◌∷◌, length, Bool, true, false, ◌&&◌, ◌==◌, Option, slice_index_or}
use Rattle.std.specs.List.{AllByRecursion, list_any, position_or_len}
use Rattle.std.specs.Option.{option_map_or}
use Rattle.stream_law.specs.declared.graph.Join.{Join}
use Rattle.stream_law.specs.Ways.{leads}
use Rattle.stream_law.specs.Order.{is_among}

-- the end of a join that a walk comes from, and the one that it leads to: where walks go back, its sink and its source
abbrev pub near_of : Bool → Join → ℕ
near_of true j = j.sink
near_of false j = j.source

abbrev pub far_of : Bool → Join → ℕ
far_of true j = j.source
far_of false j = j.sink

-- no join leads from what passes to what does not
abbrev pub IsClosed : Bool → List Join → (ℕ → Bool) → Type 0
IsClosed back joins p = AllByRecursion (λ j. p (near_of back j) ≡ true → p (far_of back j) ≡ true) joins

-- both ends of a join are places below n
abbrev pub IsWithin : ℕ → Join → Type 0
IsWithin n j = (j.source < n) × (j.sink < n)

-- how many places are not marked
abbrev pub unmarked : List Bool → ℕ
unmarked [] = 0
unmarked (true ∷ marks) = unmarked marks
unmarked (false ∷ marks) = suc (unmarked marks)

-- a walk leads from a to b, or from b to a where it goes back
abbrev pub leads_by : Bool → List Join → ℕ → ℕ → Bool
leads_by true joins a b = leads joins (length joins) b a
leads_by false joins a b = leads joins (length joins) a b

-- the place of an id in a list; where it is not there, the place after the last
abbrev pub place_in : List ℕ → ℕ → ℕ
place_in ids x = position_or_len (λ y. y == x) ids

-- a join of the places of its ends
abbrev pub by_places : List ℕ → Join → Join
by_places ids j = record { source = place_in ids j.source; sink = place_in ids j.sink }

-- both ends of a join are listed
abbrev pub IsListed : List ℕ → Join → Type 0
IsListed ids j = (is_among ids j.source ≡ true) × (is_among ids j.sink ≡ true)

-- an id is marked at its place
abbrev pub is_marked : List ℕ → List Bool → ℕ → Bool
is_marked ids marks x = slice_index_or marks (place_in ids x) false

-- an end of an edge is there and marked
abbrev pub is_end_marked : List ℕ → List Bool → Option ℕ → Bool
is_end_marked ids marks end = option_map_or (is_marked ids marks) end false

-- a walk leads to an id from one that is listed and marked
abbrev pub is_reached : Bool → List ℕ → List Join → List Bool → ℕ → Bool
is_reached back ids joins marks x = list_any (λ s. is_marked ids marks s && leads_by back joins s x) ids
