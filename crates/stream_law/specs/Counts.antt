-- The counts of a tick: equations between the numbers before it and those after it.
use Rattle.std.specs.Prelude.{◌≡◌, ℕ, ◌+◌, ◌-◌, List, Bool, false, if◌then◌else◌, Option}
use Rattle.std.specs.Option.{option_map_or}
use Rattle.stream_law.specs.State.{View}
use Rattle.stream_law.specs.Table.{table, updated, number_of}
use Rattle.stream_law.specs.Ways.{components, buffers, source_of, sink_of}
use Rattle.stream_law.specs.Moves.{capacity, fed, looks, frames_to_move}

-- for each edge, how many frames were ever put into it and how many were taken from it in this life
pub record Counts : Type 0 where
  pub put : List (ℕ × ℕ)
  pub taken : List (ℕ × ℕ)

-- what an edge holds when its sink moves: put has what its source has put at this tick too
abbrev pub frames_held : Counts → List (ℕ × ℕ) → ℕ → ℕ
frames_held old put b = number_of put b - number_of old.taken b

-- the room in an edge when its source moves
abbrev pub frames_free : View → Counts → ℕ → ℕ
frames_free v old b = capacity v b - (number_of old.put b - number_of old.taken b)

-- the frames that the component at an end of an edge moves, 0 where there is none
abbrev pub moved_by : List (ℕ × ℕ) → Option ℕ → ℕ
moved_by n end = option_map_or (number_of n) end 0

-- an edge that is fed gains what its source moves
abbrev pub put_after : View → Counts → List (ℕ × ℕ) → ℕ → ℕ
put_after v old n b = number_of old.put b + (if fed v b then moved_by n (source_of v.graph b) else 0)

-- the sink of an edge looks at it
abbrev pub is_looked_at : View → Counts → List (ℕ × ℕ) → ℕ → Bool
is_looked_at v old put b = option_map_or (λ c. looks v (frames_held old put) c b) (sink_of v.graph b) false

-- an edge that its sink looks at loses what the sink moves
abbrev pub taken_after : View → Counts → List (ℕ × ℕ) → List (ℕ × ℕ) → ℕ → ℕ
taken_after v old put n b = number_of old.taken b + (if is_looked_at v old put b then moved_by n (sink_of v.graph b) else 0)

-- at a tick of clock t each component moves its number of n, and the counts go from old to new. The equations name no order
pub record Counting (v : View) (t : ℕ) (old : Counts) (n : List (ℕ × ℕ)) (new : Counts) : Type 0 where
  pub moves : n ≡ table (components v.graph) (frames_to_move v t (frames_held old new.put) (frames_free v old))
  pub puts : new.put ≡ updated (buffers v.graph) (put_after v old n) old.put
  pub takes : new.taken ≡ updated (buffers v.graph) (taken_after v old new.put n) old.taken
