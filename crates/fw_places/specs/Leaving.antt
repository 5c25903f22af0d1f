-- Which joins leave a place, and the places that a walk has found.
use Rattle.std.specs.Prelude.{◌≡◌, ℕ, zero, suc, ◌+◌, ◌<◌, ◌≤◌, List, length, Bool, true, false, ◌==◌, if◌then◌else◌, slice_index_or}
use Rattle.stream_law.specs.declared.graph.Join.{Join}
use Rattle.stream_law.specs.Order.{is_among}
use Rattle.fw_places.specs.Walks.{near_of, unmarked}

abbrev pub no_join : Join
no_join = record { source = 0; sink = 0 }

-- the number, from 1, of the last of the first n joins that leaves x, 0 where none does
abbrev pub last_from : Bool → List Join → ℕ → ℕ → ℕ
last_from back joins zero x = 0
last_from back joins (suc n) x = if near_of back (slice_index_or joins n no_join) == x then suc n else last_from back joins n x

-- for each join there is the number of the one before it that leaves the same place
abbrev pub HasLinks : Bool → List Join → List ℕ → Type 0
HasLinks back joins before = (n : ℕ) → n < length joins → slice_index_or before n 0 ≡ last_from back joins n (near_of back (slice_index_or joins n no_join))

-- all that is marked is found, nothing else is, and there is room for what is not marked yet
pub record AreFound (marks : List Bool) (found : List ℕ) : Type 0 where
  pub room : length found + unmarked marks ≤ length marks
  pub marked : (j : ℕ) → j < length found → slice_index_or marks (slice_index_or found j 0) false ≡ true
  pub all : (k : ℕ) → slice_index_or marks k false ≡ true → is_among found k ≡ true

-- what was marked stays so, and more may be found after what was found
pub record GoOn (marks marks' : List Bool) (found found' : List ℕ) : Type 0 where
  pub size : length marks' ≡ length marks
  pub kept : (k : ℕ) → slice_index_or marks k false ≡ true → slice_index_or marks' k false ≡ true
  pub longer : length found ≤ length found'
  pub same : (j : ℕ) → j < length found → slice_index_or found' j 0 ≡ slice_index_or found j 0
