-- The holes of a region, as they are kept.
use Rattle.std.specs.Prelude.{◌≡◌, ℕ, ◌+◌, ◌%◌, ◌<◌, ◌≤◌, ◌⊎◌, List, length, map, take, drop}
use Rattle.std.specs.List.{All}
use denote.RawPtr.{Ptr}
use Rattle.fw_heap.specs.declared.free_run.FreeRun.{FreeRun}
use Rattle.sof_base.specs.declared.hole.Hole.{Hole}
use Rattle.sof_base.specs.Spacing.{Below, After}

-- a hole of a place and a size
abbrev pub hole_at : ℕ → ℕ → Hole
hole_at place size = record { place = place; size = size }

-- where one lies
abbrev pub span_of : FreeRun → Hole
span_of h = hole_at h.place h.size

abbrev pub spans : List FreeRun → List Hole
spans hs = map span_of hs

-- the words of each are counted from the pointer p
abbrev pub Ours : Ptr → List FreeRun → Type 0
Ours p hs = All (λ h. h.run.start ≡ p) hs

-- a whole number of units, and not none
abbrev pub IsUnits : Hole → Type 0
IsUnits s = (s.place % 16 ≡ 0) × (0 < s.size) × (s.size % 16 ≡ 0)

-- one ends before the other begins
abbrev pub Clear : Hole → Hole → Type 0
Clear s h = (s.size ≡ 0) ⊎ ((h.size ≡ 0) ⊎ ((s.place + s.size ≤ h.place) ⊎ (h.place + h.size ≤ s.place)))

-- the holes before the index begin at or before a, and the one there begins after it
pub record IsPlace (at a : ℕ) (hs : List Hole) : Type 0 where
  pub within : at ≤ length hs
  pub before : (k : ℕ) (d : Hole) → k < at → (lib.ListN.get_or hs k d).place ≤ a
  pub after : After a (drop at hs)

-- s lies after the holes before the index, and touches none of them, and begins before the one there
pub record IsGap (at : ℕ) (s : Hole) (hs : List Hole) : Type 0 where
  pub within : at ≤ length hs
  pub before : Below s.place (take at hs)
  pub after : After s.place (drop at hs)

-- and touches neither that one
pub record IsFree (at : ℕ) (s : Hole) (hs : List Hole) : Type 0 where
  pub within : at ≤ length hs
  pub before : Below s.place (take at hs)
  pub after : After (s.place + s.size) (drop at hs)
