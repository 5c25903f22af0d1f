-- What was written after bytes that are kept.
use Rattle.std.specs.Prelude.{ℕ, ◌+◌, List, ◌++◌, take, drop}
use Rattle.std.specs.Int.{w32, to_le_bytes}
use Rattle.sof_base.specs.Cells.{Cell}
use Rattle.sof_base.specs.Slots.{Slot}
use Rattle.sof_base.specs.Layouts.{wrote, wrote_all, wrote_part}

-- bytes that are kept, and those that were written after them
pub record Sunk : Type 0 where
  pub front : List ℕ
  pub added : List ℕ

-- a field more
abbrev pub with_field : Sunk → Slot → Sunk
with_field s slot = record { front = s.front; added = wrote s.added slot }

-- fields more
abbrev pub with_fields : Sunk → List Slot → Sunk
with_fields s slots = record { front = s.front; added = wrote_all s.added slots }

-- cells more
abbrev pub with_cells : Sunk → List Cell → Sunk
with_cells s cells = record { front = s.front; added = wrote_part s.added cells }

-- four bytes of what was written are those of this number
unfoldable pub patched : ℕ → ℕ → List ℕ → List ℕ
patched at n bytes = take at bytes ++ (to_le_bytes w32 n ++ drop (at + 4) bytes)
