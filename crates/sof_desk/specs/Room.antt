-- Bytes in a room of a fixed size, and how much of a piece is taken.
use Rattle.std.specs.Prelude.{ℕ, ◌-◌, min, Bool, nat_le, ◌&&◌, List, ◌++◌, length, take, Option, Some, None, is_none}

-- the bytes that are held, and how many there is room for
pub record Room : Type 0 where
  pub bytes : List ℕ
  pub size : ℕ

-- how many bytes more there is room for
abbrev pub room_left : Room → ℕ
room_left room = room.size - length room.bytes

-- how many bytes of a piece are taken: as many as there is room for, and no more than a call passes that is planned to fail
abbrev pub room_taken : Room → Option ℕ → List ℕ → ℕ
room_taken room None piece = min (length piece) (room_left room)
room_taken room (Some passes) piece = min (min (length piece) (room_left room)) passes

-- a room after a piece: its front is appended
abbrev pub room_with_piece : Room → Option ℕ → List ℕ → Room
room_with_piece room planned piece = record room { bytes = room.bytes ++ take (room_taken room planned piece) piece }

-- whether a piece is taken whole by a call that is not planned to fail
abbrev pub takes_whole : Room → Option ℕ → List ℕ → Bool
takes_whole room planned piece = is_none planned && nat_le (length piece) (room_left room)
