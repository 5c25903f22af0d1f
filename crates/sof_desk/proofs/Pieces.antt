-- The part of a piece that a room takes.
use Rattle.std.proofs.Common.{◌≡◌, ℕ, Bool, true, false, nat_le, List, length, take, drop, min, Option, Some, None, refl, arith, take-append-drop}
use Rattle.std.proofs.lemmas.List.{take_all}
use Rattle.sof_desk.specs.Desk.{Part}
use Rattle.sof_desk.specs.Room.{Room, room_left, room_taken, takes_whole}

-- a front of a piece is a part of it
front : (n : ℕ) (piece : List ℕ) → Part false (take n piece) piece
front n piece = (drop n piece, take-append-drop n piece)

pub taken_part : (room : Room) (planned : Option ℕ) (piece : List ℕ) → Part (takes_whole room planned piece) (take (room_taken room planned piece) piece) piece
taken_part room (Some passes) piece = front (room_taken room (Some passes) piece) piece
taken_part room None piece = by_test (nat_le (length piece) (room_left room)) refl
  where
    by_test : (b : Bool) → nat_le (length piece) (room_left room) ≡ b → Part b (take (min (length piece) (room_left room)) piece) piece
    by_test true fits = take_all (min (length piece) (room_left room)) piece (grind arith)
    by_test false over = front (min (length piece) (room_left room)) piece
