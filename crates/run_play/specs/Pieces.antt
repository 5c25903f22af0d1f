-- The pieces of units, and what was written of them.
use Rattle.std.specs.Prelude.{ℕ, if◌then◌else◌, List, [], ◌∷◌, ◌++◌, ◌≡◌, ◌⊎◌, map, Option}
use Rattle.sof_script.specs.Text.{answer_line}
use Rattle.sof_script.specs.Tasks.{Out}
use Rattle.run_play.specs.Rounds.{Round}
use Rattle.run_desk.specs.Lines.{with_newline, no_memory_line}
use Rattle.sof_desk.specs.Desk.{DeskMeaning, DeskPlace, Slot, Spoken, same_place, with_more, with_nothing}
use Rattle.sof_io.specs.Bound.{has_slot}

-- the lines of a unit: the answer of its command and what it shows, where it is the last of it
abbrev pub lines_after : Round → Out → List (List ℕ)
lines_after round out = if round.last then answer_line round.numbered.line out.answer ∷ out.shown else []

-- a piece: where it goes, and its bytes
abbrev pub Piece : Type 0
Piece = DeskPlace × List ℕ

-- a unit's, one for each output and line: the bytes of its outputs, by ascending slot, and then its lines, where it is the last of its
-- command
abbrev pub pieces_of : Round → Out → List Piece
pieces_of round out = map (λ w. (Slot w.0, w.1)) out.written ++ map (λ line. (Spoken, with_newline line)) (lines_after round out)

-- of some pieces a front was written, the last one perhaps in part
abbrev pub BreaksOff : List Piece → List Piece → Type 0
BreaksOff (part ∷ parts) (piece ∷ pieces) =
    ((part.0 ≡ piece.0) × ((rest : List ℕ) × (part.1 ++ rest ≡ piece.1)) × (parts ≡ []))
    ⊎ ((part ≡ piece) × BreaksOff parts pieces)
BreaksOff _ _ = ⊥

-- Units, by the result of each: the pieces of each were written in their order, and the status is 0 after the last; or the desk
-- failed at a piece of the last that was made, or at a read before the next, and the status is 3.
abbrev pub AreWritten : List Round → List Out → List Piece → ℕ → Type 0
AreWritten [] [] made status = (made ≡ []) × (status ≡ 0)
AreWritten [] (out ∷ outs) made status = ⊥
AreWritten (round ∷ rounds) [] made status = (made ≡ []) × (status ≡ 3)
AreWritten (round ∷ rounds) (out ∷ outs) made status =
    ((rest : List Piece) × (made ≡ pieces_of round out ++ rest) × AreWritten rounds outs rest status)
    ⊎ (BreaksOff made (pieces_of round out) × (outs ≡ []) × (status ≡ 3))

-- the bytes that pieces put at a place
abbrev pub bytes_of_pieces : DeskPlace → List Piece → List ℕ
bytes_of_pieces place [] = []
bytes_of_pieces place (piece ∷ pieces) = if same_place piece.0 place then piece.1 ++ bytes_of_pieces place pieces else bytes_of_pieces place pieces

-- ---- on the desk

-- what stands at a place once the files of these slots are created: nothing in them, and elsewhere what was there
abbrev pub opened : List ℕ → DeskPlace → Option (List ℕ) → Option (List ℕ)
opened slots Spoken bytes = bytes
opened slots (Slot slot) bytes = if has_slot slot slots then with_nothing bytes else bytes

-- these pieces were written, place by place after what stood there once the files of these slots were created
abbrev pub WroteBehind : {D : Type 0} → DeskMeaning D → List ℕ → List Piece → D → D → Type 0
WroteBehind means slots made old new = (place : DeskPlace) → means.wrote new place ≡ with_more (opened slots place (means.wrote old place)) (bytes_of_pieces place made)

-- nothing was said but the line for want of memory, or a front of it, or no byte; and nothing was appended: a slot is as it was, or as it
-- is once its file is created
pub record WroteNone {D : Type 0} (means : DeskMeaning D) (slots : List ℕ) (old new : D) : Type 0 where
  pub part : List ℕ
  pub front : (rest : List ℕ) × (part ++ rest ≡ no_memory_line)
  pub said : means.wrote new Spoken ≡ with_more (means.wrote old Spoken) part
  pub outputs : (slot : ℕ) → let was = means.wrote old (Slot slot) in (means.wrote new (Slot slot) ≡ was) ⊎ (means.wrote new (Slot slot) ≡ opened slots (Slot slot) was)
