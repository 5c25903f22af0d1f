-- Calls on a desk: a line that was said, the reads that fill inputs, and what loads answered; and what a message was answered.
use Rattle.std.specs.Prelude.{ℕ, true, List, [], ◌∷◌, Option, Some, None}
use Rattle.sof_desk.specs.Desk.{Put, Spoken, DeskCall, Load, Did, Heard, Read}
use Rattle.sof_script.specs.Tasks.{Task, Give}
use Rattle.mbox_link.specs.Calls as device

-- a line was said
abbrev pub saying : List ℕ → DeskCall
saying line = Did (Put Spoken line) true

-- the calls of these reads, and the one that failed, if any did
abbrev pub reading : List (ℕ × List ℕ) → Option ℕ → List DeskCall
reading [] None = []
reading [] (Some slot) = Read slot 65536 None ∷ []
reading ((slot, bytes) ∷ reads) failed = Read slot 65536 (Some bytes) ∷ reading reads failed

-- what a message was answered, where a turn gave one
abbrev pub answer_in : Task → Option (List ℕ)
answer_in (Give (device.Exchange request answer)) = answer
answer_in task = None

-- what the loads among calls answered
abbrev pub heard_in : List DeskCall → List Heard
heard_in [] = []
heard_in (Load name limit heard ∷ calls) = heard ∷ heard_in calls
heard_in (_ ∷ calls) = heard_in calls
