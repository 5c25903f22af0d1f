-- How a session's inputs are filled between its commands, and what bytes they may have as a whole.
use Rattle.std.specs.Prelude.{◌≡◌, ◌==◌, ℕ, ◌≤◌, List, [], ◌∷◌, ◌++◌, map, length, Bool, false, not, Option, Some, if◌then◌else◌}
use Rattle.sof_base.specs.Ports.{InputView}
use Rattle.sof_io.specs.Fills.{filled_at, ended_at, wanting}
use Rattle.stream_law.specs.Table.{list_of}

-- ---- reads, one after another

-- the slot that is read next: the first that holds fewer bytes than a command may take and has not ended
abbrev pub next_read : List InputView → Option ℕ
next_read inputs = wanting 983040 inputs

-- the inputs after a read of a slot: a read that brings no bytes ends the input
abbrev pub after_read : ℕ → List ℕ → List InputView → List InputView
after_read slot [] inputs = ended_at slot inputs
after_read slot (byte ∷ bytes) inputs = filled_at slot (byte ∷ bytes) inputs

-- these reads, each a slot with the bytes that came, filled the inputs: each is of the slot that is read next
abbrev pub FilledBy : List (ℕ × List ℕ) → List InputView → List InputView → Type 0
FilledBy [] old new = new ≡ old
FilledBy ((slot, bytes) ∷ reads) old new = (next_read old ≡ Some slot) × (length bytes ≤ 65536) × FilledBy reads (after_read slot bytes old) new

-- the bytes that reads brought, by slot
abbrev pub bytes_read : List (ℕ × List ℕ) → List (ℕ × List ℕ)
bytes_read [] = []
bytes_read ((slot, bytes) ∷ reads) = (slot, bytes ++ list_of (bytes_read reads) slot) ∷ bytes_read reads

-- ---- inputs

-- the slot of each input, and whether it has ended
abbrev pub input_ends : List InputView → List (ℕ × Bool)
input_ends inputs = map (λ (input : InputView). (input.slot, input.ended)) inputs

-- whether more bytes of a slot may come; none of an unknown slot
abbrev pub may_grow : ℕ → List InputView → Bool
may_grow slot [] = false
may_grow slot (input ∷ inputs) = if input.slot == slot then not input.ended else may_grow slot inputs

-- These may be the whole bytes of the inputs, of which those were read: what was read is a front of them, and all of them where
-- no more may come.
pub record AreWhole (inputs : List InputView) (read whole : List (ℕ × List ℕ)) : Type 0 where
  pub front : (slot : ℕ) → (more : List ℕ) × (list_of whole slot ≡ list_of read slot ++ more)
  pub all : (slot : ℕ) → may_grow slot inputs ≡ false → list_of whole slot ≡ list_of read slot
