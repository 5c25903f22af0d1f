-- What a message was answered.
use Rattle.std.specs.Prelude.{◌≡◌, ℕ, ℤ, pos, OnErr, Result, Ok, Err}
use Rattle.sof_base.specs.declared.errno.Errno.{Errno}
use Rattle.ipc3_model.specs.declared.reply.Body.{Body}
use Rattle.ipc3_model.specs.declared.reply.Body.TheVariants.{Nothing}
use Rattle.ipc3_model.specs.declared.reply.Reply.{Reply}
use Rattle.stream_law.specs.State.{FwState}
use Rattle.fw_heap.specs.Regions.{RegionState}
use Rattle.fw_components.specs.Tables.{Tables}
use Rattle.fw_core.specs.Held.{state_in, IsPieceHeld}

-- the state that a message led to, or its negative error
abbrev pub answer_of : {X : Type 0} → FwState → Result X Errno → Result FwState ℤ
answer_of new (Ok done) = Ok new
answer_of new (Err error) = Err error.0

-- the answer to a message that tells nothing
abbrev pub bare_answer : Result Unit Errno → Result Body Errno
bare_answer (Ok done) = Ok Nothing
bare_answer (Err error) = Err error

-- the reply to a message: 0 and its body where it was done, or its error
abbrev pub reply_with : Result Body Errno → Reply
reply_with (Ok body) = record { error = pos 0; body = body }
reply_with (Err error) = record { error = error.0; body = Nothing }

-- What a call does that a row of messages describes: it leads to the row's state or tells its error, at any clock, since the clock stands
-- beside the tables. What is so of the
-- tables and the region stays so, the region is the same with its sizes, and nothing changes where the row is refused.
pub record IsRow {X : Type 0} (row : FwState → Result FwState ℤ) (t u : Tables) (r s : RegionState) (answer : Result X Errno) : Type 0 where
  pub told : (clock : ℕ) → answer_of (state_in u s clock) answer ≡ row (state_in t r clock)
  pub held : IsPieceHeld u s
  pub same : (s.home ≡ r.home) × (s.size ≡ r.size) × (s.usable ≡ r.usable)
  pub kept : OnErr answer ((u ≡ t) × (s ≡ r))

-- The same of a call that leaves the region alone, whatever region it is.
abbrev pub IsRowOfTables : {X : Type 0} → (FwState → Result FwState ℤ) → Tables → Tables → Result X Errno → Type 0
IsRowOfTables row t u answer = (r : RegionState) → IsPieceHeld t r → IsRow row t u r r answer
