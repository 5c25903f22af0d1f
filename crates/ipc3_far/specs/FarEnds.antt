-- The bytes between a device and its far side, where they are known.
use Rattle.std.specs.Prelude.{◌≡◌, ℕ, ◌+◌, ◌≤◌, Bool, true, false, List, [], ◌++◌, length, take, Option}
use Rattle.std.specs.Io.KnownBytes.{Keeps, Appends, Consumes, IsAtEnd}
use Rattle.ipc3_trace.specs.declared.entry.Entry.TheVariants as entries
use Rattle.ipc3_trace.specs.Kinds.{size_after}
use Rattle.ipc3_trace.specs.Records.{record_bytes}
use Rattle.ipc3_far.specs.declared.answer.FarAnswer.{FarAnswer}
use Rattle.ipc3_far.specs.declared.answer.FarAnswer.TheVariants.{Reply, Other, End, Unsent, Unread}

-- what was sent to a far side, what it has yet to give, and whether a record did not go out, which the next message tells
pub record FarEnds : Type 0 where
  pub sent : Option (List ℕ)
  pub unread : Option (List ℕ)
  pub stuck : Bool

abbrev pub new_ends : (sent unread : Option (List ℕ)) → FarEnds
new_ends sent unread = record { sent = sent; unread = unread; stuck = false }

-- bytes were sent, unless they or earlier ones did not go out; nothing was read
pub record Sends (bytes : List ℕ) (old new : FarEnds) : Type 0 where
  pub sent : new.stuck ≡ false → (old.stuck ≡ false) × Appends old.sent new.sent bytes
  pub unread : new.unread ≡ old.unread

-- bytes were sent, where they are due
abbrev pub SendsWhere : Bool → List ℕ → FarEnds → FarEnds → Type 0
SendsWhere true bytes old new = Sends bytes old new
SendsWhere false bytes old new = new ≡ old

-- a message was sent, after all records before it, and its reply was read, as one record and no more
pub record Exchanges (message reply : List ℕ) (old new : FarEnds) : Type 0 where
  pub all : old.stuck ≡ false
  pub sent : Appends old.sent new.sent (record_bytes (entries.Request message))
  pub read : Consumes old.unread new.unread (record_bytes (entries.Reply reply))

-- a message was sent, after all records before it
pub record SendsMessage (message : List ℕ) (old new : FarEnds) : Type 0 where
  pub all : old.stuck ≡ false
  pub sent : Appends old.sent new.sent (record_bytes (entries.Request message))

-- what was sent, and what is yet to be read, stay as they are
pub record LetsOut (old new : FarEnds) : Type 0 where
  pub sent : Keeps old.sent new.sent
  pub unread : new.unread ≡ old.unread
  pub stuck : new.stuck ≡ old.stuck

-- ---- what is read

-- bytes up to a place were read after those that were there
abbrev pub ReadsOn : ℕ → ℕ → List ℕ → List ℕ → Option (List ℕ) → Option (List ℕ) → Type 0
ReadsOn from there before after old new =
    (bytes : List ℕ) × (take there after ≡ take from before ++ bytes) × Consumes old new bytes

-- no more is there than kind and size announce
abbrev pub IsAtMostRecord : List ℕ → Type 0
IsAtMostRecord bytes = 8 ≤ length bytes → length bytes ≤ 8 + size_after bytes

-- bytes were read, at most one record
abbrev pub ReadsRecord : List ℕ → Option (List ℕ) → Option (List ℕ) → Type 0
ReadsRecord bytes old new = IsAtMostRecord bytes × Consumes old new bytes

-- bytes that came back are a reply's record, are handed on as they are, or are none
abbrev pub IsAnswer : List ℕ → FarAnswer → Type 0
IsAnswer bytes (Reply reply) = bytes ≡ record_bytes (entries.Reply reply)
IsAnswer bytes (Other other) = other ≡ bytes
IsAnswer bytes End = bytes ≡ []
IsAnswer bytes (Unsent reason) = ⊥
IsAnswer bytes (Unread reason) = ⊥

-- what came back was read; if nothing did, there is no more to read
abbrev pub WasReadAs : FarAnswer → Option (List ℕ) → Option (List ℕ) → Type 0
WasReadAs (Unread reason) old new = Unit {0}
WasReadAs End old new = Consumes old new [] × IsAtEnd new
WasReadAs answer old new = (bytes : List ℕ) × IsAnswer bytes answer × Consumes old new bytes

-- a message was sent, and what came back was read; or it did not go out, or a record before it did not, and then nothing was read
abbrev pub Asks : List ℕ → FarAnswer → FarEnds → FarEnds → Type 0
Asks message (Unsent reason) old new = new.unread ≡ old.unread
Asks message answer old new = SendsMessage message old new × WasReadAs answer old.unread new.unread
