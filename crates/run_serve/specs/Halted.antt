-- The result of serving one record.
use Rattle.std.specs.Prelude.{◌≡◌, ◌⊎◌, ℕ, ◌≤◌, List, [], ◌∷◌, map, length, take, is_some}
use Rattle.sof_desk.specs.Desk.{DeskMeaning}
use Rattle.mbox_link.specs.Calls.{Meaning}
use Rattle.ipc3_trace.specs.Records.{record_bytes}
use Rattle.run_serve.specs.declared.serving.Halt.{Halt}
use Rattle.run_serve.specs.declared.serving.Halt.TheVariants.{Wrong, Desk}
use Rattle.run_serve.specs.AnyCalls.{AtDesk, LedByCalls}
use Rattle.run_serve.specs.Reads.{record_reads, Brings}
use Rattle.run_serve.specs.Serving.{ServeRound, IsRound, round_calls, ServeEnd, Unread, Unsent, last_read, ending_calls, IsEnding, IsWrongRecord}

-- a record of so many bytes was served; or the file ended, and then there are none
abbrev pub ServedOne : {D P : Type 0} → DeskMeaning D → Meaning P → ℕ → D → P → D → P → Type 0
ServedOne means dsp size d p e q =
    ((size ≡ 0) × LedByCalls means dsp d p (last_read ∷ []) e q)
    ⊎ ((r : ServeRound) × IsRound (dsp.most p) (is_some (dsp.on p)) r × (size ≡ length (record_bytes r.entry)) × LedByCalls means dsp d p (round_calls r) e q)

-- the desk failed in a read, or when what came back was to go out
abbrev pub IsOfDesk : ServeEnd → Type 0
IsOfDesk (Unread pieces) = Unit {0}
IsOfDesk (Unsent r appended) = Unit {0}
IsOfDesk ending = ⊥

-- the next record is at fault, and so much of it stands at the front of `bytes`; or the desk failed
abbrev pub HaltedAt : {D P : Type 0} → DeskMeaning D → Meaning P → List ℕ → Halt → D → P → D → P → Type 0
HaltedAt means dsp bytes (Wrong there wrong) d p e q =
    (there ≤ length bytes)
    × ((pieces : List (List ℕ)) × Brings [] pieces (take there bytes) × IsWrongRecord (dsp.most p) (is_some (dsp.on p)) (take there bytes) wrong
    × LedByCalls means dsp d p (map AtDesk (record_reads [] pieces)) e q)
HaltedAt means dsp bytes Desk d p e q =
    (ending : ServeEnd) × IsOfDesk ending × IsEnding (dsp.most p) 0 (is_some (dsp.on p)) ending 3 × LedByCalls means dsp d p (ending_calls 0 ending) e q
