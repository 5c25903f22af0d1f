-- How what came back goes out.
use Rattle.std.specs.Prelude.{◌≡◌, ◌⊎◌, ℕ, Bool, true, false, List, [], ◌∷◌, if◌then◌else◌}
use Rattle.sof_desk.specs.Desk.{DeskMeaning, Put, Slot, Spoken, Did, Acted, DeskLed}
use Rattle.ipc3_trace.specs.declared.entry.Entry.{Entry}
use Rattle.ipc3_trace.specs.declared.entry.Entry.TheVariants as entries
use Rattle.ipc3_trace.specs.Records.{record_bytes}
use Rattle.run_serve.specs.declared.giving.Given.{Given}
use Rattle.run_serve.specs.declared.giving.Given.TheVariants.{Reply, Lost}
use Rattle.run_serve.specs.Serving.{replies_slot}

-- what came back of a record that was given
abbrev pub backs_by : Given → List Entry
backs_by (Reply reply) = entries.Reply reply ∷ []
backs_by Lost = entries.Lost ∷ []
backs_by given = []

-- a piece was appended, and what was kept was written; or the first of these calls that failed was the last
abbrev pub WentOut : {D : Type 0} → DeskMeaning D → List ℕ → Bool → D → D → Type 0
WentOut means piece true old new = DeskLed means old (Did (Put (Slot replies_slot) piece) true ∷ Did (Put Spoken []) true ∷ []) new
WentOut means piece false old new =
    DeskLed means old (Did (Put (Slot replies_slot) piece) false ∷ []) new
    ⊎ DeskLed means old (Did (Put (Slot replies_slot) piece) true ∷ Did (Put Spoken []) false ∷ []) new

-- the same of the record that came back, if one did
abbrev pub AllWentOut : {D : Type 0} → DeskMeaning D → List Entry → Bool → D → D → Type 0
AllWentOut means [] done old new = (done ≡ true) × (new ≡ old)
AllWentOut means (e ∷ es) done old new = (es ≡ []) × WentOut means (record_bytes e) done old new

-- nothing more was said, so that what is kept was written, and the status is 0; or that failed, and it is 3
abbrev pub LetOut : {D : Type 0} → DeskMeaning D → ℕ → D → D → Type 0
LetOut means status old new = (out : Bool) × (status ≡ (if out then 0 else 3)) × Acted means (Put Spoken []) out old new
