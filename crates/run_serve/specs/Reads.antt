-- The reads that bring a record, byte for byte and no further.
use Rattle.std.specs.Prelude.{◌≡◌, ◌⊎◌, ℕ, ◌+◌, ◌-◌, ◌<◌, ◌≤◌, nat_lt, List, [], ◌∷◌, ◌++◌, length, take, Some, None, Result, Ok, Err, if◌then◌else◌}
use Rattle.std.specs.List.{flat_map}
use Rattle.sof_desk.specs.Desk.{DeskMeaning, DeskCall, Read, DeskLed}
use Rattle.ipc3_trace.specs.Kinds.{size_after}

-- the slot of the driver's records
abbrev pub requests_slot : ℕ
requests_slot = 0

-- how many bytes are asked for where these of a record are there: what is missing of its kind and size, and else of what follows them
abbrev pub asked : List ℕ → ℕ
asked part = if nat_lt (length part) 8 then 8 - length part else (8 + size_after part) - length part

-- reads, one after another, where these bytes are there before
abbrev pub record_reads : List ℕ → List (List ℕ) → List DeskCall
record_reads part [] = []
record_reads part (piece ∷ pieces) = Read requests_slot (asked part) (Some piece) ∷ record_reads (part ++ piece) pieces

-- Pieces bring all that is asked for; or the file ends before that, and then the last piece is empty. What is there then is `all`.
abbrev pub Brings : List ℕ → List (List ℕ) → List ℕ → Type 0
Brings part [] all = (asked part ≡ 0) × (all ≡ part)
Brings part (piece ∷ pieces) all =
    (0 < asked part)
    × (((piece ≡ []) × (pieces ≡ []) × (all ≡ part)) ⊎ ((0 < length piece) × (length piece ≤ asked part) × Brings (part ++ piece) pieces all))

-- all bytes of pieces
abbrev pub joined_pieces : List (List ℕ) → List ℕ
joined_pieces pieces = flat_map (λ piece. piece) pieces

-- pieces bring bytes, and more are asked for
abbrev pub BringsMore : List ℕ → List (List ℕ) → List ℕ → Type 0
BringsMore part [] all = (0 < asked part) × (all ≡ part)
BringsMore part (piece ∷ pieces) all = (0 < length piece) × (length piece ≤ asked part) × BringsMore (part ++ piece) pieces all

-- ---- the result of reading

-- the next record was read, as far as the file has it, and this is there
abbrev pub WasBrought : {D : Type 0} → DeskMeaning D → List ℕ → D → D → Type 0
WasBrought means all old new = (pieces : List (List ℕ)) × Brings [] pieces all × DeskLed means old (record_reads [] pieces) new

-- a read failed
abbrev pub WasUnread : {D : Type 0} → DeskMeaning D → D → D → Type 0
WasUnread means old new =
    (pieces : List (List ℕ)) × BringsMore [] pieces (joined_pieces pieces)
    × DeskLed means old (record_reads [] pieces ++ (Read requests_slot (asked (joined_pieces pieces)) None ∷ [])) new

-- each slot is created and open as before
pub record SameSlots {D : Type 0} (means : DeskMeaning D) (old new : D) : Type 0 where
  pub created : (slot : ℕ) → means.created new slot ≡ means.created old slot
  pub opened : (slot : ℕ) → means.opened new slot ≡ means.opened old slot

-- ---- reads up to a place: of a private function, by its loop

-- reads, one after another, that ask for all up to a place
abbrev pub fills : ℕ → ℕ → List (List ℕ) → List DeskCall
fills there to [] = []
fills there to (piece ∷ pieces) = Read requests_slot (to - there) (Some piece) ∷ fills (there + length piece) to pieces

-- pieces that lead from one place to another, `end`: none of them is empty, but for the last where the file ends first
abbrev pub FillsTo : ℕ → ℕ → List (List ℕ) → ℕ → Type 0
FillsTo there to [] end = (there ≡ to) × (end ≡ to)
FillsTo there to (piece ∷ pieces) end =
    (there < to)
    × (((piece ≡ []) × (pieces ≡ []) × (end ≡ there)) ⊎ ((0 < length piece) × (length piece ≤ to - there) × FillsTo (there + length piece) to pieces end))

-- pieces before a read that failed, at this place
abbrev pub FillsUpTo : ℕ → ℕ → List (List ℕ) → ℕ → Type 0
FillsUpTo there to [] end = (there < to) × (end ≡ there)
FillsUpTo there to (piece ∷ pieces) end = (0 < length piece) × (length piece ≤ to - there) × FillsUpTo (there + length piece) to pieces end

-- what was filled up to a place: the bytes before it stay, and the pieces stand after them
abbrev pub Filled : {D F : Type 0} → DeskMeaning D → ℕ → ℕ → List ℕ → Result ℕ F → List ℕ → D → D → Type 0
Filled means from to before (Ok there) after old new =
    (pieces : List (List ℕ)) × FillsTo from to pieces there × (take there after ≡ take from before ++ joined_pieces pieces) × DeskLed means old (fills from to pieces) new
Filled means from to before (Err fault) after old new =
    (pieces : List (List ℕ)) × (there : ℕ) × FillsUpTo from to pieces there × (take there after ≡ take from before ++ joined_pieces pieces)
    × DeskLed means old (fills from to pieces ++ (Read requests_slot (to - there) None ∷ [])) new
