-- What a plan of lost and refused messages does to a link.
use Rattle.std.specs.Prelude.{◌≡◌, ℕ, ◌+◌, Bool, true, false, List, Result, Ok, Err}
use Rattle.mbox_link.specs.declared.fates.Entry.{Entry}
use Rattle.mbox_link.specs.declared.fates.Fate.{Fate}
use Rattle.mbox_link.specs.declared.fates.PlanFull.{PlanFull}
use Rattle.mbox_link.specs.Meetings.{with_fate, with_lag, has_room, has_lag_room}
use Rattle.mbox_link.specs.Wire.{Wire}

-- the link with other entries, and all else the same
abbrev pub holding : {P : Type 0} → Wire P → List Entry → Wire P
holding link entries = record { device = link.device; entries = entries; sent = link.sent; dropped = link.dropped; refused = link.refused }

-- the result of planning: these entries are held, or there was no room and nothing changed
abbrev pub PlannedSo : {P : Type 0} → Bool → List Entry → Wire P → Result (Unit {0}) PlanFull → Wire P → Type 0
PlannedSo room entries old (Ok done) new = (room ≡ true) × (new ≡ holding old entries)
PlannedSo room entries old (Err full) new = (room ≡ false) × (new ≡ old)

-- the result of planning a fate of the k-th message from now
abbrev pub Planned : {P : Type 0} → ℕ → Fate → Wire P → Result (Unit {0}) PlanFull → Wire P → Type 0
Planned k fate old result new =
    let n = old.sent + k in PlannedSo (has_room n old.entries) (with_fate n fate old.entries) old result new

-- the result of planning so many ticks before it
abbrev pub LagPlanned : {P : Type 0} → ℕ → ℕ → Wire P → Result (Unit {0}) PlanFull → Wire P → Type 0
LagPlanned k ticks old result new =
    let n = old.sent + k in PlannedSo (has_lag_room n ticks old.entries) (with_lag n ticks old.entries) old result new
