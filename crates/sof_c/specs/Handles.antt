-- What calls answer and leave in a handle, which is closed or has a machine.
use Rattle.std.specs.Prelude.{◌≡◌, ℕ, List, [], Option, Some, None}
use Rattle.sof_c.specs.declared.status.TheConstants.{DONE, CLOSED, OPEN, NO_MEMORY}
use Rattle.sof_c.specs.declared.machine.Machine.{Machine}
use Rattle.sof_c.specs.Machines.{IsNewMachine}

-- the answer, where it depends on the machine alone
abbrev pub status_at : (Machine → ℕ) → Option Machine → ℕ
status_at status None = CLOSED
status_at status (Some m) = status m

-- the machine after a call
abbrev pub after_at : (Machine → Machine) → Option Machine → Option Machine
after_at after None = None
after_at after (Some m) = Some (after m)

-- the bytes that a call hands out, none where the handle is closed
abbrev pub handed_bytes : (Machine → List ℕ) → Option Machine → List ℕ
handed_bytes handed None = []
handed_bytes handed (Some m) = handed m

-- the number that a call gives, 0 where the handle is closed
abbrev pub count_at : (Machine → ℕ) → Option Machine → ℕ
count_at count None = 0
count_at count (Some m) = count m

-- a call that memory may refuse
abbrev pub CallAt : (Machine → ℕ → Machine → Type 0) → Option Machine → ℕ → Option Machine → Type 0
CallAt Did None status n = (status ≡ CLOSED) × (n ≡ None)
CallAt Did (Some m) status None = ⊥
CallAt Did (Some m) status (Some n) = Did m status n

-- a machine is made, unless memory is missing or there is one
abbrev pub IsOpened : ℕ → Option Machine → ℕ → Option Machine → Type 0
IsOpened room (Some m) status n = (status ≡ OPEN) × (n ≡ Some m)
IsOpened room None status None = status ≡ NO_MEMORY
IsOpened room None status (Some n) = (status ≡ DONE) × IsNewMachine room n
