-- What is still to do: a program's calls on a desk and turns on a device, by what each of them answers.
use Rattle.std.specs.Prelude.{◌≡◌, ◌⊎◌, ℕ, Bool, true, false, List, [], ◌∷◌, ◌++◌, Option, MatchOption, Ok, Err, if◌then◌else◌}
use Rattle.sof_desk.specs.declared.calls.LoadFault.TheVariants.{Failed, TooLong, OutOfMemory}
use Rattle.sof_desk.specs.Desk.{DeskMeaning, DeskAct, Put, Spoken, DeskCall, Load, Did, Read, DeskLed}
use Rattle.mbox_link.specs.Calls.{Exchange}
use Rattle.sof_script.specs.Tasks.{Out, Task, Fill, Give, Turn, Turning, AreTurns}
use Rattle.run_desk.specs.TopologyBytes.{AreBytes}
use Rattle.run_desk.specs.Lines.{no_memory_line}
use Rattle.run_desk.specs.DeskCalls.{reading, answer_in}

-- what a program has still to do
pub data Todo : Type 0 where
  -- nothing more: status 0
  End : Todo
  -- this line is said, and then this status
  Stop : (line : List ℕ) (status : ℕ) → Todo
  -- a file is loaded; where it is too long this line is said, and then status 5
  Ask : (name : List ℕ) (limit : ℕ) (line : List ℕ) (next : List ℕ → Todo) → Todo
  -- a call that answers only whether it was done
  Do : (act : DeskAct) (next : Todo) → Todo
  -- a turn on the device
  Step : (task : Task) (next : Out → Todo) → Todo
  -- the inputs are filled by reads, until none of them is to be read next or a read fails
  Refill : (next : Todo) → Todo
  -- a message is given to a device outside a session, and what comes next is by its reply
  Send : (message : List ℕ) (next : Option (List ℕ) → Todo) → Todo
  -- memory may be missing here
  Free : (next : Todo) → Todo

-- a line is said and no other call is made; where the desk fails, the status is 3
abbrev pub Says : List ℕ → ℕ → List Turn → List DeskCall → ℕ → Type 0
Says line n turns [] status = ⊥
Says line n turns (Load name limit heard ∷ calls) status = ⊥
Says line n turns (Read slot size got ∷ calls) status = ⊥
Says line n turns (Did act done ∷ calls) status =
    (act ≡ Put Spoken line) × (turns ≡ []) × (calls ≡ []) × (status ≡ (if done then n else 3))

-- what is left once a call or a turn was made: nothing
abbrev pub Over : ℕ → List Turn → List DeskCall → ℕ → Type 0
Over n turns calls status = (turns ≡ []) × (calls ≡ []) × (status ≡ n)

-- a turn fills the inputs by the reads that these calls begin with
pub record FillTurn (turn : Turn) (calls : List DeskCall) : Type 0 where
  pub reads : List (ℕ × List ℕ)
  pub failed : Option ℕ
  pub later : List DeskCall
  pub task : turn.task ≡ Fill reads failed
  pub calls_are : calls ≡ reading reads failed ++ later

-- Doing it makes these turns and these calls, in this order and no others, and ends with this status. What a load brings is bytes.
abbrev pub DoneBy : Todo → List Turn → List DeskCall → ℕ → Type 0
DoneBy End turns calls status = Over 0 turns calls status
DoneBy (Stop line n) turns calls status = Says line n turns calls status
DoneBy (Ask name limit line next) turns [] status = ⊥
DoneBy (Ask name limit line next) turns (Did act done ∷ calls) status = ⊥
DoneBy (Ask name limit line next) turns (Read slot size got ∷ calls) status = ⊥
DoneBy (Ask name limit line next) turns (Load n l (Ok bytes) ∷ calls) status =
    (n ≡ name) × (l ≡ limit) × DoneBy (next bytes) turns calls status × AreBytes bytes
DoneBy (Ask name limit line next) turns (Load n l (Err TooLong) ∷ calls) status =
    (n ≡ name) × (l ≡ limit) × Says line 5 turns calls status
DoneBy (Ask name limit line next) turns (Load n l (Err OutOfMemory) ∷ calls) status =
    (n ≡ name) × (l ≡ limit) × Says no_memory_line 7 turns calls status
DoneBy (Ask name limit line next) turns (Load n l (Err Failed) ∷ calls) status =
    (n ≡ name) × (l ≡ limit) × Over 3 turns calls status
DoneBy (Do act next) turns [] status = ⊥
DoneBy (Do act next) turns (Load name limit heard ∷ calls) status = ⊥
DoneBy (Do act next) turns (Read slot size got ∷ calls) status = ⊥
DoneBy (Do act next) turns (Did a true ∷ calls) status = (a ≡ act) × DoneBy next turns calls status
DoneBy (Do act next) turns (Did a false ∷ calls) status = (a ≡ act) × Over 3 turns calls status
DoneBy (Step task next) [] calls status = ⊥
DoneBy (Step task next) (turn ∷ turns) calls status = (turn.task ≡ task) × DoneBy (next turn.out) turns calls status
DoneBy (Refill next) [] calls status = ⊥
DoneBy (Refill next) (turn ∷ turns) calls status =
    (f : FillTurn turn calls) × MatchOption f.failed (DoneBy next turns f.later status) (λ slot. Over 3 turns f.later status)
DoneBy (Send message next) [] calls status = ⊥
DoneBy (Send message next) (turn ∷ turns) calls status =
    (turn.task ≡ Give (Exchange message (answer_in turn.task))) × DoneBy (next (answer_in turn.task)) turns calls status
DoneBy (Free next) turns calls status = DoneBy next turns calls status ⊎ Says no_memory_line 7 turns calls status

-- it was done on a desk
pub record Played {D : Type 0} (means : DeskMeaning D) (todo : Todo) (old : D) (turns : List Turn) (status : ℕ) (new : D) : Type 0 where
  pub calls : List DeskCall
  pub led : DeskLed means old calls new
  pub goes : DoneBy todo turns calls status

-- it was done on a desk and a device, by turns that are so
pub record RanOn {D L : Type 0} (means : DeskMeaning D) (by : Turning L) (todo : Todo) (old : D) (p : L) (status : ℕ) (new : D) (q : L) : Type 0 where
  pub turns : List Turn
  pub turned : AreTurns by p turns q
  pub played : Played means todo old turns status new

-- A phase on a desk alone, before what comes after it. Done, it leads on; else the desk failed, and all ends with 3.
abbrev pub DeskPhase : {D : Type 0} → DeskMeaning D → (Todo → Todo) → Bool → D → D → Type 0
DeskPhase {D} means phase true old new =
    (rest : Todo) (turns : List Turn) (status : ℕ) (end : D) → Played means rest new turns status end → Played means (phase rest) old turns status end
DeskPhase means phase false old new = (rest : Todo) → Played means (phase rest) old [] 3 new

-- what is left on the right, done, makes the whole on the left done
abbrev pub LeadsOn : {D L : Type 0} → DeskMeaning D → Turning L → (Todo → Todo) → (Todo → Todo) → D → L → D → L → Type 0
LeadsOn {D} {L} means by whole left old p new q =
    (rest : Todo) (status : ℕ) (end : D) (r : L) → RanOn means by (left rest) new q status end r → RanOn means by (whole rest) old p status end r

-- the desk failed
abbrev pub PhaseFails : {D L : Type 0} → DeskMeaning D → Turning L → (Todo → Todo) → D → L → D → L → Type 0
PhaseFails means by whole old p new q = (rest : Todo) → RanOn means by (whole rest) old p 3 new q

-- a phase on both
abbrev pub Phase : {D L : Type 0} → DeskMeaning D → Turning L → (Todo → Todo) → Bool → D → L → D → L → Type 0
Phase means by phase true old p new q = LeadsOn means by phase (λ rest. rest) old p new q
Phase means by phase false old p new q = PhaseFails means by phase old p new q
