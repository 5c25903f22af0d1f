-- What `check` and `graph` do, by the bytes of their file: the lines that they say of a topology differ.
use Rattle.std.specs.Prelude.{◌≡◌, ◌⊎◌, ℕ, ◌≤◌, List, [], ◌∷◌, length, map, Option, Some, Ok, Err, codes, ◌<◌, Result, MatchResult}
use Rattle.std.specs.List.{concat}
use Rattle.sof_desk.specs.declared.calls.LoadFault.TheVariants.{TooLong}
use Rattle.sof_desk.specs.Desk.{DeskMeaning, DeskCall, Load}
use Rattle.tplg_model.specs.declared.block.Topology.{Topology}
use Rattle.tplg_model.specs.File.{IsFileFault}
use Rattle.tplg_rules.specs.WellFormed.{IsWellFormed, Breaks}
use Rattle.run_desk.specs.declared.preparing.Halt.{Halt}
use Rattle.run_desk.specs.declared.preparing.Halt.TheVariants as halts
use Rattle.run_desk.specs.Lines.{no_memory_line, halt_line}
use Rattle.run_desk.specs.TopologyBytes.{IsFile, IsBroken}
use Rattle.run_desk.specs.DeskCalls.{heard_in, saying}
use Rattle.run_desk.specs.SaidText.{Spoke, IsFront}

-- Why bytes are no right topology: no topology has them, and this is their first fault; or the topology that has them breaks
-- this rule first, with this least item.
abbrev pub IsWrong : List ℕ → Halt → Type 0
IsWrong bytes (halts.Broken fault) = IsBroken bytes × IsFileFault bytes fault
IsWrong bytes (halts.Rule rule item) = (t : Topology) × IsFile bytes t × Breaks t rule item
IsWrong bytes why = ⊥

-- the bytes are the file of a topology that keeps all rules
abbrev pub IsRight : List ℕ → Topology → Type 0
IsRight bytes t = IsFile bytes t × IsWellFormed t

-- the file was loaded, and then these lines were said
abbrev pub telling : List ℕ → List ℕ → List (List ℕ) → List DeskCall
telling name bytes lines = Load name 1048576 (Ok bytes) ∷ map saying lines

-- The status by the file's bytes, whose cases exclude each other, and all calls on the desk: a desk that failed or want of
-- memory; 5 where the file is too long; 2 where it is no right topology, and then the line for it was said; 0 where it is
-- one, and then these lines of it were said.
abbrev pub CheckVerdict : (Topology → List (List ℕ)) → List ℕ → List ℕ → List DeskCall → ℕ → Type 0
CheckVerdict lines name bytes calls status =
    ((status ≡ 3) ⊎ (status ≡ 7))
    ⊎ (((status ≡ 5) × (1048576 < length bytes) × (calls ≡ Load name 1048576 (Err TooLong) ∷ saying (codes "too long topology\n") ∷ []))
    ⊎ (((why : Halt) × (status ≡ 2) × (length bytes ≤ 1048576) × IsWrong bytes why × (calls ≡ telling name bytes (halt_line why ∷ [])))
    ⊎ ((status ≡ 0) × (length bytes ≤ 1048576) × ((t : Topology) × IsRight bytes t × (calls ≡ telling name bytes (lines t))))))

-- ---- what was written

-- A text was said: all of it with a status, or a front of it with status 3. Or there was no memory before, and the line for it
-- was said or a front of it.
pub record WroteText {D : Type 0} (means : DeskMeaning D) (text : List ℕ) (n : ℕ) (old new : D) (status : ℕ) : Type 0 where
  pub part : List ℕ
  pub spoke : Spoke means part old new
  pub is : ((status ≡ n) × (part ≡ text)) ⊎ (((status ≡ 3) × IsFront part text) ⊎ (((status ≡ 3) ⊎ (status ≡ 7)) × IsFront part no_memory_line))

-- ---- all

-- Where the words are those of `check` or of `graph`, and name this file.
pub record Checks {D P : Type 0} (means : DeskMeaning D) (lines : Topology → List (List ℕ)) (named : Option (List ℕ)) (old : D) (p : P) (calls : List DeskCall) (status : ℕ) (new : D) (q : P) : Type 0 where
  -- the device is not touched
  pub alone : (name : List ℕ) → named ≡ Some name → q ≡ p
  -- the status is by the file's bytes, where the desk tells them, and, whatever the desk tells, by those that the load brought
  pub judged : (name bytes : List ℕ) → named ≡ Some name → (means.holds old name ≡ Some bytes) ⊎ (heard_in calls ≡ Ok bytes ∷ []) → CheckVerdict lines name bytes calls status
  -- of a right topology the lines were said, and nothing else was written
  pub told : (name bytes : List ℕ) (t : Topology) → named ≡ Some name → means.holds old name ≡ Some bytes → length bytes ≤ 1048576 → IsRight bytes t
      → WroteText means (concat (lines t)) 0 old new status

-- the result for a topology alone
abbrev pub TopologyComesTo : List ℕ → Result Topology Halt → Type 0
TopologyComesTo bytes r = MatchResult r (IsRight bytes) (IsWrong bytes)
