-- The written run: command by command what host and link know, the moments of the device, and the bytes that the stream equations
-- give for them. No state of a firmware stands in it; a device stands beside it.
use Rattle.std.specs.Prelude.{◌≡◌, ℕ, zero, suc, List, [], ◌∷◌, drop, map, length}
use Rattle.std.specs.List.{flat_map, fold}
use Rattle.sof_base.specs.Ports.{OutputView}
use Rattle.stream_law.specs.Table.{list_of}
use Rattle.stream_law.specs.Past.{Moment, Boot, Past, Leads, start}
use Rattle.mbox_link.specs.Exchange.{more}
use Rattle.mbox_link.specs.Meetings.{Doing}
use Rattle.tplg_plan.specs.declared.plans.Plan.{Plan}
use Rattle.sof_script.specs.declared.script.Command.{Command}
use Rattle.host_widgets.specs.declared.kept.Record.{Record}
use Rattle.host_widgets.specs.HostActs.{Act}
use Rattle.sof_session.specs.CommandRules.{CommandRules}
use Rattle.sof_session.specs.Commands.{Known, CommandResult, first_known, next, command_rules}
use Rattle.sof_script.specs.Tasks.{Written, Out}

-- ---- what comes out

-- no bytes are not written
abbrev pub with_bytes : ℕ → List ℕ → List Written → List Written
with_bytes slot [] rest = rest
with_bytes slot (byte ∷ bytes) rest = (slot, byte ∷ bytes) ∷ rest

-- outputs to which nothing was written yet
abbrev pub empty_outputs : List ℕ → List OutputView
empty_outputs slots = map (λ slot. record { slot = slot; bytes = [] }) slots

-- what was written to each output that has bytes
abbrev pub written_in : List OutputView → List Written
written_in [] = []
written_in (output ∷ outputs) = with_bytes output.slot output.bytes (written_in outputs)

-- the bytes that a slot got between two pasts
abbrev pub bytes_between : Past → Past → ℕ → List ℕ
bytes_between old new slot = drop (length (list_of old.bytes slot)) (list_of new.bytes slot)

-- those of each slot that has any
abbrev pub written_between : List ℕ → Past → Past → List Written
written_between [] old new = []
written_between (slot ∷ slots) old new = with_bytes slot (bytes_between old new slot) (written_between slots old new)

-- ---- where a run is

-- what a run is written by: the rules of its commands, the whole bytes of each input, and the slots of the outputs by ascending number
pub record Basis (S A : Type 0) : Type 0 where
  pub rules : CommandRules S A
  pub whole : List (ℕ × List ℕ)
  pub slots : List ℕ

-- what a run is over where all pipelines are made: the plan, the heap, and the same
pub record Ground : Type 0 where
  pub plan : Plan
  pub heap : ℕ
  pub whole : List (ℕ × List ℕ)
  pub slots : List ℕ

abbrev pub basis_of : Ground → Basis Record Act
basis_of g = record { rules = command_rules g.plan g.heap; whole = g.whole; slots = g.slots }

-- where a run is: what is known, and all that the moments so far left
pub record At (S : Type 0) : Type 0 where
  pub known : Known S
  pub past : Past

-- before the first command
abbrev pub first_at : {S A : Type 0} → Basis S A → At S
first_at b = record { known = first_known b.rules; past = start }

-- ---- one command

-- the result of a command where the run is
abbrev pub came_at : {S A : Type 0} → Basis S A → Doing → Command → At S → CommandResult S A
came_at b doing command at = next b.rules doing at.known command

-- The run goes on by a command: what is known is the written next, and its moments lead on by the equations.
pub record LegStep {S A : Type 0} (b : Basis S A) (doing : Doing) (command : Command) (old new : At S) : Type 0 where
  pub known : new.known ≡ (came_at b doing command old).known
  pub led : Leads b.whole old.past (came_at b doing command old).moments new.past

-- what a command answers, shows and writes
abbrev pub out_of : {S A : Type 0} → Basis S A → Doing → Command → At S → At S → Out
out_of b doing command old new = record {
  answer = (came_at b doing command old).answer;
  shown = b.rules.shown old.known.kept command;
  written = written_between b.slots old.past new.past;
}

-- ---- commands, one after another

-- a leg of a run: a command, what it answered, showed and wrote, its moments, and where the run is after it
pub record Leg (S : Type 0) : Type 0 where
  pub command : Command
  pub out : Out
  pub moments : List Moment
  pub at : At S

pub record IsLeg {S A : Type 0} (b : Basis S A) (doing : Doing) (command : Command) (old : At S) (leg : Leg S) : Type 0 where
  pub command_is : leg.command ≡ command
  pub goes : LegStep b doing command old leg.at
  pub out_is : leg.out ≡ out_of b doing command old leg.at
  pub moments_are : leg.moments ≡ (came_at b doing command old).moments

-- the run of these commands
abbrev pub IsRun : {S A : Type 0} → Basis S A → Doing → List Command → At S → List (Leg S) → Type 0
IsRun b doing [] old legs = legs ≡ []
IsRun b doing (command ∷ commands) old [] = ⊥
IsRun b doing (command ∷ commands) old (leg ∷ legs) = IsLeg b doing command old leg × IsRun b doing commands leg.at legs

-- where it is at its end
abbrev pub end_of : {S : Type 0} → At S → List (Leg S) → At S
end_of {S} at legs = fold (λ (at : At S) (leg : Leg S). leg.at) at legs

-- all its moments
abbrev pub moments_of : {S : Type 0} → List (Leg S) → List Moment
moments_of {S} legs = flat_map (λ (leg : Leg S). leg.moments) legs

-- how often it boots
abbrev pub boots_in : List Moment → ℕ
boots_in [] = 0
boots_in (Boot ∷ moments) = suc (boots_in moments)
boots_in (_ ∷ moments) = boots_in moments

-- a count of boots after so many more, up to its last value
abbrev pub raised : ℕ → ℕ → ℕ
raised zero count = count
raised (suc n) count = raised n (more count)
