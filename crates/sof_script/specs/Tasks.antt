-- What a program has a session do, turn by turn, and the result of each turn.
use Rattle.std.specs.Prelude.{◌≡◌, ℕ, Bool, List, [], ◌∷◌, Option}
use Rattle.sof_base.specs.Ports.{InputView}
use Rattle.mbox_link.specs.Calls.{Call}
use Rattle.tplg_plan.specs.declared.plans.Plan.{Plan}
use Rattle.sof_script.specs.declared.script.Command.{Command}
use Rattle.host_widgets.specs.declared.answers.Answer.{Answer}

-- what is written to a slot
abbrev pub Written : Type 0
Written = ℕ × List ℕ

-- what a command answers, the lines that follow where it shows, and the bytes that it writes, by slot
pub record Out : Type 0 where
  pub answer : Answer
  pub shown : List (List ℕ)
  pub written : List Written

-- A session is begun, in one of its modes, its inputs are filled by reads, each a slot with the bytes that came, after which that slot would be read next
-- if any, or it carries out a command. Or a device outside a session is given a call.
pub data Task : Type 0 where
  Begin : (on_use : Bool) (plan : Plan) (heap : ℕ) (inputs : List InputView) (slots : List ℕ) → Task
  Fill : (reads : List (ℕ × List ℕ)) (next : Option ℕ) → Task
  Carry : (command : Command) → Task
  Give : (call : Call) → Task

-- a task with what it answered
pub record Turn : Type 0 where
  pub task : Task
  pub out : Out

-- what a turn may be, by its task and what it answered, from one life to the next
abbrev pub Turning : Type 0 → Type 1
Turning L = Task → Out → L → L → Type 0

-- turns, one after another, each of which is so
abbrev pub AreTurns : {L : Type 0} → Turning L → L → List Turn → L → Type 0
AreTurns by p [] q = q ≡ p
AreTurns {L} by p (turn ∷ turns) q = (m : L) × by turn.task turn.out p m × AreTurns by m turns q
