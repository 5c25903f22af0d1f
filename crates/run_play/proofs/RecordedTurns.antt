-- Turns with records in front do what they do without.
use Rattle.std.proofs.Common.{Bool, ◌≡◌, refl, sym, ap, ◌∙◌, subst, ℕ, List, [], ◌∷◌, ◌++◌, map, length, Option, None, arith}
use Rattle.sof_base.specs.Ports.{InputView}
use Rattle.mbox_link.specs.Calls.{Meaning}
use Rattle.tplg_plan.specs.declared.plans.Plan.{Plan}
use Rattle.ipc3_trace.specs.declared.entry.Entry.{Entry}
use Rattle.ipc3_trace.specs.Records.{records_bytes}
use Rattle.sof_script.specs.declared.script.Command.{Command}
use Rattle.sof_script.specs.Tasks.{Out, Task, Begin, Fill, Carry, Turn, AreTurns}
use Rattle.sof_session.specs.Lives.{Life, Turned, Turns, reads_by, reads_in, with_out, carried_outs}
use Rattle.sof_session.proofs.FilledRuns.{AreFilled}
use Rattle.run_play.specs.Keeping.{fronted, fronted_at, records_behind, recorded_turns, recorded_outs}

-- ---- over a device

-- a turn but for what stands before what it wrote
abbrev pub Fronted : {P : Type 0} → Meaning P → Task → Out → Life P → Life P → Type 0
Fronted means task out old new = (bare : Out) × Turned means task bare old new

plain_turns : {P : Type 0} (means : Meaning P) (turns : List Turn) (p q : Life P) → Turns means p turns q → AreTurns (Fronted means) p turns q
plain_turns means [] p q turned = turned
plain_turns means (turn ∷ turns) p q turned = (turned.0, (turn.out, turned.1), plain_turns means turns turned.0 q turned.2)

pub fronted_turns : {P : Type 0} (means : Meaning P) (records : List (List Entry)) (turns : List Turn) (p q : Life P) → Turns means p turns q → AreTurns (Fronted means) p (recorded_turns records turns) q
fronted_turns means [] turns p q turned = plain_turns means turns p q turned
fronted_turns means (es ∷ records) [] p q turned = turned
fronted_turns means (es ∷ records) (turn ∷ turns) p q turned =
    (turned.0, (turn.out, turned.1), fronted_turns means (records_behind turn.task (es ∷ records)) turns turned.0 q turned.2)

pub none_recorded : (records : List (List Entry)) (turns : List Turn) → recorded_turns records turns ≡ [] → turns ≡ []
none_recorded [] turns is = is
none_recorded (es ∷ records) [] is = refl
none_recorded (es ∷ records) (turn ∷ turns) is = absurd (cc is)

-- ---- what was read and answered

pub reads_recorded : (records : List (List Entry)) (turns : List Turn) → reads_in (recorded_turns records turns) ≡ reads_in turns
reads_recorded [] turns = refl
reads_recorded (es ∷ records) [] = refl
reads_recorded (es ∷ records) (turn ∷ turns) = ap (λ reads. reads_by turn.task ++ reads) (reads_recorded (records_behind turn.task (es ∷ records)) turns)

pub outs_recorded : (records : List (List Entry)) (turns : List Turn) → carried_outs (recorded_turns records turns) ≡ recorded_outs records (carried_outs turns)
outs_recorded [] turns = refl
outs_recorded (es ∷ records) [] = refl
outs_recorded (es ∷ records) (turn ∷ turns) = by turn.task (outs_recorded records turns) (outs_recorded (es ∷ records) turns)
  where
    by : (task : Task) → carried_outs (recorded_turns records turns) ≡ recorded_outs records (carried_outs turns) → carried_outs (recorded_turns (es ∷ records) turns) ≡ recorded_outs (es ∷ records) (carried_outs turns) →
        with_out task (fronted_at task (records_bytes es) turn.out) (carried_outs (recorded_turns (records_behind task (es ∷ records)) turns)) ≡ recorded_outs (es ∷ records) (with_out task turn.out (carried_outs turns))
    by (Carry command) used unused = ap (λ (outs : List Out). fronted (records_bytes es) turn.out ∷ outs) used
    by task used unused = unused

pub as_many_outs : (records : List (List Entry)) (outs : List Out) → length (recorded_outs records outs) ≡ length outs
as_many_outs [] outs = refl
as_many_outs (es ∷ records) [] = refl
as_many_outs (es ∷ records) (out ∷ outs) = omega (arith, as_many_outs records outs)

-- ---- their tasks

abbrev tasks : List Turn → List Task
tasks turns = map (λ (turn : Turn). turn.task) turns

tasks_recorded : (records : List (List Entry)) (turns : List Turn) → tasks (recorded_turns records turns) ≡ tasks turns
tasks_recorded [] turns = refl
tasks_recorded (es ∷ records) [] = refl
tasks_recorded (es ∷ records) (turn ∷ turns) = ap (λ (ts : List Task). turn.task ∷ ts) (tasks_recorded (records_behind turn.task (es ∷ records)) turns)

-- the tasks are those of commands, each after the reads before it
abbrev AreTasks : List Command → List Task → Type 0
AreTasks [] [] = Unit {0}
AreTasks [] (task ∷ []) = (next : Option ℕ) × ((reads : List (ℕ × List ℕ)) × (task ≡ Fill reads next))
AreTasks [] (task ∷ other ∷ ts) = ⊥
AreTasks (command ∷ commands) [] = ⊥
AreTasks (command ∷ commands) (task ∷ []) = ⊥
AreTasks (command ∷ commands) (filling ∷ task ∷ ts) = ((reads : List (ℕ × List ℕ)) × (filling ≡ Fill reads None)) × (task ≡ Carry command) × AreTasks commands ts

to_tasks : (commands : List Command) (turns : List Turn) → AreFilled commands turns → AreTasks commands (tasks turns)
to_tasks [] [] are = tt
to_tasks [] (turn ∷ []) are = are
to_tasks [] (turn ∷ other ∷ turns) are = absurd are
to_tasks (command ∷ commands) [] are = absurd are
to_tasks (command ∷ commands) (turn ∷ []) are = absurd are
to_tasks (command ∷ commands) (filling ∷ turn ∷ turns) are = (are.0, are.1, to_tasks commands turns are.2)

from_tasks : (commands : List Command) (turns : List Turn) → AreTasks commands (tasks turns) → AreFilled commands turns
from_tasks [] [] are = tt
from_tasks [] (turn ∷ []) are = are
from_tasks [] (turn ∷ other ∷ turns) are = absurd are
from_tasks (command ∷ commands) [] are = absurd are
from_tasks (command ∷ commands) (turn ∷ []) are = absurd are
from_tasks (command ∷ commands) (filling ∷ turn ∷ turns) are = (are.0, are.1, from_tasks commands turns are.2)

pub filled_bare : (commands : List Command) (records : List (List Entry)) (turns : List Turn) → AreFilled commands (recorded_turns records turns) → AreFilled commands turns
filled_bare commands records turns are =
    from_tasks commands turns (subst (AreTasks commands) (tasks_recorded records turns) (to_tasks commands (recorded_turns records turns) are))

-- ---- a session that was begun first

-- the turns without records begin so too
pub record BareBegun (records : List (List Entry)) (bare others : List Turn) (task : Task) : Type 0 where
  pub begins : Turn
  pub rest : List Turn
  pub is : bare ≡ begins ∷ rest
  pub task_is : begins.task ≡ task
  pub others_are : others ≡ recorded_turns records rest

pub bare_begun : (on_use : Bool) (plan : Plan) (heap : ℕ) (inputs : List InputView) (slots : List ℕ) (records : List (List Entry)) (bare : List Turn) (begins : Turn) (others : List Turn) →
    begins ∷ others ≡ recorded_turns records bare → begins.task ≡ Begin on_use plan heap inputs slots → BareBegun records bare others (Begin on_use plan heap inputs slots)
bare_begun on_use plan heap inputs slots [] bare begins others are task = record { begins = begins; rest = others; is = sym are; task_is = task; others_are = refl }
bare_begun on_use plan heap inputs slots (es ∷ records) [] begins others are task = absurd (cc are)
bare_begun on_use plan heap inputs slots (es ∷ records) (turn ∷ turns) begins others are task =
    let first : begins ≡ record { task = turn.task; out = fronted_at turn.task (records_bytes es) turn.out } = cc are in
    let behind : others ≡ recorded_turns (records_behind turn.task (es ∷ records)) turns = cc are in
    let is : turn.task ≡ Begin on_use plan heap inputs slots = sym (ap (λ (t : Turn). t.task) first) ∙ task in
    record {
      begins = turn;
      rest = turns;
      is = refl;
      task_is = is;
      others_are = subst (λ (t : Task). others ≡ recorded_turns (records_behind t (es ∷ records)) turns) is behind;
    }
