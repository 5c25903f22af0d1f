-- A play of which a trace is kept: the slot of its file, and the records in front of what each unit writes.
use Rattle.std.specs.Prelude.{◌≡◌, ℕ, List, [], ◌∷◌, Option, Some, None}
use Rattle.std.specs.List.{AllByRecursion}
use Rattle.stream_law.specs.State.{FwState}
use Rattle.sof_desk.specs.Desk.{DeskAct, Create}
use Rattle.mbox_link.specs.Calls.{World, Meaning, Call, Led, world}
use Rattle.mbox_link.specs.Link.{inner}
use Rattle.mbox_link.specs.Wire.{Wire}
use Rattle.ipc3_trace.specs.declared.entry.Entry.{Entry}
use Rattle.ipc3_trace.specs.Records.{IsEntry, records_bytes}
use Rattle.ipc3_trace.specs.AlongCalls.{entries_along}
use Rattle.sof_script.specs.Tasks.{Out, Task, Carry, Turn}
use Rattle.sof_session.specs.Written.{empty_outputs, with_bytes}
use Rattle.ipc3_trace.specs.Steps.{AreAlike, recorded, steps_from}
use Rattle.sof_script.specs.declared.script.Command.{Command}
use Rattle.sof_session.specs.SessionView.{SessionView}
use Rattle.sof_session.specs.SessionStep.{Calm, known_of}
use Rattle.sof_session.specs.Lives.{Life, Seated, Turned, Turns}
use Rattle.run_play.specs.Met.{command_deeds}
use Rattle.run_play.specs.StepCalls.{step_calls}

-- ---- the file

-- the slot of a trace's file, which no output has
abbrev pub trace_slot : ℕ
trace_slot = 4294967295

-- the file of a trace that is kept is created
abbrev pub trace_acts : Option (List ℕ) → List DeskAct
trace_acts None = []
trace_acts (Some name) = Create trace_slot name ∷ []

abbrev pub trace_slots : Option (List ℕ) → List ℕ
trace_slots None = []
trace_slots (Some name) = trace_slot ∷ []

-- ---- what is written in front

-- bytes stand before what a unit writes
abbrev pub fronted : List ℕ → Out → Out
fronted bytes out = record { answer = out.answer; shown = out.shown; written = with_bytes trace_slot bytes out.written }

-- of a turn that carried out a command
abbrev pub fronted_at : Task → List ℕ → Out → Out
fronted_at (Carry command) bytes out = fronted bytes out
fronted_at task bytes out = out

-- one list of records for each turn that carries out a command is used up by it
abbrev pub records_behind : Task → List (List Entry) → List (List Entry)
records_behind (Carry command) (es ∷ records) = records
records_behind task records = records

-- these records, one list for each turn that carried out a command, stand before what it wrote
abbrev pub recorded_turns : List (List Entry) → List Turn → List Turn
recorded_turns [] turns = turns
recorded_turns (es ∷ records) [] = []
recorded_turns (es ∷ records) (turn ∷ turns) =
    record { task = turn.task; out = fronted_at turn.task (records_bytes es) turn.out } ∷ recorded_turns (records_behind turn.task (es ∷ records)) turns

-- and before what each unit of a run writes
abbrev pub recorded_outs : List (List Entry) → List Out → List Out
recorded_outs [] outs = outs
recorded_outs (es ∷ records) [] = []
recorded_outs (es ∷ records) (out ∷ outs) = fronted (records_bytes es) out ∷ recorded_outs records outs

-- ---- over a device

-- A command left these records: they are those of these calls, which led the device after the link from one world to the other, and a
-- reader takes each of them. Where no count of the device rose, they are those of the command's deeds, and lead to where it is.
pub record LeftRecords {P : Type 0} (means : Meaning P) (command : Command) (old new : SessionView P) (w v : World (Wire P)) (calls : List Call) (es : List Entry) : Type 0 where
  pub led : Led means (inner w) calls (inner v)
  pub are : es ≡ entries_along means (inner w) calls (inner v) led
  pub each : AllByRecursion IsEntry es
  pub met : Calm means old.link.device new.link.device → (s : Option FwState) → AreAlike (means.on old.link.device) s
      → (es ≡ recorded s (command_deeds old.plan old.heap (known_of old.link old.kept) command)) × AreAlike (means.on new.link.device) (steps_from s es)

-- a turn left them: the calls are those that its session's step names
abbrev pub LeftBy : {P : Type 0} (means : Meaning P) (command : Command) (out : Out) (old new : Life P) → Turned means (Carry command) out old new → List Entry → Type 0
LeftBy means command out (Seated seat inputs slots) (Seated seat' inputs' slots') turned es =
    let w = world seat.link inputs (empty_outputs slots) in
    let v = world seat'.link inputs' turned.1.outputs in
    LeftRecords means command seat seat' w v (step_calls means command seat seat' w v out.answer turned.1.stepped) es
LeftBy means command out old new turned es = ⊥

-- each turn that carried out a command left these records, one list for each
abbrev pub TurnLeft : {P : Type 0} (means : Meaning P) (task : Task) (out : Out) (old new : Life P) → Turned means task out old new → List (List Entry) → (List (List Entry) → Type 0) → Type 0
TurnLeft means (Carry command) out old new turned [] rest = ⊥
TurnLeft means (Carry command) out old new turned (es ∷ records) rest = LeftBy means command out old new turned es × rest records
TurnLeft means task out old new turned records rest = rest records

abbrev pub TurnsLeft : {P : Type 0} (means : Meaning P) (p : Life P) (turns : List Turn) (q : Life P) → Turns means p turns q → List (List Entry) → Type 0
TurnsLeft means p [] q turned records = records ≡ []
TurnsLeft means p (turn ∷ turns) q turned records =
    TurnLeft means turn.task turn.out p turned.0 turned.1 records (λ rest. TurnsLeft means turned.0 turns q turned.2 rest)

-- the records of a play: none where no trace is kept
abbrev pub KeptRecords : {P : Type 0} (means : Meaning P) → Option (List ℕ) → (p : Life P) (turns : List Turn) (q : Life P) → Turns means p turns q → List (List Entry) → Type 0
KeptRecords means None p turns q turned records = records ≡ []
KeptRecords means (Some name) p turns q turned records = TurnsLeft means p turns q turned records
