-- The calls on the desk and the turns on the device, as one list, by what loads answered, by what the loaded bytes come to and by the
-- turns that were made.
use Rattle.std.specs.Prelude.{◌≡◌, ◌⊎◌, ℕ, Bool, true, false, List, [], ◌∷◌, ◌++◌, map, Option, Some, None, Result, Ok, Err, codes, if◌then◌else◌}
use Rattle.sof_desk.specs.declared.calls.LoadFault.TheVariants.{Failed, TooLong, OutOfMemory}
use Rattle.sof_desk.specs.Desk.{Create, Put, Slot, Spoken, Heard, DeskCall, Load, Did}
use Rattle.tplg_model.specs.declared.block.Topology.{Topology}
use Rattle.tplg_model.specs.File.{spelling}
use Rattle.tplg_plan.specs.declared.plans.Plan.{Plan}
use Rattle.tplg_compile.specs.declared.source_fault.SourceFault.{SourceFault}
use Rattle.ipc3_trace.specs.declared.entry.Entry.{Entry}
use Rattle.ipc3_trace.specs.declared.entry.Entry.TheVariants as entries
use Rattle.ipc3_trace.specs.declared.fault.TraceFault.{TraceFault}
use Rattle.ipc3_trace.specs.declared.fault.ReplayFault.{ReplayFault}
use Rattle.ipc3_trace.specs.FaultLines.{replay_fault_line}
use Rattle.tplg_graph.specs.PlanOf.{plan_of}
use Rattle.sof_script.specs.Commands.{Bound, Read as ReadScript}
use Rattle.sof_script.specs.Tasks.{Out, Task, Begin, Carry, Fill, Give, Turn}
use Rattle.mbox_link.specs.Calls as device
use Rattle.run_desk.specs.declared.preparing.Halt.{Halt}
use Rattle.run_words.specs.Words.{Form}
use Rattle.run_play.specs.Keeping.{trace_acts}
use Rattle.run_desk.specs.Bindings.{binding_act, bound_inputs, bound_slots}
use Rattle.run_play.specs.Rounds.{Round, rounds_of}
use Rattle.run_desk.specs.Lines.{no_memory_line, halt_line, halt_status, with_newline}
use Rattle.run_play.specs.Pieces.{Piece, pieces_of}
use Rattle.run_tools.specs.Checking.{count_lines}
use Rattle.run_tools.specs.Picturing.{picture_lines}
use Rattle.sof_stress.specs.declared.counts.Counts.{Counts}
use Rattle.sof_stress.specs.Draws.{stream_count}
use Rattle.sof_stress.specs.StressPorts.{dai_slot}
use Rattle.sof_stress.specs.CommandTurns.{CommandTurn, turn_counted, no_counts}
use Rattle.sof_stress.specs.StressRun.{stress_begins, stress_turns}
use Rattle.run_tools.specs.Compiling.{source_line, source_status, wrote_line}
use Rattle.run_tools.specs.Sourcing.{no_source_line}
use Rattle.sof_run.specs.Stressing.{stress_lines}
use Rattle.run_tools.specs.TraceLines.{trace_lines, trace_status}
use Rattle.run_replay.specs.Replaying.{next_place, record_fault, end_fault, on_after, tally_of, replay_lines, device_line}
use Rattle.run_words.specs.Requests.{Request, Play, Check, Picture, Compile, Source, Stress, Decode, Replay}
use Rattle.run_desk.specs.DeskCalls.{reading, answer_in}

-- ---- what the loaded bytes come to

-- Each as a value: the run that a topology and a script make, or why they make none; the topology that keeps all rules, or why the
-- bytes are no such; the topology of a source, or the source's fault; the records of a trace, and its first fault, if any.
pub record Findings : Type 0 where
  pub run : Result (Topology × ReadScript) Halt
  pub topology : Result Topology Halt
  pub source : Result Topology SourceFault
  pub trace : List Entry × Option TraceFault

-- ---- the list

-- a call on the desk, a turn on the device, or a place where memory may be missing
pub data Item : Type 0 where
  Calls : (call : DeskCall) → Item
  Turns : (task : Task) → Item
  Memory : Item

-- all of it, and the status after the last
pub record Course : Type 0 where
  pub items : List Item
  pub status : ℕ

abbrev pub before_course : List Item → Course → Course
before_course items course = record { items = items ++ course.items; status = course.status }

abbrev pub said_item : List ℕ → Item
said_item line = Calls (Did (Put Spoken line) true)

-- a line is said, and no more
abbrev pub last_line : List ℕ → ℕ → Course
last_line line status = record { items = said_item line ∷ []; status = status }

-- a load, by what it answered first of all that loads answered: the bytes, after which it goes on, or why there are none
abbrev pub load_course : List ℕ → ℕ → List ℕ → List Heard → (List Heard → Course) → Course
load_course name limit line (Ok bytes ∷ heard) next = before_course (Calls (Load name limit (Ok bytes)) ∷ []) (next heard)
load_course name limit line (Err TooLong ∷ heard) next = before_course (Calls (Load name limit (Err TooLong)) ∷ []) (last_line line 5)
load_course name limit line (Err OutOfMemory ∷ heard) next = before_course (Calls (Load name limit (Err OutOfMemory)) ∷ []) (last_line no_memory_line 7)
load_course name limit line _ next = record { items = Calls (Load name limit (Err Failed)) ∷ []; status = 3 }

-- a turn, and what comes next by its result and by the turns after it
abbrev pub turning : Task → List Turn → (Out → List Turn → Course) → Course
turning task [] next = record { items = Turns task ∷ []; status = 0 }
turning task (turn ∷ turns) next = before_course (Turns task ∷ []) (next turn.out turns)

-- a message is given, and what comes next by its reply and by the turns after it
abbrev pub sending : List ℕ → List Turn → (Option (List ℕ) → List Turn → Course) → Course
sending message [] next = record { items = Turns (Give (device.Exchange message None)) ∷ []; status = 0 }
sending message (turn ∷ turns) next =
    before_course (Turns (Give (device.Exchange message (answer_in turn.task))) ∷ []) (next (answer_in turn.task) turns)

-- a turn that fills the inputs by its reads, and what comes next where none failed
abbrev pub filling_by : Task → Course → Course
filling_by (Fill reads None) next = before_course (Turns (Fill reads None) ∷ map Calls (reading reads None)) next
filling_by (Fill reads (Some slot)) next = record { items = Turns (Fill reads (Some slot)) ∷ map Calls (reading reads (Some slot)); status = 3 }
filling_by task next = record { items = Turns (Fill [] None) ∷ []; status = 0 }

abbrev pub filling : List Turn → (List Turn → Course) → Course
filling [] next = record { items = Turns (Fill [] None) ∷ []; status = 0 }
filling (turn ∷ turns) next = filling_by turn.task (next turns)

-- ---- `play`, `dynamic` and `trace`

abbrev pub putting : Piece → Item
putting piece = Calls (Did (Put piece.0 piece.1) true)

-- of each unit the inputs are filled, then comes its turn, and then its pieces are written
abbrev pub units : List Round → List Turn → Course
units [] turns = record { items = []; status = 0 }
units (round ∷ rounds) turns =
    filling turns (λ turns. turning (Carry round.numbered.command) turns (λ out turns. before_course (map putting (pieces_of round out)) (units rounds turns)))

-- the bindings in their order
abbrev pub bindings : Plan → List Bound → Course → Course
bindings plan bs next = before_course (map (λ b. Calls (Did (binding_act plan b) true)) bs) next

-- then that of the trace that is kept, if one is, and then a session over what they bind
abbrev pub files : Bool → ℕ → Option (List ℕ) → Result (Topology × ReadScript) Halt → List Turn → Course
files on_use heap trace (Ok (t, read)) turns =
    let plan = plan_of t in
    bindings plan read.bindings
    (before_course (map (λ act. Calls (Did act true)) (trace_acts trace))
    (turning (Begin on_use plan heap (bound_inputs plan [] read.bindings) (bound_slots plan read.bindings)) turns (λ out turns. units (rounds_of read.commands) turns)))
files on_use heap trace (Err why) turns = last_line (halt_line why) (halt_status why)

abbrev pub playing : Form → Result (Topology × ReadScript) Halt → List Heard → List Turn → Course
playing form run heard turns =
    load_course form.topology 1048576 (codes "too long topology\n") heard (λ heard.
    load_course form.script 1048576 (codes "too long script\n") heard (λ heard.
    before_course (Memory ∷ []) (files form.on_use form.heap form.trace run turns)))

-- ---- `check`, `graph`, `compile` and `source`

-- these lines of a right topology are said
abbrev pub counting : (Topology → List (List ℕ)) → Result Topology Halt → Course
counting lines (Ok t) = record { items = map said_item (lines t); status = 0 }
counting lines (Err why) = last_line (halt_line why) (halt_status why)

-- a topology is loaded before
abbrev pub checking : List ℕ → List Heard → Course → Course
checking name heard rest = load_course name 1048576 (codes "too long topology\n") heard (λ heard. before_course (Memory ∷ []) rest)

-- a file of these bytes is made
abbrev pub making_file : List ℕ → List ℕ → Course
making_file out bytes = record { items = Calls (Did (Create 0 out) true) ∷ Calls (Did (Put (Slot 0) bytes) true) ∷ said_item (with_newline (wrote_line bytes)) ∷ []; status = 0 }

abbrev pub making_source : List ℕ → Result Topology SourceFault → Course
making_source out (Ok t) = making_file out (spelling t)
making_source out (Err fault) = last_line (source_line fault) (source_status fault)

-- the file of a source, where there is one
abbrev pub keeping : List ℕ → Option (List ℕ) → Course
keeping out (Some text) = making_file out text
keeping out None = last_line no_source_line 2

abbrev pub sourcing : (Topology → Option (List ℕ)) → List ℕ → Result Topology Halt → Course
sourcing source out (Ok t) = keeping out (source t)
sourcing source out (Err why) = last_line (halt_line why) (halt_status why)

-- ---- `decode`

abbrev pub recounting : List Entry × Option TraceFault → Course
recounting trace = record { items = map said_item (trace_lines trace.0 trace.1); status = trace_status trace.1 }

-- ---- `replay`

-- the first record at fault is reported, where there is one
abbrev pub faulting : Option ReplayFault → Course → Course
faulting None rest = rest
faulting (Some fault) rest = last_line (replay_fault_line fault) 2

-- a device that failed is reported
abbrev pub replying : Option (List ℕ) → Course → Course
replying None rest = last_line device_line 10
replying (Some reply) rest = rest

-- a record is given by its call, and what comes next by the reply that is awaited then and by the turns after it
abbrev pub giving : Entry → List Turn → (Option (List ℕ) → List Turn → Course) → Course
giving (entries.Boot heap) turns next = turning (Give (device.Boot heap)) turns (λ out turns. next None turns)
giving entries.Cut turns next = turning (Give device.Cut) turns (λ out turns. next None turns)
giving (entries.Request message) turns next = sending message turns (λ reply turns. replying reply (next reply turns))
giving entries.Tick turns next = turning (Give device.Tick) turns (λ out turns. next None turns)
giving (entries.Reply reply) turns next = next None turns
giving entries.Lost turns next = next None turns

-- records from a place on, over a device of this room that is on or off, where a reply is awaited or none
abbrev pub giving_all : ℕ → List Entry → Option TraceFault → Bool → Option (List ℕ) → ℕ → (Bool → Course) → List Turn → Course
giving_all room [] end on awaited at last turns = faulting (end_fault awaited at end) (last on)
giving_all room (e ∷ es) end on awaited at last turns =
    faulting (record_fault room on awaited at e) (giving e turns (λ reply turns. giving_all room es end (on_after on e) reply (next_place at e) last turns))

-- all records of a trace, and then the lines
abbrev pub replaying : ℕ → List Entry × Option TraceFault → List Turn → Course
replaying room trace turns =
    giving_all room trace.0 trace.1 false None 0 (λ on. record { items = map (λ line. said_item (with_newline line)) (replay_lines (tally_of trace.0) on); status = 0 }) turns

-- ---- `stress`

-- each turn is made and counted
abbrev pub counting_turns : ℕ → List CommandTurn → Counts → List Turn → (Counts → Course) → Course
counting_turns slot [] counts turns next = next counts
counting_turns slot (turn ∷ commands) counts turns next = turning (Carry turn.command) turns (λ out turns. counting_turns slot commands (turn_counted slot turn out counts) turns next)

-- the five numbers are said, once so many messages were sent
abbrev pub telling_counts : ℕ → Counts → Course
telling_counts sent counts = record { items = map (λ line. said_item (with_newline line)) (stress_lines (record counts { messages = sent })); status = 0 }

abbrev pub stressing : ℕ → ℕ → ℕ → List Turn → Course
stressing room sent seed turns =
    before_course (Memory ∷ []) (turning (stress_begins room seed) turns (λ out turns. counting_turns (dai_slot (stream_count seed)) (stress_turns seed) no_counts turns (telling_counts sent)))

-- ---- all words

-- the course where this is asked for, or nothing is, over a device of this room, by the text that is the source of a topology; a stress
-- has sent so many messages at its end
abbrev pub course : (Topology → Option (List ℕ)) → ℕ → ℕ → Option Request → Findings → List Heard → List Turn → Course
course source room sent (Some (Play form)) found heard turns = playing form found.run heard turns
course source room sent (Some (Check name)) found heard turns = checking name heard (counting count_lines found.topology)
course source room sent (Some (Picture name)) found heard turns = checking name heard (counting picture_lines found.topology)
course source room sent (Some (Compile names)) found heard turns =
    load_course names.source 1048576 (codes "too long source\n") heard (λ heard. before_course (Memory ∷ []) (making_source names.out found.source))
course source room sent (Some (Source given)) found heard turns = checking given.topology heard (sourcing source given.out found.topology)
course source room sent (Some (Stress seed)) found heard turns = stressing room sent seed turns
course source room sent (Some (Decode name)) found heard turns = load_course name 16777216 (codes "too long trace\n") heard (λ heard. recounting found.trace)
course source room sent (Some (Replay name)) found heard turns =
    load_course name 16777216 (codes "too long trace\n") heard (λ heard. before_course (Memory ∷ []) (replaying room found.trace turns))
course source room sent None found heard turns = last_line (codes "words\n") 1

-- ---- what was made of it

-- there is no memory: the line is said, and no more is done
abbrev pub Wants : List Turn → List DeskCall → ℕ → Type 0
Wants turns (Did act done ∷ calls) status = (act ≡ Put Spoken no_memory_line) × (turns ≡ []) × (calls ≡ []) × (status ≡ (if done then 7 else 3))
Wants turns _ status = ⊥

-- These turns and calls were made, in this order and no others: all of it; or its front up to a call that failed, after which the
-- status is 3; or its front up to a place where there was no memory.
abbrev pub Made : List Item → ℕ → List Turn → List DeskCall → ℕ → Type 0
Made [] end turns calls status = (turns ≡ []) × (calls ≡ []) × (status ≡ end)
Made (Memory ∷ items) end turns calls status = Made items end turns calls status ⊎ Wants turns calls status
Made (Turns task ∷ items) end [] calls status = ⊥
Made (Turns task ∷ items) end (turn ∷ turns) calls status = (turn.task ≡ task) × Made items end turns calls status
Made (Calls call ∷ items) end turns [] status = ⊥
Made (Calls (Did act done) ∷ items) end turns (made ∷ calls) status =
    ((made ≡ Did act true) × Made items end turns calls status)
    ⊎ ((made ≡ Did act false) × (turns ≡ []) × (calls ≡ []) × (status ≡ 3))
Made (Calls call ∷ items) end turns (made ∷ calls) status = (made ≡ call) × Made items end turns calls status
