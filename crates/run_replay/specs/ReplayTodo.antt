-- What `replay` has to do, by the bytes of the file that its words name.
use Rattle.std.specs.Prelude.{ℕ, Bool, false, List, [], ◌∷◌, Option, Some, None, codes}
use Rattle.mbox_link.specs.Calls as calls
use Rattle.ipc3_trace.specs.declared.entry.Entry.{Entry}
use Rattle.ipc3_trace.specs.declared.entry.Entry.TheVariants.{Boot, Cut, Request, Reply, Tick, Lost}
use Rattle.ipc3_trace.specs.declared.fault.TraceFault.{TraceFault}
use Rattle.ipc3_trace.specs.declared.fault.ReplayFault.{ReplayFault}
use Rattle.ipc3_trace.specs.Reading.{trace_in}
use Rattle.ipc3_trace.specs.FaultLines.{replay_fault_line}
use Rattle.sof_script.specs.Tasks.{Give}
use Rattle.run_replay.specs.declared.replay_fault.Stopped.{Stopped}
use Rattle.run_replay.specs.declared.replay_fault.Stopped.TheVariants.{At, Device}
use Rattle.run_desk.specs.Todo.{Todo, End, Stop, Ask, Step, Send, Free}
use Rattle.run_desk.specs.LinesTodo.{lines_todo}
use Rattle.run_replay.specs.Replaying.{next_place, record_fault, end_fault, on_after, tally_of, replay_lines, device_line}

-- why no more records are given is reported
abbrev pub stopped_todo : Stopped → Todo
stopped_todo (At fault) = Stop (replay_fault_line fault) 2
stopped_todo Device = Stop device_line 10

-- the first fault is reported, where there is one
abbrev pub without_fault : Option ReplayFault → Todo → Todo
without_fault None rest = rest
without_fault (Some fault) rest = stopped_todo (At fault)

-- what comes next by what the device answered
abbrev pub replied_todo : (Option (List ℕ) → Todo) → Option (List ℕ) → Todo
replied_todo next None = stopped_todo Device
replied_todo next (Some reply) = next (Some reply)

-- a record is given by its call, with what comes next by the reply that is awaited then
abbrev pub give_todo : Entry → (Option (List ℕ) → Todo) → Todo
give_todo (Boot heap) next = Step (Give (calls.Boot heap)) (λ out. next None)
give_todo Cut next = Step (Give calls.Cut) (λ out. next None)
give_todo (Request message) next = Send message (replied_todo next)
give_todo Tick next = Step (Give calls.Tick) (λ out. next None)
give_todo (Reply reply) next = next None
give_todo Lost next = next None

-- records from a place on, and what comes after them by whether the device is on then
abbrev pub given_todo : ℕ → List Entry → Option TraceFault → Bool → Option (List ℕ) → ℕ → (Bool → Todo) → Todo
given_todo room [] end on awaited at last = without_fault (end_fault awaited at end) (last on)
given_todo room (e ∷ es) end on awaited at last =
    without_fault (record_fault room on awaited at e) (give_todo e (λ reply. given_todo room es end (on_after on e) reply (next_place at e) last))

-- all records of a trace, to a device that is off, and then the lines
abbrev pub replayed_todo : ℕ → List Entry → Option TraceFault → Todo
replayed_todo room es end = given_todo room es end false None 0 (λ on. lines_todo (replay_lines (tally_of es) on) End)

-- the file is loaded and given
abbrev pub replay : ℕ → List ℕ → Todo
replay room name = Ask name 16777216 (codes "too long trace\n") (λ bytes. Free (replayed_todo room (trace_in bytes).0 (trace_in bytes).1))
