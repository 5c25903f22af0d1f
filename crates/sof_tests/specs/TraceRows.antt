-- The records of a load of the thin graph, and of messages that meet planned fates; and what is said where they are given to a firmware.
use Rattle.std.specs.Prelude.{ℕ, List, [], ◌∷◌, map, Option, negsuc}
use Rattle.sof_script.specs.declared.script.Command.TheVariants.{Load, Unload, Tick, Refuse, Lose, Lag}
use Rattle.tplg_graph.specs.PlanOf.{plan_of}
use Rattle.ipc3_trace.specs.declared.entry.Entry.{Entry}
use Rattle.ipc3_trace.specs.declared.fault.ReplayFault.{ReplayFault}
use Rattle.ipc3_trace.specs.EntryLines.{entry_line}
use Rattle.ipc3_trace.specs.Reading.{trace_in}
use Rattle.ipc3_trace.specs.Records.{records_bytes}
use Rattle.run_play.specs.Met.{met}
use Rattle.run_replay.specs.Replays.{replay_fault, replayed_lines}
use Rattle.sof_tests.specs.Rows.{thin_topology}

-- with a heap of 992 bytes
abbrev pub load_records : List Entry
load_records = met (plan_of thin_topology) 992 (Load ∷ [])

abbrev pub load_bytes : List ℕ
load_bytes = records_bytes load_records

abbrev pub load_lines : List (List ℕ)
load_lines = map entry_line load_records

-- what is at fault where these bytes are given to a firmware of 16 MiB
abbrev pub replay_told : List ℕ → Option ReplayFault
replay_told bytes = let read = trace_in bytes in replay_fault 16777216 read.0 read.1

-- what is said where nothing is
abbrev pub replay_said : List (List ℕ)
replay_said = replayed_lines load_records

-- three ticks before the second message and a lost fifth, a refused third, a load, a tick, and a tick with the power unloaded
abbrev pub fated_bytes : List ℕ
fated_bytes = records_bytes (met (plan_of thin_topology) 992 (Lag 2 3 ∷ Lose 5 ∷ Load ∷ Refuse 3 (negsuc 15) ∷ Load ∷ Load ∷ Tick 1 ∷ Unload ∷ Tick 1 ∷ []))

-- a load for which the heap is too small
abbrev pub refused_bytes : List ℕ
refused_bytes = records_bytes (met (plan_of thin_topology) 976 (Load ∷ []))
