-- What `stress` has to do, by the number of its words.
use Rattle.std.specs.Prelude.{ℕ, List, [], ◌∷◌}
use Rattle.sof_script.specs.Tasks.{Carry}
use Rattle.sof_stress.specs.declared.counts.Counts.{Counts}
use Rattle.sof_stress.specs.Draws.{stream_count}
use Rattle.sof_stress.specs.StressPorts.{dai_slot}
use Rattle.sof_stress.specs.CommandTurns.{CommandTurn, turn_counted, no_counts}
use Rattle.sof_stress.specs.StressRun.{stress_begins, stress_turns}
use Rattle.run_desk.specs.Todo.{Todo, End, Step, Free}
use Rattle.run_desk.specs.LinesTodo.{lines_todo}
use Rattle.sof_run.specs.Stressing.{stress_lines}

-- each turn is made and counted, and what comes next has the counts
abbrev pub counted_todo : ℕ → List CommandTurn → Counts → (Counts → Todo) → Todo
counted_todo slot [] counts next = next counts
counted_todo slot (turn ∷ turns) counts next = Step (Carry turn.command) (λ out. counted_todo slot turns (turn_counted slot turn out counts) next)

-- the five numbers are said, once so many messages were sent
abbrev pub told_todo : ℕ → Counts → Todo
told_todo sent counts = lines_todo (stress_lines (record counts { messages = sent })) End

-- All that is made in memory comes first, and then the session over a device of this room, and the numbers.
abbrev pub stress : ℕ → ℕ → ℕ → Todo
stress room sent seed =
    Free (Step (stress_begins room seed) (λ out. counted_todo (dai_slot (stream_count seed)) (stress_turns seed) no_counts (told_todo sent)))
