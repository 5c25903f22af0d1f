-- A stress over a device: the turns of its session, and its five numbers.
use Rattle.std.specs.Prelude.{ℕ, min, false, List, [], ◌∷◌, map}
use Rattle.sof_base.specs.Ports.{InputView}
use Rattle.tplg_graph.specs.PlanOf.{plan_of}
use Rattle.tplg_graph.specs.TopologyNeed.{need_of}
use Rattle.sof_script.specs.Tasks.{Out, Task, Begin}
use Rattle.sof_session.specs.Written.{Ground}
use Rattle.sof_session.specs.Lives.{Life, Bare, Seated}
use Rattle.sof_stress.specs.declared.counts.Counts.{Counts}
use Rattle.sof_stress.specs.Draws.{stream_count, stress_commands}
use Rattle.sof_stress.specs.StressGraph.{stress_topology}
use Rattle.sof_stress.specs.StressPorts.{dai_slot, stress_inputs}
use Rattle.sof_stress.specs.CommandTurns.{CommandTurn, turns_of, no_counts, all_counted}

-- ---- what it is over, by its seed

-- On a device of this room: the plan, a heap of what the topology needs, where the device has room for it, the inputs' bytes and the slot
-- of the output.
abbrev pub stress_ground : ℕ → ℕ → Ground
stress_ground room seed = record {
  plan = plan_of (stress_topology (stream_count seed));
  heap = min (need_of (stress_topology (stream_count seed))) room;
  whole = map (λ (input : InputView). (input.slot, input.left)) (stress_inputs (stream_count seed));
  slots = dai_slot (stream_count seed) ∷ [];
}

-- a session is begun over these
abbrev pub stress_begins : ℕ → ℕ → Task
stress_begins room seed = let g = stress_ground room seed in Begin false g.plan g.heap (stress_inputs (stream_count seed)) g.slots

-- and carries out the commands, turn by turn
abbrev pub stress_turns : ℕ → List CommandTurn
stress_turns seed = turns_of (stress_commands seed)

-- ---- the five numbers

-- how many messages a session sent
abbrev pub sent_in : {P : Type 0} → Life P → ℕ
sent_in (Bare dsp) = 0
sent_in (Seated seat inputs slots) = seat.link.sent

-- how many messages were sent, and what is counted of the turns by the result of each
abbrev pub stress_counts : ℕ → ℕ → List Out → Counts
stress_counts seed sent outs = record (all_counted (dai_slot (stream_count seed)) (stress_turns seed) outs no_counts) { messages = sent }
