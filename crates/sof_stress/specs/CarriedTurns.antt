-- How the turns of a rehearsal carry its commands.
use Rattle.std.specs.Prelude.{◌≡◌, ℕ, ◌+◌, ◌*◌, ◌≤◌, Bool, true, ◌&&◌, not, List, [], ◌∷◌, ◌++◌, length, map, ◌%◌, ◌^◌}
use Rattle.std.specs.List.{flat_map, range_with_len}
use Rattle.sof_base.specs.declared.format.Format.TheVariants.{S16}
use Rattle.sof_base.specs.declared.format.Params.{Params}
use Rattle.sof_base.specs.Ports.{InputView, OutputView}
use Rattle.sof_base.specs.DrainedOutputs.{drained}
use Rattle.sof_io.specs.Bound.{output_slots}
use Rattle.mbox_link.specs.Calls.{Meaning}
use Rattle.sof_script.specs.declared.script.Command.{Command}
use Rattle.sof_session.specs.SessionView.{SessionView}
use Rattle.sof_session.specs.Lives.{Life, Seated, Turns}
use Rattle.sof_script.specs.Tasks.{Turn, Task, Carry}
use Rattle.sof_stress.specs.declared.counts.Counts.{Counts}
use Rattle.sof_stress.specs.Draws.{stream_count, drawn, command_by, opening}
use Rattle.sof_stress.specs.CommandTurns.{CommandTurn, turns_of, one_where, is_done, all_counted}
use Rattle.sof_script.specs.Ticks.{command_ticks, rounds_with}
use Rattle.sof_session.specs.Commands.{is_tick}
use Rattle.host_widgets.specs.declared.answers.Answer.{Answer}
use Rattle.sof_session.specs.CommandRanges.{is_in_range}

-- the state of a linear congruential generator after another: those of C's `rand`
abbrev pub next_state : ℕ → ℕ
next_state state = (state * 1103515245 + 12345) % 2 ^ 31

-- 48000 frames a second, two channels, 16 bits a sample
abbrev pub stress_params : Params
stress_params = record { rate = 48000; channels = 2; format = S16 }

-- the commands that open each stream
abbrev pub openings : ℕ → List Command
openings streams = flat_map opening (range_with_len 0 streams)

-- those of as many numbers as the seed says
abbrev pub drawn_commands : ℕ → List Command
drawn_commands seed = map (λ k. command_by (stream_count seed) (drawn seed k)) (range_with_len 1 seed)

-- so many turns before the last of a command, and the last
abbrev pub turns_after : ℕ → Command → List CommandTurn
turns_after n command = rounds_with (λ last. record { command = command; last = last }) n

-- a turn of a command more, last or not, by its answer and the bytes that came out
abbrev pub counted_by : Command → Bool → Answer → ℕ → Counts → Counts
counted_by command last answer bytes counts = record {
  messages = counts.messages;
  ticks = counts.ticks + one_where (is_tick command);
  done = counts.done + one_where (last && is_done answer);
  refused = counts.refused + one_where (last && not (is_done answer));
  bytes = counts.bytes + bytes;
}

-- the tasks of a session
abbrev pub tasks_of : List CommandTurn → List Task
tasks_of todo = map (λ (turn : CommandTurn). Carry turn.command) todo

-- Turns of a session carried out these, in this order and no others, and were counted.
pub record CarriedOut {P : Type 0} (means : Meaning P) (slot : ℕ) (todo : List CommandTurn) (old : Life P) (before : Counts) (new : Life P) (after : Counts) : Type 0 where
  pub turns : List Turn
  pub turned : Turns means old turns new
  pub tasks : map (λ (turn : Turn). turn.task) turns ≡ tasks_of todo
  pub counts : after ≡ all_counted slot todo (map (λ (turn : Turn). turn.out) turns) before

-- the numbers of a command are in their ranges, and it makes few ticks
pub record IsDue (command : Command) : Type 0 where
  pub numbers : is_in_range command ≡ true
  pub ticks : command_ticks command ≤ 10

-- the counts of so many turns
pub record AreCountsOf (turns : ℕ) (counts : Counts) : Type 0 where
  pub messages : counts.messages ≡ 0
  pub ticks : counts.ticks ≤ turns
  pub done : counts.done ≤ turns
  pub refused : counts.refused ≤ turns
  pub bytes : counts.bytes ≤ 1048576 * turns

-- what is left on the right, carried out, makes the whole on the left carried out
abbrev pub CarriesOn : {P : Type 0} → Meaning P → ℕ → List CommandTurn → List CommandTurn → Life P → Counts → Life P → Counts → Type 0
CarriesOn {P} means slot whole left old before new after =
    (end : Life P) (last : Counts) → CarriedOut means slot left new after end last → CarriedOut means slot whole old before end last

-- these were carried out: whatever comes after them, carried out, makes the whole carried out
abbrev pub CarriedFirst : {P : Type 0} → Meaning P → ℕ → List CommandTurn → Life P → Counts → Life P → Counts → Type 0
CarriedFirst means slot todo old before new after = (rest : List CommandTurn) → CarriesOn means slot (todo ++ rest) rest old before new after

-- Nothing but so many commands was carried out, and the outputs are one, of this slot, and empty.
pub record IsUnderWay {P : Type 0} (slot commands : ℕ) (seat : SessionView P) (outputs : List OutputView) (counts : Counts) : Type 0 where
  pub sent : seat.link.sent ≤ 12000 * commands
  pub slots : output_slots outputs ≡ slot ∷ []
  pub empty : drained outputs ≡ outputs
  pub counted : AreCountsOf (10 * commands) counts

-- These commands were carried out, and the outputs are empty again.
pub record CommandsCarried {P : Type 0} (means : Meaning P) (slot : ℕ) (commands : List Command) (seat : SessionView P) (inputs : List InputView) (outputs : List OutputView) (counts : Counts)
    (seat' : SessionView P) (inputs' : List InputView) (outputs' : List OutputView) (counts' : Counts) : Type 0 where
  pub carried : CarriedFirst means slot (turns_of commands) (Seated seat inputs (output_slots outputs)) counts (Seated seat' inputs' (output_slots outputs')) counts'
  pub sent : seat'.link.sent ≤ seat.link.sent + 12000 * length commands
  pub slots : output_slots outputs' ≡ output_slots outputs
  pub empty : drained outputs' ≡ outputs'
  pub counted : (n : ℕ) → AreCountsOf n counts → AreCountsOf (n + 10 * length commands) counts'

-- and by its commands
abbrev pub commands_of : List CommandTurn → List Command
commands_of turns = map (λ (turn : CommandTurn). turn.command) turns
