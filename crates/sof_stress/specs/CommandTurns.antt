-- The turns of a session that commands ask for, and what is counted of them.
use Rattle.std.specs.Prelude.{ℕ, ◌+◌, Bool, true, false, ◌&&◌, not, ◌==◌, List, [], ◌∷◌, length, if◌then◌else◌}
use Rattle.std.specs.List.{flat_map}
use Rattle.host_widgets.specs.declared.answers.Answer.{Answer}
use Rattle.host_widgets.specs.declared.answers.Answer.TheVariants as answers
use Rattle.sof_script.specs.declared.script.Command.{Command}
use Rattle.sof_script.specs.Ticks.{earlier, rounds_with}
use Rattle.sof_session.specs.Commands.{is_tick}
use Rattle.sof_script.specs.Tasks.{Written, Out}
use Rattle.sof_stress.specs.declared.counts.Counts.{Counts}

-- ---- turns

-- one tick of a `tick`, or one other command; the last of a command has its answer
pub record CommandTurn : Type 0 where
  pub command : Command
  pub last : Bool

-- those of a command
abbrev pub command_turns : Command → List CommandTurn
command_turns command = rounds_with (λ last. record { command = command; last = last }) (earlier command)

-- those of each command in turn
abbrev pub turns_of : List Command → List CommandTurn
turns_of commands = flat_map command_turns commands

-- ---- what is counted

-- 1 where it is so
abbrev pub one_where : Bool → ℕ
one_where holds = if holds then 1 else 0

abbrev pub is_done : Answer → Bool
is_done answers.Done = true
is_done answer = false

-- how many bytes were written to a slot
abbrev pub bytes_to : ℕ → List Written → ℕ
bytes_to slot [] = 0
bytes_to slot ((other, bytes) ∷ written) = (if other == slot then length bytes else 0) + bytes_to slot written

-- Nothing yet.
abbrev pub no_counts : Counts
no_counts = record { messages = 0; ticks = 0; done = 0; refused = 0; bytes = 0 }

-- A turn more, by its result: a tick of a `tick` counts as one; a command is done where the answer of its last turn is Done, and
-- refused where it is any other; and so many bytes came out, which are those of one slot.
abbrev pub turn_counted : ℕ → CommandTurn → Out → Counts → Counts
turn_counted slot turn out counts = record {
  messages = counts.messages;
  ticks = counts.ticks + one_where (is_tick turn.command);
  done = counts.done + one_where (turn.last && is_done out.answer);
  refused = counts.refused + one_where (turn.last && not (is_done out.answer));
  bytes = counts.bytes + bytes_to slot out.written;
}

-- turns, one after another, by the result of each
abbrev pub all_counted : ℕ → List CommandTurn → List Out → Counts → Counts
all_counted slot (turn ∷ turns) (out ∷ outs) counts = all_counted slot turns outs (turn_counted slot turn out counts)
all_counted slot _ _ counts = counts
