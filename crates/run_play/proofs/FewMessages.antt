-- Which commands have earlier units, and how many messages the commands of a run send.
use Rattle.std.proofs.Common.{◌≡◌, refl, ℕ, ◌<◌, ◌≤◌, List, Option, Some, None, arith}
use Rattle.sof_script.specs.declared.script.Command.{Command}
use Rattle.sof_script.specs.declared.script.Command.TheVariants as commands
use Rattle.sof_session.specs.Modes.{most_sent_in, most_sent_by}
use Rattle.sof_script.specs.Ticks.{earlier}

-- a command of more than one unit is ticks
pub tick_before : (command : Command) (n : ℕ) → n < earlier command → (ticks : ℕ) × (command ≡ commands.Tick ticks)
tick_before (commands.Tick t) n below = (t, refl)
tick_before command n below = absurd (omega (arith, below))

-- no command sends more than 1200 messages, in either mode
in_most : (up : Option (List ℕ)) → most_sent_in up ≤ 1200
in_most None = omega arith
in_most (Some up) = omega arith

pub at_most_by : (up : Option (List ℕ)) (command : Command) → most_sent_by up command ≤ 1200
at_most_by up (commands.Tick t) = omega arith
at_most_by up command = in_most up
