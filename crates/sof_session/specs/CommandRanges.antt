-- Which numbers a command may have, and how many messages it sends.
use Rattle.std.specs.Prelude.{ℕ, nat_le, nat_lt, Bool, true, false, ◌&&◌, ℤ, pos, negsuc}
use Rattle.sof_script.specs.declared.script.Command.{Command}
use Rattle.sof_script.specs.declared.script.Command.TheVariants as commands

-- how far ahead a fate or a lag is planned: 1 to 100000 messages
abbrev pub is_ahead : ℕ → Bool
is_ahead k = nat_le 1 k && nat_le k 100000

-- an error with which a message is refused: -4095 to -1
abbrev pub is_refusal : ℤ → Bool
is_refusal (pos n) = false
is_refusal (negsuc n) = nat_lt n 4095

-- how many ticks a lag has: 1 to 16
abbrev pub is_lag : ℕ → Bool
is_lag ticks = nat_le 1 ticks && nat_le ticks 16

-- the numbers of a planned fate or lag are in their ranges
abbrev pub is_in_range : Command → Bool
is_in_range (commands.Refuse k e) = is_ahead k && is_refusal e
is_in_range (commands.Drop k) = is_ahead k
is_in_range (commands.Lose k) = is_ahead k
is_in_range (commands.Lag k ticks) = is_ahead k && is_lag ticks
is_in_range command = true

-- the most messages that a command sends: a tick sends none
abbrev pub most_sent : Command → ℕ
most_sent (commands.Tick n) = 0
most_sent command = 900
