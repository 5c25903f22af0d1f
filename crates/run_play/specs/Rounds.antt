-- The units that a script asks for.
use Rattle.std.specs.Prelude.{Bool, List}
use Rattle.std.specs.List.{flat_map}
use Rattle.sof_script.specs.declared.script.Numbered.{Numbered}
use Rattle.sof_script.specs.Ticks.{earlier, rounds_with}

-- one tick of a `tick`, or one other command; the last of a command has its lines
pub record Round : Type 0 where
  pub numbered : Numbered
  pub last : Bool

-- those of a command
abbrev pub command_rounds : Numbered → List Round
command_rounds numbered = rounds_with (λ last. record { numbered = numbered; last = last }) (earlier numbered.command)

-- those of each command in turn
abbrev pub rounds_of : List Numbered → List Round
rounds_of commands = flat_map command_rounds commands
