-- A script of the program as it is stated.
use Rattle.std.specs.Prelude.{ℕ, ◌+◌, List, [], ◌∷◌, ◌++◌, Result, Ok, Err, string_bytes}
use Rattle.sof_script.specs.declared.script.Command.{Command}
use Rattle.sof_script.specs.declared.script.Numbered.{Numbered}
use Rattle.sof_script.specs.declared.script.Binding.{Binding}
use Rattle.sof_script.specs.declared.script.Script.{Script}
use Rattle.sof_script.specs.declared.reading.ScriptFault.{ScriptFault}
use Rattle.sof_script.specs.Commands.{Bound, Read}
use Rattle.sof_script.specs.Ticks.{command_ticks}

-- a script as it is stated here
abbrev pub bound_of : Binding → Bound
bound_of b = record { line = b.line; input = b.input; endpoint = b.endpoint; file = string_bytes b.file }

abbrev pub bounds_of : List Binding → List Bound
bounds_of [] = []
bounds_of (b ∷ bindings) = bound_of b ∷ bounds_of bindings

abbrev pub script_read : Script → Read
script_read script = record { bindings = bounds_of script.bindings; commands = script.commands }

-- commands with the numbers of their lines, from a number on
abbrev pub numbered_from : ℕ → List Command → List Numbered
numbered_from line [] = []
numbered_from line (c ∷ commands) = record { line = line; command = c } ∷ numbered_from (line + 1) commands

-- what was read, before what lines after it are
abbrev pub behind : Read → Result Read ScriptFault → Result Read ScriptFault
behind read (Err fault) = Err fault
behind read (Ok rest) = Ok (record { bindings = read.bindings ++ rest.bindings; commands = read.commands ++ rest.commands })

-- the ticks of a line
abbrev pub line_ticks : Numbered → ℕ
line_ticks line = command_ticks line.command
