-- What `play`, `dynamic` and `trace` have to do, by its words and by the bytes of the files that they name.
use Rattle.std.specs.Prelude.{ℕ, Bool, List, [], ◌∷◌, Option, codes}
use Rattle.sof_base.specs.Ports.{InputView}
use Rattle.sof_desk.specs.Desk.{DeskAct, Put, Slot}
use Rattle.tplg_plan.specs.declared.plans.Plan.{Plan}
use Rattle.sof_script.specs.declared.script.Numbered.{Numbered}
use Rattle.sof_script.specs.Commands.{Bound, Read}
use Rattle.sof_script.specs.Ticks.{rounds_with}
use Rattle.sof_script.specs.Tasks.{Written, Begin, Carry}
use Rattle.run_desk.specs.Bindings.{binding_act, bound_inputs, bound_slots}
use Rattle.run_play.specs.Keeping.{trace_acts}
use Rattle.run_play.specs.Rounds.{Round, rounds_of}
use Rattle.run_words.specs.Words.{Form}
use Rattle.run_desk.specs.Todo.{Todo, End, Stop, Ask, Do, Step, Refill, Free}
use Rattle.run_desk.specs.Lines.{halt_line, halt_status}
use Rattle.run_play.specs.Pieces.{lines_after}
use Rattle.run_desk.specs.Prepared.{Prepared, prepared, Ready, Halted}
use Rattle.run_desk.specs.LinesTodo.{lines_todo}

-- ---- the commands

-- one append for each output that bytes were written to
abbrev pub flush_todo : List Written → Todo → Todo
flush_todo [] rest = rest
flush_todo ((slot, bytes) ∷ written) rest = Do (Put (Slot slot) bytes) (flush_todo written rest)

-- a unit's turn, then the bytes that it wrote, and then its lines
abbrev pub unit_todo : Round → Todo → Todo
unit_todo round rest = Step (Carry round.numbered.command) (λ out. flush_todo out.written (lines_todo (lines_after round out) rest))

-- a unit: the inputs are filled first
abbrev pub round_todo : Round → Todo → Todo
round_todo round rest = Refill (unit_todo round rest)

-- each unit in turn
abbrev pub rounds_todo : List Round → Todo → Todo
rounds_todo [] rest = rest
rounds_todo (round ∷ rounds) rest = round_todo round (rounds_todo rounds rest)

-- so many rounds before the last of a command, and the last
abbrev pub rounds_after : ℕ → Numbered → List Round
rounds_after n numbered = rounds_with (λ last. record { numbered = numbered; last = last }) n

-- each command in turn, unit by unit
abbrev pub commands_todo : List Numbered → Todo → Todo
commands_todo commands rest = rounds_todo (rounds_of commands) rest

-- a session is begun over the device, in a mode, with these inputs and slots of outputs, and then come the commands
abbrev pub session_todo : Bool → ℕ → Plan → List Numbered → List InputView → List ℕ → Todo
session_todo on_use heap plan commands inputs slots = Step (Begin on_use plan heap inputs slots) (λ out. commands_todo commands End)

-- ---- the files

-- the file of each binding is opened or created, in their order
abbrev pub bindings_todo : Plan → List Bound → Todo → Todo
bindings_todo plan [] rest = rest
bindings_todo plan (b ∷ bs) rest = Do (binding_act plan b) (bindings_todo plan bs rest)

-- and that of the trace that is kept, if one is
abbrev pub acts_todo : List DeskAct → Todo → Todo
acts_todo [] rest = rest
acts_todo (act ∷ acts) rest = Do act (acts_todo acts rest)

abbrev pub traced_todo : Option (List ℕ) → Todo → Todo
traced_todo trace rest = acts_todo (trace_acts trace) rest

-- the bindings come first, then the trace, and then a session over what they bind
abbrev pub ready_todo : Bool → ℕ → Option (List ℕ) → Plan → Read → Todo
ready_todo on_use heap trace plan read =
    bindings_todo plan read.bindings (traced_todo trace (session_todo on_use heap plan read.commands (bound_inputs plan [] read.bindings) (bound_slots plan read.bindings)))

-- what is to do then
abbrev pub prepared_todo : Bool → ℕ → Option (List ℕ) → Prepared → Todo
prepared_todo on_use heap trace (Ready plan read) = ready_todo on_use heap trace plan read
prepared_todo on_use heap trace (Halted why) = Stop (halt_line why) (halt_status why)

-- ---- the words

-- the topology is loaded, and then the script; memory for all that comes after may be missing, before any file is opened
abbrev pub play : Form → Todo
play form =
    Ask form.topology 1048576 (codes "too long topology\n") (λ topology.
    Ask form.script 1048576 (codes "too long script\n") (λ script.
    Free (prepared_todo form.on_use form.heap form.trace (prepared topology script))))
