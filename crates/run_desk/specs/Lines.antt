-- What is said: the lines of faults and halts, and of counts.
use Rattle.std.specs.Prelude.{ℕ, List, [], ◌++◌, codes, decimal}
use Rattle.tplg_model.specs.declared.fault.TplgFault.{TplgFault}
use Rattle.tplg_model.specs.declared.fault.TplgFault.TheVariants.{Magic, Abi, HeaderSize, Truncated, Payload, Name, ControlKind, Tokens, OutOfMemory}
use Rattle.sof_script.specs.Causes.{cause_words}
use Rattle.run_desk.specs.declared.preparing.Halt.{Halt}
use Rattle.run_desk.specs.declared.preparing.Halt.TheVariants as halts

-- a line with its newline
abbrev pub with_newline : List ℕ → List ℕ
with_newline line = line ++ codes "\n"

-- what is said where there is no memory
abbrev pub no_memory_line : List ℕ
no_memory_line = codes "no memory\n"

-- a fault of a topology file with its place, and the number that was found there; no file's fault is want of memory
abbrev pub topology_fault_words : TplgFault → List ℕ
topology_fault_words (Magic at) = codes "magic " ++ decimal at
topology_fault_words (Abi at found) = codes "abi " ++ decimal at ++ codes " " ++ decimal found
topology_fault_words (HeaderSize at) = codes "header " ++ decimal at
topology_fault_words (Truncated at) = codes "truncated " ++ decimal at
topology_fault_words (Payload at) = codes "payload " ++ decimal at
topology_fault_words (Name at) = codes "name " ++ decimal at
topology_fault_words (ControlKind at found) = codes "control " ++ decimal at ++ codes " " ++ decimal found
topology_fault_words (Tokens at) = codes "tokens " ++ decimal at
topology_fault_words OutOfMemory = []

-- the line of a script's line at fault
abbrev pub script_line : ℕ → List ℕ → List ℕ
script_line line cause = with_newline (codes "script " ++ decimal line ++ codes " " ++ cause)

-- what is said where the files make no run; a rule that fails is reported with its least item
abbrev pub halt_line : Halt → List ℕ
halt_line (halts.Script line cause) = script_line line (cause_words cause)
halt_line (halts.Ticks sum) = with_newline (codes "ticks " ++ decimal sum)
halt_line (halts.Broken fault) = with_newline (codes "topology " ++ topology_fault_words fault)
halt_line (halts.Rule rule item) = with_newline (codes "topology rule " ++ decimal rule ++ codes " " ++ decimal item)
halt_line (halts.Binding line) = script_line line (codes "binding")
halt_line halts.OutOfMemory = no_memory_line

-- and the status
abbrev pub halt_status : Halt → ℕ
halt_status (halts.Ticks sum) = 8
halt_status (halts.Broken fault) = 2
halt_status (halts.Rule rule item) = 2
halt_status halts.OutOfMemory = 7
halt_status _ = 4

-- how many there are
abbrev pub count_line : List ℕ → ℕ → List ℕ
count_line word n = word ++ decimal n

-- the line of a fault
abbrev pub fault_line : TplgFault → List ℕ
fault_line fault = with_newline (codes "topology " ++ topology_fault_words fault)
