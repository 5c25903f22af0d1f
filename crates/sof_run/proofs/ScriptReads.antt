-- What reading a script comes to.
use Rattle.std.proofs.Common.{◌≡◌, ℕ, ◌+◌, List, [], ◌∷◌, Result, Ok, Err}
use Rattle.sof_script.specs.declared.fault_causes.Cause.{Cause}
use Rattle.sof_script.specs.declared.items.Item.{Item}
use Rattle.sof_script.specs.declared.items.Item.TheVariants.{Nothing, Bind, Do}
use Rattle.sof_script.specs.declared.reading.ScriptFault.{ScriptFault}
use Rattle.sof_script.specs.declared.reading.ScriptFault.TheVariants.{OutOfMemory}
use Rattle.sof_script.specs.Splitting.{lines_of, without_return}
use Rattle.sof_script.specs.Commands.{Read, script_of, lines_read, line_item, with_item}

item_wanting : (line : ℕ) (item : Result Item Cause) (rest : Result Read ScriptFault) → (rest ≡ Err OutOfMemory → ⊥) → with_item line item rest ≡ Err OutOfMemory → ⊥
item_wanting line (Err cause) rest other is = cc is
item_wanting line (Ok item) (Err fault) other is = other is
item_wanting line (Ok Nothing) (Ok read) other is = cc is
item_wanting line (Ok (Bind input endpoint file)) (Ok read) other is = cc is
item_wanting line (Ok (Do command)) (Ok read) other is = cc is

lines_wanting : (number : ℕ) (lines : List (List ℕ)) → lines_read number lines ≡ Err OutOfMemory → ⊥
unfolding lines_read
lines_wanting number [] is = cc is
lines_wanting number (line ∷ lines) is = item_wanting number (line_item (without_return line)) (lines_read (number + 1) lines) (lines_wanting (number + 1) lines) is

-- no script's fault is want of memory
pub never_wanting : (bytes : List ℕ) → script_of bytes ≡ Err OutOfMemory → ⊥
never_wanting bytes is = lines_wanting 1 (lines_of bytes) is
