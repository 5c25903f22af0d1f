-- The form of the words.
use Rattle.std.specs.Prelude.{ℕ, nat_le, ◌&&◌, Bool, true, false, List, [], ◌∷◌, length, Option, Some, None, codes, if◌then◌else◌}
use Rattle.std.specs.Option.{option_or, option_and_then}
use Rattle.std.specs.Result.{result_ok}
use Rattle.std.specs.Str.{bytes_eq}
use Rattle.sof_script.specs.ValueForms.{number_value}

-- what `play`, `dynamic` and `trace` are given: whether pipelines are made on use, the heap in bytes, the names of two files, and that of
-- the trace that is kept, if one is
pub record Form : Type 0 where
  pub on_use : Bool
  pub heap : ℕ
  pub topology : List ℕ
  pub script : List ℕ
  pub trace : Option (List ℕ)

-- a file's name has 1 to 255 bytes
abbrev pub is_file_name : List ℕ → Bool
is_file_name name = nat_le 1 (length name) && nat_le (length name) 255

-- a word and the name of its file
abbrev pub named_by : List ℕ → List (List ℕ) → Option (List ℕ)
named_by word (verb ∷ name ∷ []) = if bytes_eq verb word && is_file_name name then Some name else None
named_by word _ = None

-- the form with this heap and these names, where all three are right
abbrev pub form_with : Bool → Option ℕ → List ℕ → List ℕ → Option (List ℕ) → Option Form
form_with on_use None topology script trace = None
form_with on_use (Some heap) topology script trace =
    if is_file_name topology && is_file_name script then Some (record { on_use = on_use; heap = heap; topology = topology; script = script; trace = trace }) else None

-- such a word, then HEAP TOPOLOGY SCRIPT, of a decimal number that is at most the room of the device
abbrev pub untraced_by : List ℕ → Bool → ℕ → List (List ℕ) → Option Form
untraced_by word on_use room (verb ∷ heap ∷ topology ∷ script ∷ []) =
    if bytes_eq verb word then form_with on_use (result_ok (number_value 0 room heap)) topology script None else None
untraced_by word on_use room _ = None

-- `play HEAP TOPOLOGY SCRIPT`
abbrev pub untraced_of : ℕ → List (List ℕ) → Option Form
untraced_of room words = untraced_by (codes "play") false room words

-- `dynamic HEAP TOPOLOGY SCRIPT`
abbrev pub dynamic_of : ℕ → List (List ℕ) → Option Form
dynamic_of room words = untraced_by (codes "dynamic") true room words

-- `trace HEAP TOPOLOGY SCRIPT TRACE`, of the same
abbrev pub traced_of : ℕ → List (List ℕ) → Option Form
traced_of room (verb ∷ heap ∷ topology ∷ script ∷ trace ∷ []) =
    if bytes_eq verb (codes "trace") && is_file_name trace then form_with false (result_ok (number_value 0 room heap)) topology script (Some trace) else None
traced_of room _ = None

-- the words of a play, of which a trace may be kept
abbrev pub play_of : ℕ → List (List ℕ) → Option Form
play_of room words = option_or (untraced_of room words) (option_or (dynamic_of room words) (traced_of room words))

-- the name of the trace that words ask to keep, if any
abbrev pub trace_named : ℕ → List (List ℕ) → Option (List ℕ)
trace_named room words = option_and_then (λ (form : Form). form.trace) (play_of room words)
