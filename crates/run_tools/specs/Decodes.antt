-- What `decode` does, by the bytes of its file.
use Rattle.std.specs.Prelude.{◌≡◌, ◌⊎◌, ℕ, ◌<◌, ◌≤◌, List, [], ◌∷◌, length, map, Option, Some, Ok, Err, codes}
use Rattle.std.specs.List.{concat}
use Rattle.sof_desk.specs.declared.calls.LoadFault.TheVariants.{TooLong}
use Rattle.sof_desk.specs.Desk.{DeskMeaning, DeskCall, Load}
use Rattle.ipc3_trace.specs.declared.entry.Entry.{Entry}
use Rattle.ipc3_trace.specs.declared.fault.TraceFault.{TraceFault}
use Rattle.ipc3_trace.specs.WholeTraces.{IsTraceOf}
use Rattle.run_desk.specs.DeskCalls.{heard_in, saying}
use Rattle.run_tools.specs.Checks.{WroteText}
use Rattle.run_words.specs.TraceForms.{decode_of}
use Rattle.run_tools.specs.TraceLines.{trace_lines, trace_status}

-- The status by the file's bytes, whose cases exclude each other, and all calls on the desk: a desk that failed or want of
-- memory; 5 where the file is too long; else the lines of the records before the first fault were said, and then 0 where there is no
-- fault, and 2 where there is one, once its line was said too.
abbrev pub DecodeVerdict : List ℕ → List ℕ → List DeskCall → ℕ → Type 0
DecodeVerdict name bytes calls status =
    ((status ≡ 3) ⊎ (status ≡ 7))
    ⊎ (((status ≡ 5) × (16777216 < length bytes) × (calls ≡ Load name 16777216 (Err TooLong) ∷ saying (codes "too long trace\n") ∷ []))
    ⊎ ((es : List Entry) × (fault : Option TraceFault) × (status ≡ trace_status fault) × (length bytes ≤ 16777216) × IsTraceOf bytes es fault
    × (calls ≡ Load name 16777216 (Ok bytes) ∷ map saying (trace_lines es fault))))

-- Where the words are those of `decode`.
pub record Decodes {D P : Type 0} (means : DeskMeaning D) (words : List (List ℕ)) (old : D) (p : P) (calls : List DeskCall) (status : ℕ) (new : D) (q : P) : Type 0 where
  -- the device is not touched
  pub alone : (name : List ℕ) → decode_of words ≡ Some name → q ≡ p
  -- the status is by the file's bytes, where the desk tells them, and, whatever the desk tells, by those that the load brought
  pub judged : (name bytes : List ℕ) → decode_of words ≡ Some name → (means.holds old name ≡ Some bytes) ⊎ (heard_in calls ≡ Ok bytes ∷ []) → DecodeVerdict name bytes calls status
  -- of a trace within its limit the lines were said, and nothing else was written
  pub told : (name bytes : List ℕ) (es : List Entry) (fault : Option TraceFault) → decode_of words ≡ Some name → means.holds old name ≡ Some bytes → length bytes ≤ 16777216 → IsTraceOf bytes es fault
      → WroteText means (concat (trace_lines es fault)) (trace_status fault) old new status
