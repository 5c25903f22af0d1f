-- What `source` ensures, from what it did.
use Rattle.std.proofs.Common.{◌≡◌, ◌⊎◌, inl, inr, ℕ, ◌≤◌, List, [], ◌∷◌, length, Option, Some, None, Result, Ok, Err, refl, ◌∙◌, ap, subst}
use Rattle.sof_desk.specs.Desk.{DeskMeaning, DeskCall, Load, DeskLed}
use Rattle.sof_script.specs.Tasks.{Turn}
use Rattle.tplg_model.specs.declared.block.Topology.{Topology}
use Rattle.tplg_source.specs.Outcome.{source_for}
use Rattle.tplg_source.proofs.KeptPlans.{source_keeps}
use Rattle.run_desk.specs.declared.preparing.Halt.{Halt}
use Rattle.run_desk.specs.Todo.{Says, DoneBy, Played, Todo, Free}
use Rattle.run_desk.specs.Lines.{no_memory_line, with_newline, halt_line, halt_status}
use Rattle.run_tools.specs.Compiling.{wrote_line}
use Rattle.run_desk.specs.Prepared.{checked}
use Rattle.run_words.specs.ToolForms.{SourceFiles, source_files_of}
use Rattle.run_tools.specs.Sourcing.{no_source_line}
use Rattle.run_tools.specs.SourceTodo.{kept_todo, sourced_todo, make_source}
use Rattle.run_desk.specs.TopologyBytes.{AreBytes}
use Rattle.run_desk.specs.DeskCalls.{heard_in, saying}
use Rattle.run_tools.specs.Checks.{IsRight, TopologyComesTo}
use Rattle.run_tools.specs.Compiles.{making, WroteFile}
use Rattle.run_tools.specs.Sources.{SourceVerdict, Sources}
use Rattle.run_tools.proofs.CheckedFiles.{checked_found, checked_only}
use Rattle.run_desk.proofs.Steps.{no_turns}
use Rattle.run_desk.proofs.SaidLines.{said}
use Rattle.run_tools.proofs.CompileVerdicts.{file_alone, file_made, file_wrote, loaded_wrote, wanting_wrote, failed_wrote}
use Rattle.run_desk.proofs.AskedFiles.{unless_cut, where_free, asked_alone, asked, judged, asked_wrote}
use Rattle.run_tools.proofs.CheckVerdicts.{wrong_status}

-- what is to do with the bytes
abbrev done_with : SourceFiles → List ℕ → Todo
done_with files bytes = Free (sourced_todo files.out (checked bytes))

-- ---- the device

kept_alone : (out : List ℕ) (o : Option (List ℕ)) (turns : List Turn) (calls : List DeskCall) (status : ℕ) → DoneBy (kept_todo out o) turns calls status → turns ≡ []
kept_alone out (Some text) turns calls status goes = file_alone out text turns calls status goes
kept_alone out None turns calls status goes = no_turns no_source_line 2 turns calls status goes

sourced_alone : (out : List ℕ) (r : Result Topology Halt) (turns : List Turn) (calls : List DeskCall) (status : ℕ) → DoneBy (sourced_todo out r) turns calls status ⊎ Says no_memory_line 7 turns calls status → turns ≡ []
sourced_alone out (Ok t) turns calls status (inl goes) = kept_alone out (source_for t) turns calls status goes
sourced_alone out (Err why) turns calls status (inl goes) = no_turns (halt_line why) (halt_status why) turns calls status goes
sourced_alone out r turns calls status (inr says) = no_turns no_memory_line 7 turns calls status says

-- ---- the status

-- by the bytes
module _ (files : SourceFiles) (bytes : List ℕ) (are : AreBytes bytes) (short : length bytes ≤ 1048576) (turns : List Turn) (calls later : List DeskCall) (status : ℕ) (is : calls ≡ Load files.topology 1048576 (Ok bytes) ∷ later) where
  all : (made : List DeskCall) → later ≡ made → calls ≡ Load files.topology 1048576 (Ok bytes) ∷ made
  all made same = is ∙ ap (λ cs. Load files.topology 1048576 (Ok bytes) ∷ cs) same

  by_source : (t : Topology) (o : Option (List ℕ)) → IsRight bytes t → source_for t ≡ o → DoneBy (kept_todo files.out o) turns later status → SourceVerdict source_for files bytes calls status
  by_source t None right none goes =
      unless_cut status (said no_source_line 2 turns later status goes) (λ done. inr (inr (inl (t, done.0, short, right, none, all (saying no_source_line ∷ []) done.1))))
  by_source t (Some text) right kept goes =
      let keeps = source_keeps t text kept in
      unless_cut status (file_made files.out text turns later status goes) (λ done. inr (inr (inr (done.0, short, (t, text, keeps.made, right, keeps.compiled, keeps.same, kept, all (making files.out text) done.1)))))

  by_found : (r : Result Topology Halt) → TopologyComesTo bytes r → DoneBy (sourced_todo files.out r) turns later status → SourceVerdict source_for files bytes calls status
  by_found (Ok t) right goes = by_source t (source_for t) right refl goes
  by_found (Err why) wrong goes =
      unless_cut status (said (halt_line why) (halt_status why) turns later status goes) (λ done. inr (inl (why, done.0 ∙ wrong_status bytes why wrong, short, wrong, all (saying (halt_line why) ∷ []) done.1)))

  by_bytes : DoneBy (sourced_todo files.out (checked bytes)) turns later status ⊎ Says no_memory_line 7 turns later status → SourceVerdict source_for files bytes calls status
  by_bytes goes = where_free turns later status goes (by_found (checked bytes) (checked_found bytes are))

-- ---- what was written

-- the file of a right topology's source
module _ {D : Type 0} (means : DeskMeaning D) (files : SourceFiles) (bytes : List ℕ) (t : Topology) (text : List ℕ) (short : length bytes ≤ 1048576) (right : checked bytes ≡ Ok t) (kept : source_for t ≡ Some text) where
  abbrev last : List ℕ
  last = with_newline (wrote_line text)

  sourced_wrote : (turns : List Turn) (calls : List DeskCall) (d e : D) (status : ℕ) → DoneBy (sourced_todo files.out (checked bytes)) turns calls status ⊎ Says no_memory_line 7 turns calls status → DeskLed means d calls e → WroteFile means text last d e status
  sourced_wrote turns calls d e status (inl goes) led =
      let found : DoneBy (sourced_todo files.out (Ok t)) turns calls status = subst (λ r. DoneBy (sourced_todo files.out r) turns calls status) right goes in
      file_wrote means files.out text turns calls d e status (subst (λ o. DoneBy (kept_todo files.out o) turns calls status) kept found) led
  sourced_wrote turns calls d e status (inr says) led = wanting_wrote means text last turns calls d e status says led

  source_wrote : (turns : List Turn) (calls : List DeskCall) (d e : D) (status : ℕ) → means.holds d files.topology ≡ Some bytes → DoneBy (make_source files) turns calls status → DeskLed means d calls e → WroteFile means text last d e status
  source_wrote turns calls d e status told goes led =
      let found = asked _ _ _ (done_with files) turns means bytes calls status d e (inl told) goes led in
      asked_wrote _ _ _ _ turns means bytes (λ m. WroteFile means text last m e status) calls status d e short found
      (λ m kept. loaded_wrote means text last d m e status kept) (λ later m are. sourced_wrote turns later m e status) (λ later m. wanting_wrote means text last turns later m e status) (failed_wrote means text last e status)

module _ {D P : Type 0} (means : DeskMeaning D) (words : List (List ℕ)) (old new : D) (todo : Todo) (p q : P) (status : ℕ) (turns : List Turn) (still : turns ≡ [] → q ≡ p) (played : Played means todo old turns status new)
    (only : (files : SourceFiles) → source_files_of words ≡ Some files → todo ≡ make_source files) where
  -- what it did is that of making a source
  goes_on : (files : SourceFiles) → source_files_of words ≡ Some files → DoneBy (make_source files) turns played.calls status
  goes_on files is = subst (λ what. DoneBy what turns played.calls status) (only files is) played.goes

  untouched : (files : SourceFiles) → source_files_of words ≡ Some files → q ≡ p
  untouched files is = still (asked_alone _ _ _ (done_with files) turns played.calls status (goes_on files is) (λ got later. sourced_alone files.out (checked got) turns later status))

  judges : (files : SourceFiles) (bytes : List ℕ) → source_files_of words ≡ Some files → (means.holds old files.topology ≡ Some bytes) ⊎ (heard_in played.calls ≡ Ok bytes ∷ []) → SourceVerdict source_for files bytes played.calls status
  judges files bytes named by =
      judged _ _ _ _ turns means bytes played.calls status old new (asked _ _ _ (done_with files) turns means bytes played.calls status old new by (goes_on files named) played.led)
      (λ later is short are. by_bytes files bytes are short turns played.calls later status is)

  pub sources : Sources source_for means words old p played.calls status new q
  sources =
      record {
        alone = untouched;
        judged = judges;
        wrote = λ files bytes t text named told short right kept.
            source_wrote means files bytes t text short (checked_only bytes (Ok t) right) kept turns played.calls old new status told (goes_on files named) played.led;
      }
