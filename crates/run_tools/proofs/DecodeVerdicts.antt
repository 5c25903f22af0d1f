-- What `decode` ensures, from what it did.
use Rattle.std.proofs.Common.{◌≡◌, ◌⊎◌, inl, inr, ℕ, ◌≤◌, true, false, List, [], ◌∷◌, ◌++◌, length, map, Option, Some, None, Ok, refl, sym, ◌∙◌, ap, subst}
use Rattle.std.specs.List.{concat}
use Rattle.std.proofs.lemmas.List.{append-nil}
use Rattle.sof_desk.specs.Desk.{DeskMeaning, DeskCall, Load, Did, Read, DeskLed, Acted}
use Rattle.ipc3_trace.specs.declared.entry.Entry.{Entry}
use Rattle.ipc3_trace.specs.declared.fault.TraceFault.{TraceFault}
use Rattle.ipc3_trace.specs.EntryLines.{entry_line}
use Rattle.ipc3_trace.specs.WholeTraces.{IsTraceOf}
use Rattle.ipc3_trace.specs.Reading.{trace_in}
use Rattle.ipc3_trace.specs.FaultLines.{trace_fault_line}
use Rattle.ipc3_trace.proofs.WholeLaws.{has-trace, one-trace}
use Rattle.sof_script.specs.Tasks.{Turn}
use Rattle.run_desk.specs.Todo.{DoneBy, Played, Todo}
use Rattle.run_desk.specs.Lines.{with_newline}
use Rattle.run_desk.specs.TopologyBytes.{AreBytes}
use Rattle.run_words.specs.TraceForms.{decode_of}
use Rattle.run_tools.specs.TraceLines.{trace_lines, trace_status}
use Rattle.run_tools.specs.DecodeTodo.{decoded_todo, decode}
use Rattle.run_desk.specs.DeskCalls.{heard_in, saying}
use Rattle.run_desk.specs.SaidText.{Spoke, IsFront}
use Rattle.run_tools.specs.Checks.{WroteText}
use Rattle.run_tools.specs.Decodes.{DecodeVerdict, Decodes}
use Rattle.run_desk.proofs.Steps.{no_turns}
use Rattle.run_desk.proofs.SaidLines.{said, front_behind, nothing, behind, put, took, Parted, line_failed, line_parted}
use Rattle.run_tools.proofs.CheckVerdicts.{loaded_told, all_told, wanting_told, failed_told}
use Rattle.run_desk.proofs.AskedFiles.{unless_cut, asked_alone, asked, judged, asked_wrote}

-- ---- the words

-- what is to do with these bytes
abbrev ToTell : List ℕ → List Turn → List DeskCall → ℕ → Type 0
ToTell bytes turns calls status = DoneBy (decoded_todo (trace_in bytes).0 (trace_in bytes).1) turns calls status

-- what is to do with the bytes
abbrev done_with : List ℕ → Todo
done_with bytes = decoded_todo (trace_in bytes).0 (trace_in bytes).1

-- ---- the device

told_alone : (es : List Entry) (fault : Option TraceFault) (turns : List Turn) (calls : List DeskCall) (status : ℕ) → DoneBy (decoded_todo es fault) turns calls status → turns ≡ []
told_alone [] None turns calls status goes = goes.0
told_alone [] (Some fault) turns calls status goes = no_turns (trace_fault_line fault) 2 turns calls status goes
told_alone (e ∷ es) fault turns [] status goes = absurd goes
told_alone (e ∷ es) fault turns (Load name limit heard ∷ calls) status goes = absurd goes
told_alone (e ∷ es) fault turns (Read n size got ∷ calls) status goes = absurd goes
told_alone (e ∷ es) fault turns (Did act true ∷ calls) status goes = told_alone es fault turns calls status goes.1
told_alone (e ∷ es) fault turns (Did act false ∷ calls) status goes = goes.1.0

-- ---- the status

-- all lines that were said, or not all of them were
lines_told : (es : List Entry) (fault : Option TraceFault) (turns : List Turn) (calls : List DeskCall) (status : ℕ) → DoneBy (decoded_todo es fault) turns calls status → (status ≡ 3) ⊎ ((status ≡ trace_status fault) × (calls ≡ map saying (trace_lines es fault)))
lines_told [] None turns calls status goes = inr (goes.2, goes.1)
lines_told [] (Some fault) turns calls status goes = said (trace_fault_line fault) 2 turns calls status goes
lines_told (e ∷ es) fault turns [] status goes = absurd goes
lines_told (e ∷ es) fault turns (Load name limit heard ∷ calls) status goes = absurd goes
lines_told (e ∷ es) fault turns (Read n size got ∷ calls) status goes = absurd goes
lines_told (e ∷ es) fault turns (Did act false ∷ calls) status goes = inl goes.1.2
lines_told (e ∷ es) fault turns (Did act true ∷ calls) status goes = one_more (lines_told es fault turns calls status goes.1)
  where
    one_more : (status ≡ 3) ⊎ ((status ≡ trace_status fault) × (calls ≡ map saying (trace_lines es fault))) → (status ≡ 3) ⊎ ((status ≡ trace_status fault) × (Did act true ∷ calls ≡ map saying (trace_lines (e ∷ es) fault)))
    one_more (inl three) = inl three
    one_more (inr done) = inr (done.0, λ i. Did (goes.0 i) true ∷ done.1 i)

-- ---- what was written

module _ {D : Type 0} (means : DeskMeaning D) where
  lines_parted : (es : List Entry) (fault : Option TraceFault) (turns : List Turn) (calls : List DeskCall) (d e : D) (status : ℕ) → DoneBy (decoded_todo es fault) turns calls status → DeskLed means d calls e → Parted means (concat (trace_lines es fault)) (trace_status fault) d e status
  lines_parted [] None turns [] d e status goes led =
      record { part = []; spoke = nothing means d e (λ place. ap (λ x. means.wrote x place) led); is = inl (goes.2, refl) }
  lines_parted [] None turns (call ∷ calls) d e status goes led = absurd (cc goes.1)
  lines_parted [] (Some fault) turns calls d e status goes led =
      subst (λ text. Parted means text 2 d e status) (sym (append-nil (trace_fault_line fault))) (line_parted means (trace_fault_line fault) 2 turns calls d e status goes led)
  lines_parted (first ∷ es) fault turns [] d e status goes led = absurd goes
  lines_parted (first ∷ es) fault turns (Load name limit heard ∷ calls) d e status goes led = absurd goes
  lines_parted (first ∷ es) fault turns (Read n size got ∷ calls) d e status goes led = absurd goes
  lines_parted (first ∷ es) fault turns (Did act false ∷ calls) d e status goes led =
      line_failed means (with_newline (entry_line first)) (concat (trace_lines es fault)) (trace_status fault) act calls d e status goes.0 goes.1.1 goes.1.2 led
  lines_parted (first ∷ es) fault turns (Did act true ∷ calls) d e status goes led =
      let line = with_newline (entry_line first) in
      let acted : Acted means act true d led.0 = led.1 in
      let whole : acted.part ≡ line = took means line act true acted.part goes.0 acted.takes in
      let spoken : Spoke means line d led.0 = subst (λ part. Spoke means part d led.0) whole (put means line act true d led.0 goes.0 acted) in
      let others = lines_parted es fault turns calls led.0 e status goes.1 led.2 in
      record {
        part = line ++ others.part;
        spoke = behind means line others.part d led.0 e spoken others.spoke;
        is = joined line others.part others.is;
      }
    where
      joined : (line part : List ℕ) → ((status ≡ trace_status fault) × (part ≡ concat (trace_lines es fault))) ⊎ ((status ≡ 3) × IsFront part (concat (trace_lines es fault))) → ((status ≡ trace_status fault) × (line ++ part ≡ line ++ concat (trace_lines es fault))) ⊎ ((status ≡ 3) × IsFront (line ++ part) (line ++ concat (trace_lines es fault)))
      joined line part (inl done) = inl (done.0, ap (λ xs. line ++ xs) done.1)
      joined line part (inr front) = inr (front.0, front_behind line part (concat (trace_lines es fault)) front.1)

  -- the lines of a trace
  module _ (name bytes : List ℕ) (es : List Entry) (fault : Option TraceFault) (short : length bytes ≤ 16777216) (is : IsTraceOf bytes es fault) where
    abbrev text : List ℕ
    text = concat (trace_lines es fault)

    abbrev n : ℕ
    n = trace_status fault

    read_told : AreBytes bytes → (turns : List Turn) (calls : List DeskCall) (d e : D) (status : ℕ) → ToTell bytes turns calls status → DeskLed means d calls e → WroteText means text n d e status
    read_told are turns calls d e status goes led =
        let one = one-trace bytes (trace_in bytes).0 es (trace_in bytes).1 fault (has-trace bytes are) is in
        let read : List Entry × Option TraceFault = ((trace_in bytes).0, (trace_in bytes).1) in
        let path : read ≡ (es, fault) = (λ i. (one.0 i, one.1 i)) in
        all_told means text n d e status (lines_parted es fault turns calls d e status (subst (λ (t : List Entry × Option TraceFault). DoneBy (decoded_todo t.0 t.1) turns calls status) path goes) led)

    decode_told : (turns : List Turn) (calls : List DeskCall) (d e : D) (status : ℕ) → means.holds d name ≡ Some bytes → DoneBy (decode name) turns calls status → DeskLed means d calls e → WroteText means text n d e status
    decode_told turns calls d e status told goes led =
        let found = asked _ _ _ done_with turns means bytes calls status d e (inl told) goes led in
        asked_wrote _ _ _ _ turns means bytes (λ m. WroteText means text n m e status) calls status d e short found
        (λ m kept. loaded_told means text n d m e status kept) (λ later m are. read_told are turns later m e status) (λ later m. wanting_told means text n turns later m e status) (failed_told means text n e status)

-- ---- all

module _ {D P : Type 0} (means : DeskMeaning D) (words : List (List ℕ)) (old new : D) (todo : Todo) (p q : P) (status : ℕ) (turns : List Turn) (still : turns ≡ [] → q ≡ p) (played : Played means todo old turns status new)
    (only : (name : List ℕ) → decode_of words ≡ Some name → todo ≡ decode name) where
  -- what it did is that of `decode`
  goes_on : (name : List ℕ) → decode_of words ≡ Some name → DoneBy (decode name) turns played.calls status
  goes_on name is = subst (λ what. DoneBy what turns played.calls status) (only name is) played.goes

  untouched : (name : List ℕ) → decode_of words ≡ Some name → q ≡ p
  untouched name is = still (asked_alone _ _ _ done_with turns played.calls status (goes_on name is) (λ got later. told_alone (trace_in got).0 (trace_in got).1 turns later status))

  judges : (name bytes : List ℕ) → decode_of words ≡ Some name → (means.holds old name ≡ Some bytes) ⊎ (heard_in played.calls ≡ Ok bytes ∷ []) → DecodeVerdict name bytes played.calls status
  judges name bytes named by =
      let es : List Entry = (trace_in bytes).0 in
      let fault : Option TraceFault = (trace_in bytes).1 in
      judged _ _ _ _ turns means bytes played.calls status old new (asked _ _ _ done_with turns means bytes played.calls status old new by (goes_on name named) played.led)
      (λ later is short are goes. unless_cut status (lines_told es fault turns later status goes)
      (λ done. inr (es, fault, done.0, short, has-trace bytes are, is ∙ ap (λ cs. Load name 16777216 (Ok bytes) ∷ cs) done.1)))

  pub decodes : Decodes means words old p played.calls status new q
  decodes =
      record {
        alone = untouched;
        judged = judges;
        told = λ name bytes es fault is told short trace. decode_told means name bytes es fault short trace turns played.calls old new status told (goes_on name is) played.led;
      }
