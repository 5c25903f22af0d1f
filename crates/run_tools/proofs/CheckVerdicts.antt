-- What `check` and `graph` ensure, from what they did.
use Rattle.std.proofs.Common.{◌≡◌, ◌⊎◌, inl, inr, ℕ, ◌≤◌, true, false, List, [], ◌∷◌, ◌++◌, length, map, Option, Some, Result, Ok, Err, refl, ◌∙◌, ap, subst}
use Rattle.std.specs.List.{concat}
use Rattle.std.proofs.lemmas.List.{append-nil}
use Rattle.sof_desk.specs.Desk.{DeskMeaning, DeskCall, Load, Did, Read, DeskLed, Acted, DeskPlace}
use Rattle.sof_script.specs.Tasks.{Turn}
use Rattle.tplg_model.specs.declared.block.Topology.{Topology}
use Rattle.run_desk.specs.declared.preparing.Halt.{Halt}
use Rattle.run_desk.specs.declared.preparing.Halt.TheVariants as halts
use Rattle.run_desk.specs.Todo.{End, Says, DoneBy, Played, Todo, Free}
use Rattle.run_desk.specs.Lines.{no_memory_line, with_newline, halt_line, halt_status}
use Rattle.run_desk.specs.LinesTodo.{lines_todo}
use Rattle.run_desk.specs.Prepared.{checked}
use Rattle.run_tools.specs.CheckTodo.{said_todo, checked_todo, check}
use Rattle.run_desk.specs.TopologyBytes.{AreBytes}
use Rattle.run_desk.specs.DeskCalls.{heard_in, saying}
use Rattle.run_tools.specs.Checks.{IsWrong, CheckVerdict, WroteText, Checks, TopologyComesTo}
use Rattle.run_desk.specs.SaidText.{Spoke, IsFront}
use Rattle.run_tools.proofs.CheckedFiles.{checked_found, checked_only}
use Rattle.run_tools.proofs.CheckPhases.{as_said}
use Rattle.run_desk.proofs.Steps.{no_turns}
use Rattle.run_desk.proofs.SaidLines.{said, front_behind, nothing, behind, put, took, Parted, line_failed, line_parted}
use Rattle.run_desk.proofs.AskedFiles.{unless_cut, where_free, asked_alone, asked, judged, asked_wrote}

-- what is to do with the bytes
abbrev done_with : (Topology → List (List ℕ)) → List ℕ → Todo
done_with lines bytes = Free (checked_todo lines (checked bytes))

-- ---- the device

lines_alone : (lines : List (List ℕ)) (turns : List Turn) (calls : List DeskCall) (status : ℕ) → DoneBy (said_todo lines End) turns calls status → turns ≡ []
lines_alone [] turns calls status goes = goes.0
lines_alone (line ∷ lines) turns [] status goes = absurd goes
lines_alone (line ∷ lines) turns (Load name limit heard ∷ calls) status goes = absurd goes
lines_alone (line ∷ lines) turns (Read n size got ∷ calls) status goes = absurd goes
lines_alone (line ∷ lines) turns (Did act true ∷ calls) status goes = lines_alone lines turns calls status goes.1
lines_alone (line ∷ lines) turns (Did act false ∷ calls) status goes = goes.1.0

checked_alone : (lines : Topology → List (List ℕ)) (r : Result Topology Halt) (turns : List Turn) (calls : List DeskCall) (status : ℕ) → DoneBy (checked_todo lines r) turns calls status ⊎ Says no_memory_line 7 turns calls status → turns ≡ []
checked_alone lines (Ok t) turns calls status (inl goes) = lines_alone (lines t) turns calls status goes
checked_alone lines (Err why) turns calls status (inl goes) = no_turns (halt_line why) (halt_status why) turns calls status goes
checked_alone lines r turns calls status (inr says) = no_turns no_memory_line 7 turns calls status says

-- ---- the status

-- all lines that were said, or not all of them were
lines_said : (lines : List (List ℕ)) (turns : List Turn) (calls : List DeskCall) (status : ℕ) → DoneBy (said_todo lines End) turns calls status → (status ≡ 3) ⊎ ((status ≡ 0) × (calls ≡ map saying lines))
lines_said [] turns calls status goes = inr (goes.2, goes.1)
lines_said (line ∷ lines) turns [] status goes = absurd goes
lines_said (line ∷ lines) turns (Load name limit heard ∷ calls) status goes = absurd goes
lines_said (line ∷ lines) turns (Read n size got ∷ calls) status goes = absurd goes
lines_said (line ∷ lines) turns (Did act false ∷ calls) status goes = inl goes.1.2
lines_said (line ∷ lines) turns (Did act true ∷ calls) status goes = one_more (lines_said lines turns calls status goes.1)
  where
    one_more : (status ≡ 3) ⊎ ((status ≡ 0) × (calls ≡ map saying lines)) → (status ≡ 3) ⊎ ((status ≡ 0) × (Did act true ∷ calls ≡ map saying (line ∷ lines)))
    one_more (inl three) = inl three
    one_more (inr done) = inr (done.0, λ i. Did (goes.0 i) true ∷ done.1 i)

-- why it is not right is reported with status 2
pub wrong_status : (bytes : List ℕ) (why : Halt) → IsWrong bytes why → halt_status why ≡ 2
wrong_status bytes (halts.Broken fault) wrong = refl
wrong_status bytes (halts.Rule rule item) wrong = refl
wrong_status bytes why wrong = absurd wrong

module _ (lines : Topology → List (List ℕ)) (name bytes : List ℕ) where
  -- by the bytes
  module _ (are : AreBytes bytes) (short : length bytes ≤ 1048576) (turns : List Turn) (calls later : List DeskCall) (status : ℕ) (is : calls ≡ Load name 1048576 (Ok bytes) ∷ later) where
    all : (made : List DeskCall) → later ≡ made → calls ≡ Load name 1048576 (Ok bytes) ∷ made
    all made same = is ∙ ap (λ cs. Load name 1048576 (Ok bytes) ∷ cs) same

    by_found : (r : Result Topology Halt) → TopologyComesTo bytes r → DoneBy (checked_todo lines r) turns later status → CheckVerdict lines name bytes calls status
    by_found (Ok t) right goes = unless_cut status (lines_said (lines t) turns later status goes) (λ done. inr (inr (done.0, short, (t, right, all (map saying (lines t)) done.1))))
    by_found (Err why) wrong goes =
        unless_cut status (said (halt_line why) (halt_status why) turns later status goes) (λ done. inr (inl (why, done.0 ∙ wrong_status bytes why wrong, short, wrong, all (saying (halt_line why) ∷ []) done.1)))

    by_bytes : DoneBy (checked_todo lines (checked bytes)) turns later status ⊎ Says no_memory_line 7 turns later status → CheckVerdict lines name bytes calls status
    by_bytes goes = where_free turns later status goes (by_found (checked bytes) (checked_found bytes are))

-- ---- what was written

module _ {D : Type 0} (means : DeskMeaning D) where
  said_parted : (lines : List (List ℕ)) (turns : List Turn) (calls : List DeskCall) (d e : D) (status : ℕ) → DoneBy (said_todo lines End) turns calls status → DeskLed means d calls e → Parted means (concat lines) 0 d e status
  said_parted [] turns [] d e status goes led =
      record { part = []; spoke = nothing means d e (λ place. ap (λ x. means.wrote x place) led); is = inl (goes.2, refl) }
  said_parted [] turns (call ∷ calls) d e status goes led = absurd (cc goes.1)
  said_parted (line ∷ lines) turns [] d e status goes led = absurd goes
  said_parted (line ∷ lines) turns (Load name limit heard ∷ calls) d e status goes led = absurd goes
  said_parted (line ∷ lines) turns (Read n size got ∷ calls) d e status goes led = absurd goes
  said_parted (line ∷ lines) turns (Did act false ∷ calls) d e status goes led =
      line_failed means line (concat lines) 0 act calls d e status goes.0 goes.1.1 goes.1.2 led
  said_parted (line ∷ lines) turns (Did act true ∷ calls) d e status goes led =
      let acted : Acted means act true d led.0 = led.1 in
      let whole : acted.part ≡ line = took means line act true acted.part goes.0 acted.takes in
      let said : Spoke means line d led.0 = subst (λ part. Spoke means part d led.0) whole (put means line act true d led.0 goes.0 acted) in
      let others = said_parted lines turns calls led.0 e status goes.1 led.2 in
      record {
        part = line ++ others.part;
        spoke = behind means line others.part d led.0 e said others.spoke;
        is = joined others.part others.is;
      }
    where
      joined : (part : List ℕ) → ((status ≡ 0) × (part ≡ concat lines)) ⊎ ((status ≡ 3) × IsFront part (concat lines)) → ((status ≡ 0) × (line ++ part ≡ concat (line ∷ lines))) ⊎ ((status ≡ 3) × IsFront (line ++ part) (concat (line ∷ lines)))
      joined part (inl done) = inl (done.0, ap (λ xs. line ++ xs) done.1)
      joined part (inr front) = inr (front.0, front_behind line part (concat lines) front.1)

  pub lines_parted : (lines : List (List ℕ)) (turns : List Turn) (calls : List DeskCall) (d e : D) (status : ℕ) → DoneBy (lines_todo lines End) turns calls status → DeskLed means d calls e → Parted means (concat (map with_newline lines)) 0 d e status
  lines_parted lines turns calls d e status goes led =
      said_parted (map with_newline lines) turns calls d e status (subst (λ todo. DoneBy todo turns calls status) (as_said lines End) goes) led

  -- after a load, which writes nothing
  pub loaded_told : (text : List ℕ) (n : ℕ) (d m e : D) (status : ℕ) → ((place : DeskPlace) → means.wrote m place ≡ means.wrote d place) → WroteText means text n m e status → WroteText means text n d e status
  loaded_told text n d m e status kept told =
      record {
        part = told.part;
        spoke = behind means [] told.part d m e (nothing means d m kept) told.spoke;
        is = told.is;
      }

  pub all_told : (text : List ℕ) (n : ℕ) (d e : D) (status : ℕ) → Parted means text n d e status → WroteText means text n d e status
  all_told text n d e status parted = record { part = parted.part; spoke = parted.spoke; is = by parted.part parted.is }
    where
      by : (part : List ℕ) → ((status ≡ n) × (part ≡ text)) ⊎ ((status ≡ 3) × IsFront part text) → ((status ≡ n) × (part ≡ text)) ⊎ (((status ≡ 3) × IsFront part text) ⊎ (((status ≡ 3) ⊎ (status ≡ 7)) × IsFront part no_memory_line))
      by part (inl done) = inl done
      by part (inr front) = inr (inl front)

  pub wanting_told : (text : List ℕ) (n : ℕ) (turns : List Turn) (calls : List DeskCall) (d e : D) (status : ℕ) → Says no_memory_line 7 turns calls status → DeskLed means d calls e → WroteText means text n d e status
  wanting_told text n turns calls d e status says led =
      let parted = line_parted means no_memory_line 7 turns calls d e status says led in
      record { part = parted.part; spoke = parted.spoke; is = by parted.part parted.is }
    where
      by : (part : List ℕ) → ((status ≡ 7) × (part ≡ no_memory_line)) ⊎ ((status ≡ 3) × IsFront part no_memory_line) → ((status ≡ n) × (part ≡ text)) ⊎ (((status ≡ 3) × IsFront part text) ⊎ (((status ≡ 3) ⊎ (status ≡ 7)) × IsFront part no_memory_line))
      by part (inl done) = inr (inr (inr done.0, ([], append-nil part ∙ done.1)))
      by part (inr front) = inr (inr (inl front.0, front.1))

  -- the load failed
  pub failed_told : (text : List ℕ) (n : ℕ) (e : D) (status : ℕ) → status ≡ 3 → WroteText means text n e e status
  failed_told text n e status three = record { part = []; spoke = nothing means e e (λ place. refl); is = inr (inl (three, (text, refl))) }

  -- the lines of a right topology
  module _ (lines : Topology → List (List ℕ)) (name bytes : List ℕ) (t : Topology) (short : length bytes ≤ 1048576) (kept : checked bytes ≡ Ok t) where
    abbrev text : List ℕ
    text = concat (lines t)

    lines_told : (turns : List Turn) (calls : List DeskCall) (d e : D) (status : ℕ) → DoneBy (checked_todo lines (checked bytes)) turns calls status ⊎ Says no_memory_line 7 turns calls status → DeskLed means d calls e → WroteText means text 0 d e status
    lines_told turns calls d e status (inl goes) led =
        all_told text 0 d e status (said_parted (lines t) turns calls d e status (subst (λ r. DoneBy (checked_todo lines r) turns calls status) kept goes) led)
    lines_told turns calls d e status (inr says) led = wanting_told text 0 turns calls d e status says led

    check_told : (turns : List Turn) (calls : List DeskCall) (d e : D) (status : ℕ) → means.holds d name ≡ Some bytes → DoneBy (check lines name) turns calls status → DeskLed means d calls e → WroteText means text 0 d e status
    check_told turns calls d e status told goes led =
        let found = asked _ _ _ (done_with lines) turns means bytes calls status d e (inl told) goes led in
        asked_wrote _ _ _ _ turns means bytes (λ m. WroteText means text 0 m e status) calls status d e short found
        (λ m kept. loaded_told text 0 d m e status kept) (λ later m are. lines_told turns later m e status) (λ later m. wanting_told text 0 turns later m e status) (failed_told text 0 e status)

module _ {D P : Type 0} (means : DeskMeaning D) (old new : D) (todo : Todo) (p q : P) (status : ℕ) (turns : List Turn) (still : turns ≡ [] → q ≡ p) (played : Played means todo old turns status new) where
  -- a file is named, and what was to do is a check
  module _ (lines : Topology → List (List ℕ)) (named : Option (List ℕ)) (only : (name : List ℕ) → named ≡ Some name → todo ≡ check lines name) where
    goes_on : (name : List ℕ) → named ≡ Some name → DoneBy (check lines name) turns played.calls status
    goes_on name is = subst (λ what. DoneBy what turns played.calls status) (only name is) played.goes

    -- nothing was done with the device
    none : (name : List ℕ) → named ≡ Some name → turns ≡ []
    none name is = asked_alone _ _ _ (done_with lines) turns played.calls status (goes_on name is) (λ got later. checked_alone lines (checked got) turns later status)

    untouched : (name : List ℕ) → named ≡ Some name → q ≡ p
    untouched name is = still (none name is)

    judges : (name bytes : List ℕ) → named ≡ Some name → (means.holds old name ≡ Some bytes) ⊎ (heard_in played.calls ≡ Ok bytes ∷ []) → CheckVerdict lines name bytes played.calls status
    judges name bytes is by =
        let found = asked _ _ _ (done_with lines) turns means bytes played.calls status old new by (goes_on name is) played.led in
        judged _ _ _ _ turns means bytes played.calls status old new found
        (λ later is short are. by_bytes lines name bytes are short turns played.calls later status is)

    pub checks_by : Checks means lines named old p played.calls status new q
    checks_by =
        record {
          alone = untouched;
          judged = judges;
          told = λ name bytes t is told short right. check_told means lines name bytes t short (checked_only bytes (Ok t) right) turns played.calls old new status told (goes_on name is) played.led;
        }
