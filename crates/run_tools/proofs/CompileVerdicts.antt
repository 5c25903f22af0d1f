-- What `compile` ensures, from what it did.
use Rattle.std.proofs.Common.{◌≡◌, ◌⊎◌, inl, inr, ℕ, nat_eq, ◌≤◌, Bool, true, false, List, [], ◌∷◌, length, Option, Some, None, Result, Ok, Err, refl, sym, ◌∙◌, ap, subst, if◌then◌else◌}
use Rattle.sof_desk.specs.declared.calls.LoadFault.TheVariants.{OutOfMemory}
use Rattle.sof_desk.specs.Desk.{DeskMeaning, DeskPlace, Slot, Spoken, DeskAct, Create, Put, DeskCall, Load, Did, Read, DeskLed, Acted, Part, Takes, with_more, with_nothing, written_after}
use Rattle.sof_script.specs.Tasks.{Turn}
use Rattle.tplg_model.specs.declared.block.Topology.{Topology}
use Rattle.tplg_model.specs.File.{IsTopology, spelling}
use Rattle.tplg_model.proofs.FileLaws.{IsFileOf-spelling}
use Rattle.tplg_compile.specs.declared.source_fault.SourceFault.{SourceFault}
use Rattle.tplg_compile.specs.declared.source_fault.SourceFault.TheVariants as fault
use Rattle.tplg_compile.specs.Compiled.{IsCompileFault}
use Rattle.tplg_compile.specs.InOrder.{compiled_of}
use Rattle.tplg_compile.proofs.CompileLaws.{compiled_take, compiled_again, text_fault_take}
use Rattle.run_desk.specs.Todo.{Todo, End, Do, Says, DoneBy, Played, Free}
use Rattle.run_desk.specs.Lines.{no_memory_line, with_newline}
use Rattle.run_desk.specs.LinesTodo.{lines_todo}
use Rattle.run_words.specs.ToolForms.{CompileNames, compile_of}
use Rattle.run_tools.specs.Compiling.{source_line, source_status, wrote_line}
use Rattle.run_tools.specs.CompileTodo.{file_todo, compiled_todo, compile, MakesTopology}
use Rattle.run_words.specs.Requests.{Request, Compile, request_of}
use Rattle.run_desk.specs.DeskCalls.{heard_in, saying}
use Rattle.run_desk.specs.SaidText.{Spoke, IsFront}
use Rattle.run_tools.specs.Compiles.{making, CompileVerdict, compiled_at, MadeFile, WroteFile, Compiles}
use Rattle.run_words.proofs.Requests.{compile_asked}
use Rattle.run_desk.proofs.Steps.{no_turns}
use Rattle.run_desk.proofs.SaidLines.{said, none_more, nothing, behind, line_parted}
use Rattle.run_desk.proofs.AskedFiles.{unless_cut, where_free, asked_alone, asked, judged, asked_wrote}

-- what is to do with the bytes
abbrev done_with : CompileNames → List ℕ → Todo
done_with names bytes = Free (compiled_todo names.out (compiled_of bytes))

-- ---- the device

act_alone : (act : DeskAct) (next : Todo) (turns : List Turn) (calls : List DeskCall) (status : ℕ) → ((cs : List DeskCall) → DoneBy next turns cs status → turns ≡ []) → DoneBy (Do act next) turns calls status → turns ≡ []
act_alone act next turns [] status alone goes = absurd goes
act_alone act next turns (Load name limit heard ∷ calls) status alone goes = absurd goes
act_alone act next turns (Read n size got ∷ calls) status alone goes = absurd goes
act_alone act next turns (Did a true ∷ calls) status alone goes = alone calls goes.1
act_alone act next turns (Did a false ∷ calls) status alone goes = goes.1.0

pub file_alone : (out bytes : List ℕ) (turns : List Turn) (calls : List DeskCall) (status : ℕ) → DoneBy (file_todo out bytes End) turns calls status → turns ≡ []
file_alone out bytes turns calls status goes =
    act_alone (Create 0 out) (Do (Put (Slot 0) bytes) (lines_todo (wrote_line bytes ∷ []) End)) turns calls status
    (λ cs. act_alone (Put (Slot 0) bytes) (lines_todo (wrote_line bytes ∷ []) End) turns cs status
    (λ ds. act_alone (Put Spoken (with_newline (wrote_line bytes))) End turns ds status (λ es over. over.0)))
    goes

compiled_alone : (out : List ℕ) (r : Result Topology SourceFault) (turns : List Turn) (calls : List DeskCall) (status : ℕ) → DoneBy (compiled_todo out r) turns calls status ⊎ Says no_memory_line 7 turns calls status → turns ≡ []
compiled_alone out (Ok t) turns calls status (inl goes) = file_alone out (spelling t) turns calls status goes
compiled_alone out (Err f) turns calls status (inl goes) = no_turns (source_line f) (source_status f) turns calls status goes
compiled_alone out r turns calls status (inr says) = no_turns no_memory_line 7 turns calls status says

-- ---- the status

-- a file that was made, or not all of it was
pub file_made : (out bytes : List ℕ) (turns : List Turn) (calls : List DeskCall) (status : ℕ) → DoneBy (file_todo out bytes End) turns calls status → (status ≡ 3) ⊎ ((status ≡ 0) × (calls ≡ making out bytes))
file_made out bytes turns [] status goes = absurd goes
file_made out bytes turns (Load n l h ∷ calls) status goes = absurd goes
file_made out bytes turns (Read n size got ∷ calls) status goes = absurd goes
file_made out bytes turns (Did a false ∷ calls) status goes = inl goes.1.2
file_made out bytes turns (Did a true ∷ []) status goes = absurd goes.1
file_made out bytes turns (Did a true ∷ Load n l h ∷ calls) status goes = absurd goes.1
file_made out bytes turns (Did a true ∷ Read n size got ∷ calls) status goes = absurd goes.1
file_made out bytes turns (Did a true ∷ Did b false ∷ calls) status goes = inl goes.1.1.2
file_made out bytes turns (Did a true ∷ Did b true ∷ []) status goes = absurd goes.1.1
file_made out bytes turns (Did a true ∷ Did b true ∷ Load n l h ∷ calls) status goes = absurd goes.1.1
file_made out bytes turns (Did a true ∷ Did b true ∷ Read n size got ∷ calls) status goes = absurd goes.1.1
file_made out bytes turns (Did a true ∷ Did b true ∷ Did c false ∷ calls) status goes = inl goes.1.1.1.2
file_made out bytes turns (Did a true ∷ Did b true ∷ Did c true ∷ calls) status goes =
    inr (goes.1.1.1.2, λ i. Did (goes.0 i) true ∷ Did (goes.1.0 i) true ∷ Did (goes.1.1.0 i) true ∷ goes.1.1.1.1 i)

-- by the bytes of the source
module _ (names : CompileNames) (text : List ℕ) (short : length text ≤ 1048576) (turns : List Turn) (calls later : List DeskCall) (status : ℕ) (loads : calls ≡ Load names.source 1048576 (Ok text) ∷ later) where
  all : (made : List DeskCall) → later ≡ made → calls ≡ Load names.source 1048576 (Ok text) ∷ made
  all made same = loads ∙ ap (λ cs. Load names.source 1048576 (Ok text) ∷ cs) same

  -- why it is refused is reported with status 4
  refused : (f : SourceFault) → source_status f ≡ 4 → IsCompileFault text f → Says (source_line f) (source_status f) turns later status → CompileVerdict names text calls status
  refused f four is says = unless_cut status (said (source_line f) (source_status f) turns later status says) (λ done. inr (inl (f, done.0 ∙ four, short, is, all (saying (source_line f) ∷ []) done.1)))

  by_end : (r : Result Topology SourceFault) → compiled_of text ≡ r → DoneBy (compiled_todo names.out r) turns later status → CompileVerdict names text calls status
  by_end (Ok t) is goes =
      unless_cut status (file_made names.out (spelling t) turns later status goes) (λ done. inr (inr (done.0, short, (t, compiled_take text t is, all (making names.out (spelling t)) done.1))))
  by_end (Err fault.Syntax) is goes = refused fault.Syntax refl (text_fault_take text fault.Syntax is) goes
  by_end (Err (fault.Shape list entry)) is goes = refused (fault.Shape list entry) refl (text_fault_take text (fault.Shape list entry) is) goes
  by_end (Err (fault.Rule rule item)) is goes = refused (fault.Rule rule item) refl (text_fault_take text (fault.Rule rule item) is) goes
  by_end (Err fault.OutOfMemory) is goes = absurd (text_fault_take text fault.OutOfMemory is)

  by_bytes : DoneBy (compiled_todo names.out (compiled_of text)) turns later status ⊎ Says no_memory_line 7 turns later status → CompileVerdict names text calls status
  by_bytes goes = where_free turns later status goes (by_end (compiled_of text) refl)

-- ---- what was written

-- bytes that stand in slot 0 after it was created and they were appended
appended_at : (out part piece : List ℕ) (done : Bool) (place : DeskPlace) (o w v : Option (List ℕ)) → w ≡ written_after (Create 0 out) true [] place o → v ≡ written_after (Put (Slot 0) piece) done part place w → v ≡ compiled_at part [] place o
appended_at out part piece done Spoken o w v one two = none_more true o v (two ∙ one)
appended_at out part piece done (Slot n) o w v one two = by (nat_eq 0 n) one two
  where
    by : (b : Bool) → w ≡ (if b then with_nothing o else o) → v ≡ (if b then with_more w part else w) → v ≡ (if b then with_more (with_nothing o) part else o)
    by true one two = two ∙ ap (λ x. with_more x part) one
    by false one two = two ∙ one

-- and those that are said after that
said_at : (file part line : List ℕ) (done : Bool) (place : DeskPlace) (o v x : Option (List ℕ)) → v ≡ compiled_at file [] place o → x ≡ written_after (Put Spoken line) done part place v → x ≡ compiled_at file part place o
said_at file part line done Spoken None v x one two = two ∙ ap (λ y. with_more y part) one
said_at file part line done Spoken (Some was) v x one two = two ∙ ap (λ y. with_more y part) (one ∙ sym (none_more true (Some was) (Some was) refl))
said_at file part line done (Slot n) o v x one two = two ∙ one

module _ {D : Type 0} (means : DeskMeaning D) where
  -- the first acts of a file, and what stands then
  module _ (out bytes : List ℕ) where
    abbrev count_said : List ℕ
    count_said = with_newline (wrote_line bytes)

    not_created : (a : DeskAct) (d m : D) → a ≡ Create 0 out → Acted means a false d m → Spoke means [] d m
    not_created a d m is acted =
        nothing means d m (λ place. acted.wrote place ∙ ap (λ x. written_after x false acted.part place (means.wrote d place)) is)

    appended : (a b : DeskAct) (done : Bool) (d m k : D) → a ≡ Create 0 out → b ≡ Put (Slot 0) bytes → Acted means a true d m → (put : Acted means b done m k) → MadeFile means put.part [] d k
    appended a b done d m k is_a is_b created put place =
        appended_at out put.part bytes done place (means.wrote d place) (means.wrote m place) (means.wrote k place)
        (created.wrote place ∙ ap (λ x. written_after x true created.part place (means.wrote d place)) is_a)
        (put.wrote place ∙ ap (λ x. written_after x done put.part place (means.wrote m place)) is_b)

    spoken : (c : DeskAct) (done : Bool) (d k e : D) → c ≡ Put Spoken count_said → MadeFile means bytes [] d k → (say : Acted means c done k e) → MadeFile means bytes say.part d e
    spoken c done d k e is_c made say place =
        said_at bytes say.part count_said done place (means.wrote d place) (means.wrote k place) (means.wrote e place) (made place)
        (say.wrote place ∙ ap (λ x. written_after x done say.part place (means.wrote k place)) is_c)

    part_of : (b : DeskAct) (done : Bool) (to : DeskPlace) (piece part : List ℕ) → b ≡ Put to piece → Takes b done part → Part done part piece
    part_of b done to piece part is takes = subst (λ a. Takes a done part) is takes

    pub file_wrote : (turns : List Turn) (calls : List DeskCall) (d e : D) (status : ℕ) → DoneBy (file_todo out bytes End) turns calls status → DeskLed means d calls e → WroteFile means bytes count_said d e status
    file_wrote turns [] d e status goes led = absurd goes
    file_wrote turns (Load n l h ∷ calls) d e status goes led = absurd goes
    file_wrote turns (Read n size got ∷ calls) d e status goes led = absurd goes
    file_wrote turns (Did a false ∷ calls) d e status goes led =
        let same : e ≡ led.0 = subst (λ cs. DeskLed means led.0 cs e) goes.1.1 led.2 in
        inr (inr (inr (inr (goes.1.2, ([], (no_memory_line, refl), subst (λ x. Spoke means [] d x) (sym same) (not_created a d led.0 goes.0 led.1))))))
    file_wrote turns (Did a true ∷ []) d e status goes led = absurd goes.1
    file_wrote turns (Did a true ∷ Load n l h ∷ calls) d e status goes led = absurd goes.1
    file_wrote turns (Did a true ∷ Read n size got ∷ calls) d e status goes led = absurd goes.1
    file_wrote turns (Did a true ∷ Did b false ∷ calls) d e status goes led =
        let put : Acted means b false led.0 led.2.0 = led.2.1 in
        let same : e ≡ led.2.0 = subst (λ cs. DeskLed means led.2.0 cs e) goes.1.1.1 led.2.2 in
        inr (inl (goes.1.1.2, (put.part, part_of b false (Slot 0) bytes put.part goes.1.0 put.takes, subst (λ x. MadeFile means put.part [] d x) (sym same) (appended a b false d led.0 led.2.0 goes.0 goes.1.0 led.1 put))))
    file_wrote turns (Did a true ∷ Did b true ∷ []) d e status goes led = absurd goes.1.1
    file_wrote turns (Did a true ∷ Did b true ∷ Load n l h ∷ calls) d e status goes led = absurd goes.1.1
    file_wrote turns (Did a true ∷ Did b true ∷ Read n size got ∷ calls) d e status goes led = absurd goes.1.1
    file_wrote turns (Did a true ∷ Did b true ∷ Did c done ∷ calls) d e status goes led =
        let put : Acted means b true led.0 led.2.0 = led.2.1 in
        let whole : put.part ≡ bytes = part_of b true (Slot 0) bytes put.part goes.1.0 put.takes in
        let made : MadeFile means bytes [] d led.2.0 = subst (λ part. MadeFile means part [] d led.2.0) whole (appended a b true d led.0 led.2.0 goes.0 goes.1.0 led.1 put) in
        line_wrote c done turns calls d led.2.0 e status goes.1.1 made led.2.2
      where
        line_wrote : (c : DeskAct) (done : Bool) (turns : List Turn) (calls : List DeskCall) (d k e : D) (status : ℕ) → DoneBy (Do (Put Spoken count_said) End) turns (Did c done ∷ calls) status → MadeFile means bytes [] d k → DeskLed means k (Did c done ∷ calls) e → WroteFile means bytes count_said d e status
        line_wrote c true turns calls d k e status goes made led =
            let say : Acted means c true k led.0 = led.1 in
            let same : e ≡ led.0 = subst (λ cs. DeskLed means led.0 cs e) goes.1.1 led.2 in
            let whole : say.part ≡ count_said = part_of c true Spoken count_said say.part goes.0 say.takes in
            inl (goes.1.2, subst (λ x. MadeFile means bytes count_said d x) (sym same) (subst (λ part. MadeFile means bytes part d led.0) whole (spoken c true d k led.0 goes.0 made say)))
        line_wrote c false turns calls d k e status goes made led =
            let say : Acted means c false k led.0 = led.1 in
            let same : e ≡ led.0 = subst (λ cs. DeskLed means led.0 cs e) goes.1.1 led.2 in
            inr (inr (inl (goes.1.2, (say.part, part_of c false Spoken count_said say.part goes.0 say.takes, subst (λ x. MadeFile means bytes say.part d x) (sym same) (spoken c false d k led.0 goes.0 made say)))))

  -- after a load, which writes nothing
  pub loaded_wrote : (bytes line : List ℕ) (d m e : D) (status : ℕ) → ((place : DeskPlace) → means.wrote m place ≡ means.wrote d place) → WroteFile means bytes line m e status → WroteFile means bytes line d e status
  loaded_wrote bytes line d m e status kept (inl done) = inl (done.0, λ place. done.1 place ∙ ap (compiled_at bytes line place) (kept place))
  loaded_wrote bytes line d m e status kept (inr (inl front)) = inr (inl (front.0, (front.1.0, front.1.1, λ place. front.1.2 place ∙ ap (compiled_at front.1.0 [] place) (kept place))))
  loaded_wrote bytes line d m e status kept (inr (inr (inl front))) = inr (inr (inl (front.0, (front.1.0, front.1.1, λ place. front.1.2 place ∙ ap (compiled_at bytes front.1.0 place) (kept place)))))
  loaded_wrote bytes line d m e status kept (inr (inr (inr (inl wanted)))) = inr (inr (inr (inl (wanted.0, after no_memory_line wanted.1))))
    where
      after : (part : List ℕ) → Spoke means part m e → Spoke means part d e
      after part spoke = behind means [] part d m e (nothing means d m kept) spoke
  loaded_wrote bytes line d m e status kept (inr (inr (inr (inr front)))) = inr (inr (inr (inr (front.0, (front.1.0, front.1.1, behind means [] front.1.0 d m e (nothing means d m kept) front.1.2)))))

  pub wanting_wrote : (bytes line : List ℕ) (turns : List Turn) (calls : List DeskCall) (d e : D) (status : ℕ) → Says no_memory_line 7 turns calls status → DeskLed means d calls e → WroteFile means bytes line d e status
  wanting_wrote bytes line turns calls d e status says led =
      let parted = line_parted means no_memory_line 7 turns calls d e status says led in
      by parted.part parted.spoke parted.is
    where
      by : (part : List ℕ) → Spoke means part d e → ((status ≡ 7) × (part ≡ no_memory_line)) ⊎ ((status ≡ 3) × IsFront part no_memory_line) → WroteFile means bytes line d e status
      by part spoke (inl done) = inr (inr (inr (inl (done.0, subst (λ xs. Spoke means xs d e) done.1 spoke))))
      by part spoke (inr front) = inr (inr (inr (inr (front.0, (part, front.1, spoke)))))

  -- the load failed
  pub failed_wrote : (bytes line : List ℕ) (e : D) (status : ℕ) → status ≡ 3 → WroteFile means bytes line e e status
  failed_wrote bytes line e status three = inr (inr (inr (inr (three, ([], (no_memory_line, refl), nothing means e e (λ place. refl))))))

  -- the file of a source's topology
  module _ (names : CompileNames) (text : List ℕ) (t : Topology) (short : length text ≤ 1048576) (kept : compiled_of text ≡ Ok t) where
    abbrev written : List ℕ
    written = spelling t

    abbrev last : List ℕ
    last = with_newline (wrote_line (spelling t))

    compiled_wrote : (turns : List Turn) (calls : List DeskCall) (d e : D) (status : ℕ) → DoneBy (compiled_todo names.out (compiled_of text)) turns calls status ⊎ Says no_memory_line 7 turns calls status → DeskLed means d calls e → WroteFile means written last d e status
    compiled_wrote turns calls d e status (inl goes) led =
        file_wrote names.out written turns calls d e status (subst (λ r. DoneBy (compiled_todo names.out r) turns calls status) kept goes) led
    compiled_wrote turns calls d e status (inr says) led = wanting_wrote written last turns calls d e status says led

    compile_wrote : (turns : List Turn) (calls : List DeskCall) (d e : D) (status : ℕ) → means.holds d names.source ≡ Some text → DoneBy (compile names) turns calls status → DeskLed means d calls e → WroteFile means written last d e status
    compile_wrote turns calls d e status told goes led =
        let found = asked _ _ _ (done_with names) turns means text calls status d e (inl told) goes led in
        asked_wrote _ _ _ _ turns means text (λ m. WroteFile means written last m e status) calls status d e short found
        (λ m kept. loaded_wrote written last d m e status kept) (λ later m are. compiled_wrote turns later m e status) (λ later m. wanting_wrote written last turns later m e status) (failed_wrote written last e status)

-- ---- what was made is a topology, by what the words ask for

module _ {D : Type 0} (means : DeskMeaning D) (room : ℕ) (words : List (List ℕ)) (old : D) (status : ℕ) where
  pub other_makes : (r : Option Request) → request_of room words ≡ r → ((names : CompileNames) → r ≡ Some (Compile names) → ⊥) → MakesTopology means words old status
  other_makes r is other = λ names text t source got zero. absurd (other names (sym is ∙ compile_asked room words names source.named))

  pub compile_makes : (names : CompileNames) → request_of room words ≡ Some (Compile names) → (status ≡ 0 → (text : List ℕ) (t : Topology) → means.holds old names.source ≡ Some text → compiled_of text ≡ Ok t → IsTopology t) → MakesTopology means words old status
  compile_makes names is sound = λ others text t source got zero.
      let same : others ≡ names = cc (sym (compile_asked room words others source.named) ∙ is) in
      sound zero text t (ap (λ (n : CompileNames). means.holds old n.source) (sym same) ∙ source.told) got

module _ {D P : Type 0} (means : DeskMeaning D) (words : List (List ℕ)) (old new : D) (todo : Todo) (p q : P) (status : ℕ) (turns : List Turn) (still : turns ≡ [] → q ≡ p) (played : Played means todo old turns status new) (makes : MakesTopology means words old status)
    (only : (names : CompileNames) → compile_of words ≡ Some names → todo ≡ compile names) where
  -- what it did is that of compiling
  goes_on : (names : CompileNames) → compile_of words ≡ Some names → DoneBy (compile names) turns played.calls status
  goes_on names is = subst (λ what. DoneBy what turns played.calls status) (only names is) played.goes

  untouched : (names : CompileNames) → compile_of words ≡ Some names → q ≡ p
  untouched names is = still (asked_alone _ _ _ (done_with names) turns played.calls status (goes_on names is) (λ got later. compiled_alone names.out (compiled_of got) turns later status))

  judges : (names : CompileNames) (text : List ℕ) → compile_of words ≡ Some names → (means.holds old names.source ≡ Some text) ⊎ (heard_in played.calls ≡ Ok text ∷ []) → CompileVerdict names text played.calls status
  judges names text named by =
      judged _ _ _ _ turns means text played.calls status old new (asked _ _ _ (done_with names) turns means text played.calls status old new by (goes_on names named) played.led)
      (λ later is short are. by_bytes names text short turns played.calls later status is)

  pub compiles : Compiles means words old p played.calls status new q
  compiles =
      record {
        alone = untouched;
        judged = judges;
        wrote = λ names text t named told short is. compile_wrote means names text t short (compiled_again text t is) turns played.calls old new status told (goes_on names named) played.led;
        reads_back = λ names text t named told is done. (makes names text t (record { named = named; told = told }) (compiled_again text t is) done, IsFileOf-spelling t);
      }
