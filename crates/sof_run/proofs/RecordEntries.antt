-- The records that a play leaves, as a trace that a reader takes; and what the desk tells, as what was heard.
use Rattle.std.proofs.Common.{◌≡◌, inl, inr, ℕ, true, false, List, [], ◌∷◌, ◌++◌, Some, None, MatchOption, Ok, Err, sym, ap, ◌∙◌, subst, codes}
use Rattle.std.specs.List.{AllByRecursion}
use Rattle.sof_desk.specs.declared.calls.LoadFault.TheVariants.{Failed, TooLong, OutOfMemory}
use Rattle.sof_desk.specs.Desk.{DeskMeaning, Heard, DeskCall, Load, Did, Read, DeskLed, Loaded}
use Rattle.mbox_link.specs.Calls.{Meaning}
use Rattle.ipc3_trace.specs.declared.entry.Entry.{Entry}
use Rattle.ipc3_trace.specs.Records.{IsEntry, records_bytes}
use Rattle.ipc3_trace.specs.WholeTraces.{IsTraceOf}
use Rattle.ipc3_trace.proofs.WholeLaws.{written-stand}
use Rattle.sof_script.specs.declared.script.Command.{Command}
use Rattle.sof_session.specs.Lives.{Life, Bare, Seated, Turned, Turns}
use Rattle.sof_script.specs.Tasks.{Out, Task, Begin, Carry, Turn}
use Rattle.run_words.specs.Words.{Form}
use Rattle.run_play.specs.Keeping.{LeftBy, TurnLeft, TurnsLeft}
use Rattle.run_desk.specs.Lines.{no_memory_line}
use Rattle.run_desk.specs.Todo.{Todo, End, Stop, Ask, Do, Step, Refill, Send, Free, Says, Over, DoneBy}
use Rattle.run_desk.specs.DeskCalls.{answer_in, heard_in}
use Rattle.run_desk.specs.Prepared.{prepared}
use Rattle.run_play.specs.Play.{prepared_todo, play}
use Rattle.run_desk.specs.Throughout.{Throughout}
use Rattle.run_desk.proofs.LoadedBytes.{heard_behind}
use Rattle.run_play.proofs.MetRuns.{all_records}
use Rattle.sof_run.proofs.Throughout.{prepared_all}

-- ---- a reader takes the records

all_append : (es fs : List Entry) → AllByRecursion IsEntry es → AllByRecursion IsEntry fs → AllByRecursion IsEntry (es ++ fs)
all_append [] fs are others = others
all_append (e ∷ es) fs are others = (are.0, all_append es fs are.1 others)

left_each : {P : Type 0} (means : Meaning P) (command : Command) (out : Out) (old new : Life P) (turned : Turned means (Carry command) out old new) (es : List Entry) → LeftBy means command out old new turned es → AllByRecursion IsEntry es
left_each means command out (Bare p) new turned es left = absurd left
left_each means command out (Seated seat inputs slots) (Bare q) turned es left = absurd left
left_each means command out (Seated seat inputs slots) (Seated seat' inputs' slots') turned es left = left.each

pub records-each : {P : Type 0} (means : Meaning P) (turns : List Turn) (p q : Life P) (turned : Turns means p turns q) (records : List (List Entry)) → TurnsLeft means p turns q turned records → AllByRecursion IsEntry (all_records records)
records-each means [] p q turned records kept = subst (λ (rs : List (List Entry)). AllByRecursion IsEntry (all_records rs)) (sym kept) tt
records-each means (turn ∷ turns) p q turned records kept = by (λ rs left. records-each means turns turned.0 q turned.2 rs left) turn.task turned.1 records kept
  where
    by : ((rs : List (List Entry)) → TurnsLeft means turned.0 turns q turned.2 rs → AllByRecursion IsEntry (all_records rs)) → (task : Task) (step : Turned means task turn.out p turned.0) (rs : List (List Entry)) →
        TurnLeft means task turn.out p turned.0 step rs (λ rest. TurnsLeft means turned.0 turns q turned.2 rest) → AllByRecursion IsEntry (all_records rs)
    by later (Carry command) step [] left = absurd left
    by later (Carry command) step (es ∷ rest) left = all_append es (all_records rest) (left_each means command turn.out p turned.0 step es left.0) (later rest left.1)
    by later (Begin on_use plan heap inputs slots) step rs left = later rs left
    by later task step rs left = later rs left

-- what was written is a trace of them
pub trace-written : (bytes : List ℕ) (es : List Entry) → bytes ≡ records_bytes es → AllByRecursion IsEntry es → IsTraceOf bytes es None
trace-written bytes es is each = subst (λ (b : List ℕ). IsTraceOf b es None) (sym is) (written-stand es each)

-- ---- what is stated was read, where the status is 0

abbrev AnyStatus : ℕ → Type 0
AnyStatus n = Unit {0}

said_unheard : (line : List ℕ) (n : ℕ) (turns : List Turn) (calls : List DeskCall) (status : ℕ) → Says line n turns calls status → heard_in calls ≡ []
said_unheard line n turns [] status says = absurd says
said_unheard line n turns (Load name limit heard ∷ calls) status says = absurd says
said_unheard line n turns (Read slot size got ∷ calls) status says = absurd says
said_unheard line n turns (Did act done ∷ calls) status says = ap heard_in says.2

-- what loads nothing hears nothing
unheard : (todo : Todo) (turns : List Turn) (calls : List DeskCall) (status : ℕ) → DoneBy todo turns calls status → Throughout AnyStatus (λ name. ⊥) todo → heard_in calls ≡ []
unheard End turns calls status goes none = ap heard_in goes.1
unheard (Stop line n) turns calls status goes none = said_unheard line n turns calls status goes
unheard (Ask name limit line next) turns calls status goes none = absurd none.0
unheard (Do act next) turns [] status goes none = absurd goes
unheard (Do act next) turns (Load n l heard ∷ calls) status goes none = absurd goes
unheard (Do act next) turns (Read n size got ∷ calls) status goes none = absurd goes
unheard (Do act next) turns (Did a true ∷ calls) status goes none = unheard next turns calls status goes.1 none
unheard (Do act next) turns (Did a false ∷ calls) status goes none = ap heard_in goes.1.1
unheard (Step task next) (turn ∷ turns) calls status goes none = unheard (next turn.out) turns calls status goes.1 (none turn.out)
unheard (Refill next) (turn ∷ turns) calls status goes none =
    let f = goes.0 in
    let later : heard_in f.later ≡ [] =
    (elim f.failed as (λ failed. MatchOption failed (DoneBy next turns f.later status) (λ slot. Over 3 turns f.later status) → heard_in f.later ≡ []) [
      | None ↦ λ done. unheard next turns f.later status done none
      | Some slot ↦ λ over. ap heard_in over.1
    ]) goes.1 in
    ap heard_in f.calls_are ∙ heard_behind f.reads f.failed f.later ∙ later
unheard (Send message next) (turn ∷ turns) calls status goes none = unheard (next (answer_in turn.task)) turns calls status goes.1 (none (answer_in turn.task))
unheard (Free next) turns calls status (inl goes) none = unheard next turns calls status goes none.1
unheard (Free next) turns calls status (inr says) none = said_unheard no_memory_line 7 turns calls status says
unheard todo [] calls status goes none = absurd goes

not_said : (line : List ℕ) (n : ℕ) (turns : List Turn) (calls : List DeskCall) → Says line n turns calls 0 → (n ≡ 0 → ⊥) → ⊥
not_said line n turns [] says other = says
not_said line n turns (Load name limit heard ∷ calls) says other = says
not_said line n turns (Read slot size got ∷ calls) says other = says
not_said line n turns (Did act true ∷ calls) says other = other (sym says.3)
not_said line n turns (Did act false ∷ calls) says other = cc says.3

module _ {D : Type 0} (means : DeskMeaning D) (turns : List Turn) where
  -- the load of a file whose bytes are stated brought them
  record Brought (next : Todo) (bytes : List ℕ) (calls : List DeskCall) (d e : D) : Type 0 where
    later : List DeskCall
    mid : D
    heard : heard_in calls ≡ Ok bytes ∷ heard_in later
    goes : DoneBy next turns later 0
    led : DeskLed means mid later e
    holds : (name : List ℕ) → means.holds mid name ≡ means.holds d name

  brought : (name line bytes : List ℕ) (limit : ℕ) (next : List ℕ → Todo) (calls : List DeskCall) (d e : D) → means.holds d name ≡ Some bytes → DoneBy (Ask name limit line next) turns calls 0 → DeskLed means d calls e → Brought (next bytes) bytes calls d e
  brought name line bytes limit next [] d e told goes led = absurd goes
  brought name line bytes limit next (Did act done ∷ calls) d e told goes led = absurd goes
  brought name line bytes limit next (Read n size got ∷ calls) d e told goes led = absurd goes
  brought name line bytes limit next (Load n l (Ok got) ∷ calls) d e told goes led =
      let loaded : Loaded means n l (Ok got) d led.0 = led.1 in
      let same : got ≡ bytes = loaded.answers.1 bytes (ap (means.holds d) goes.0 ∙ told) in
      record {
        later = calls;
        mid = led.0;
        heard = ap (λ (bs : List ℕ). Ok bs ∷ heard_in calls) same;
        goes = subst (λ (bs : List ℕ). DoneBy (next bs) turns calls 0) same goes.2;
        led = led.2;
        holds = loaded.kept.holds;
      }
  brought name line bytes limit next (Load n l (Err TooLong) ∷ calls) d e told goes led = absurd (not_said line 5 turns calls goes.2 (λ five. cc five))
  brought name line bytes limit next (Load n l (Err OutOfMemory) ∷ calls) d e told goes led = absurd (not_said no_memory_line 7 turns calls goes.2 (λ seven. cc seven))
  brought name line bytes limit next (Load n l (Err Failed) ∷ calls) d e told goes led = absurd (cc goes.2.2)

  pub told_heard : (form : Form) (topology script : List ℕ) (calls : List DeskCall) (d e : D) → means.holds d form.topology ≡ Some topology → means.holds d form.script ≡ Some script → DoneBy (play form) turns calls 0 → DeskLed means d calls e → heard_in calls ≡ Ok topology ∷ Ok script ∷ []
  told_heard form topology script calls d e first second goes led =
      let behind : List ℕ → List ℕ → Todo = λ xs ys. Free (prepared_todo form.on_use form.heap form.trace (prepared xs ys)) in
      let a = brought form.topology (codes "too long topology\n") topology 1048576 (λ xs. Ask form.script 1048576 (codes "too long script\n") (behind xs)) calls d e first goes led in
      let b = brought form.script (codes "too long script\n") script 1048576 (behind topology) a.later a.mid e (a.holds form.script ∙ second) a.goes a.led in
      let none : heard_in b.later ≡ [] = unheard (behind topology script) turns b.later 0 b.goes (tt, prepared_all AnyStatus (λ name. ⊥) form.on_use form.heap form.trace (prepared topology script) tt tt tt tt tt) in
      a.heard ∙ ap (λ (hs : List Heard). Ok topology ∷ hs) (b.heard ∙ ap (λ (hs : List Heard). Ok script ∷ hs) none)
