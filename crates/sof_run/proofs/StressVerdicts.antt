-- What `stress` ensures, from what it did.
use Rattle.std.proofs.Common.{◌≡◌, ◌⊎◌, inl, inr, ℕ, ◌≤◌, List, [], ◌∷◌, ◌++◌, map, Option, Some, None, sym, ◌∙◌, ap, subst}
use Rattle.std.specs.List.{concat}
use Rattle.std.proofs.lemmas.List.{append-nil}
use Rattle.sof_desk.specs.Desk.{DeskMeaning, Spoken, Slot, DeskCall, DeskLed}
use Rattle.mbox_link.specs.Calls.{Meaning}
use Rattle.tplg_plan.specs.Sound.{IsSound}
use Rattle.stream_law.specs.Past.{Moment}
use Rattle.host_widgets.specs.declared.kept.Record.{Record}
use Rattle.sof_session.specs.Commands.{Known}
use Rattle.sof_script.specs.Tasks.{Out, Turn}
use Rattle.sof_session.specs.Written.{Ground, At, first_at, end_of, moments_of, basis_of}
use Rattle.sof_session.specs.Lives.{Life, Bare, Seated, Turns}
use Rattle.sof_session.specs.Modes.{made_at_load}
use Rattle.sof_session.specs.RunOver.{EndsAt}
use Rattle.sof_stress.specs.declared.counts.Counts.{Counts}
use Rattle.sof_stress.specs.Draws.{stream_count}
use Rattle.sof_stress.specs.StressPorts.{dai_slot}
use Rattle.sof_stress.specs.CommandTurns.{CommandTurn, turn_counted, all_counted, no_counts}
use Rattle.sof_stress.specs.CarriedTurns.{tasks_of}
use Rattle.sof_stress.specs.GraphParts.{stress_plan}
use Rattle.sof_stress.specs.StressRun.{sent_in, stress_begins, stress_counts, stress_ground, stress_turns}
use Rattle.sof_stress.proofs.StressOver.{stress-over}
use Rattle.run_desk.specs.Lines.{no_memory_line, with_newline}
use Rattle.run_desk.specs.Todo.{Todo, Says, DoneBy}
use Rattle.run_play.specs.Plays.{Unbegun}
use Rattle.run_desk.specs.SaidText.{IsFront}
use Rattle.run_words.specs.ToolForms.{stress_of}
use Rattle.sof_run.specs.Stressing.{stress_lines}
use Rattle.sof_run.specs.StressTodo.{counted_todo, told_todo, stress}
use Rattle.sof_run.specs.Stresses.{stress_text, StressRan, StressesWhole}
use Rattle.ipc3_trace.specs.declared.entry.Entry.{Entry}
use Rattle.run_play.specs.Keeping.{recorded_turns, KeptRecords}
use Rattle.run_words.specs.Requests.{Stress}
use Rattle.sof_run.specs.Forms.{todo_for, todo_of, GaveSent}
use Rattle.run_words.proofs.Requests.{stress_most, stress_asked, none_kept}
use Rattle.run_desk.proofs.Steps.{no_turns}
use Rattle.run_desk.proofs.SaidLines.{line_parted}
use Rattle.run_tools.proofs.CheckVerdicts.{lines_parted}
use Rattle.run_desk.proofs.LinePhases.{lines_turnless}

-- ---- the words

stress_alone : (room sent : ℕ) (words : List (List ℕ)) (seed : ℕ) → stress_of words ≡ Some seed → todo_of room sent words ≡ stress room sent seed
stress_alone room sent words seed is = ap (todo_for room sent) (stress_asked room words seed is)

-- ---- the turns

-- turns were made and counted, and then what is next was done
counted_off : (slot : ℕ) (todo : List CommandTurn) (counts : Counts) (next : Counts → Todo) (turns : List Turn) (calls : List DeskCall) (status : ℕ) →
    ((c : Counts) (ts : List Turn) (cs : List DeskCall) (n : ℕ) → DoneBy (next c) ts cs n → ts ≡ []) → DoneBy (counted_todo slot todo counts next) turns calls status →
    (map (λ (turn : Turn). turn.task) turns ≡ tasks_of todo) × DoneBy (next (all_counted slot todo (map (λ (turn : Turn). turn.out) turns) counts)) [] calls status
counted_off slot [] counts next turns calls status none goes =
    let is : turns ≡ [] = none counts turns calls status goes in
    (ap (map (λ (turn : Turn). turn.task)) is, subst (λ ts. DoneBy (next counts) ts calls status) is goes)
counted_off slot (t ∷ todo) counts next [] calls status none goes = absurd goes
counted_off slot (t ∷ todo) counts next (turn ∷ turns) calls status none goes =
    let others = counted_off slot todo (turn_counted slot t turn.out counts) next turns calls status none goes.1 in
    ((λ i. goes.0 i ∷ others.0 i), others.1)

-- ---- the run

-- a session at the end of a run has sent what the run says
sent_at : {P : Type 0} (dsp : Meaning P) (g : Ground) (life : Life P) (moments : List Moment) (at : At Record) → EndsAt dsp made_at_load g life moments at → sent_in life ≡ at.known.queue.sent
sent_at dsp g (Bare p) moments at ends = absurd ends
sent_at dsp g (Seated seat inputs slots) moments at ends = ap (λ (k : Known Record). k.queue.sent) ends.known_is

module _ {D P : Type 0} (means : DeskMeaning D) (dsp : Meaning P) (seed : ℕ) (small_is : seed ≤ 1000) (old new : D) (status : ℕ) (p : P) (last : Life P) (off : dsp.on p ≡ None) (sound : IsSound (stress_plan seed)) where
  abbrev g : Ground
  g = stress_ground (dsp.most p) seed

  -- the session was begun, and all its turns were made
  stress_ran : (sent : ℕ) → sent ≡ sent_in last → (begins : Turn) (turns : List Turn) (calls : List DeskCall) → begins.task ≡ stress_begins (dsp.most p) seed →
      DoneBy (counted_todo (dai_slot (stream_count seed)) (stress_turns seed) no_counts (told_todo sent)) turns calls status → Turns dsp (Bare p) (begins ∷ turns) last → DeskLed means old calls new → StressRan means dsp g seed old new status p last (begins ∷ turns)
  stress_ran sent is_sent begins turns calls begun goes turned led =
      let slot = dai_slot (stream_count seed) in
      let made = counted_off slot (stress_turns seed) no_counts (told_todo sent) turns calls status (λ c ts cs n said. lines_turnless (stress_lines (record c { messages = sent })) ts cs n said) goes in
      let over = stress-over dsp seed small_is p last off sound begins turns begun made.0 turned in
      let lines : List Out → ℕ → List (List ℕ) = λ outs n. stress_lines (stress_counts seed n outs) in
      let parted = lines_parted means (lines (map (λ (turn : Turn). turn.out) turns) sent) [] calls old new status made.1 led in
      let same : concat (map with_newline (lines (map (λ (turn : Turn). turn.out) turns) sent)) ≡ stress_text seed g over.0 =
      λ i. concat (map with_newline (lines (sym over.2 i) ((is_sent ∙ sent_at dsp g last (moments_of over.0) (end_of (first_at (basis_of g)) over.0) over.1.ends) i))) in
      record {
        legs = over.0;
        over = over.1;
        part = parted.part;
        spoke = parted.spoke;
        is = subst (λ text. ((status ≡ 0) × (parted.part ≡ text)) ⊎ ((status ≡ 3) × IsFront parted.part text)) same parted.is;
      }

-- ---- all of it

module _ {D P : Type 0} (means : DeskMeaning D) (dsp : Meaning P) (words : List (List ℕ)) (old new : D) (status : ℕ) (p q : P) (off : dsp.on p ≡ None) (given : GaveSent means dsp words (λ sent. todo_of (dsp.most p) sent words) old p status new q) where
  abbrev last : Life P
  last = given.last

  -- no trace is kept of a stress
  none : (seed : ℕ) → stress_of words ≡ Some seed → given.records ≡ []
  none seed is =
      subst (λ (trace : Option (List ℕ)). KeptRecords dsp trace (Bare p) given.turns last given.turned given.records)
      (none_kept (dsp.most p) words (Some (Stress seed)) (stress_asked (dsp.most p) words seed is) (λ form e. cc e)) given.kept

  -- there was no memory
  wanted : (turns : List Turn) (calls : List DeskCall) → Says no_memory_line 7 turns calls status → DeskLed means old calls new → Turns dsp (Bare p) turns last → Unbegun means [] old new status p last
  wanted turns calls says led turned =
      let parted = line_parted means no_memory_line 7 turns calls old new status says led in
      record {
        ended = ended_by parted.part parted.is;
        wrote = record {
          part = parted.part;
          front = front_by parted.part parted.is;
          said = parted.spoke Spoken;
          outputs = λ slot. inl (parted.spoke (Slot slot));
        };
        wanting = λ is slot. parted.spoke (Slot slot);
        device = subst (λ ts. Turns dsp (Bare p) ts last) (no_turns no_memory_line 7 turns calls status says) turned;
      }
    where
      ended_by : (part : List ℕ) → ((status ≡ 7) × (part ≡ no_memory_line)) ⊎ ((status ≡ 3) × IsFront part no_memory_line) → (status ≡ 3) ⊎ (status ≡ 7)
      ended_by part (inl all) = inr all.0
      ended_by part (inr some) = inl some.0

      front_by : (part : List ℕ) → ((status ≡ 7) × (part ≡ no_memory_line)) ⊎ ((status ≡ 3) × IsFront part no_memory_line) → (rest : List ℕ) × (part ++ rest ≡ no_memory_line)
      front_by part (inl all) = ([], append-nil part ∙ all.1)
      front_by part (inr some) = some.1

  pub stresses : StressesWhole means dsp words old new status p last given.turns
  stresses seed is =
      by given.turns given.played.calls (given.sound seed is) given.turned given.played.led
      (subst (λ (records : List (List Entry)). DoneBy (stress (dsp.most p) given.sent seed) (recorded_turns records given.turns) given.played.calls status) (none seed is)
      (subst (λ todo. DoneBy todo (recorded_turns given.records given.turns) given.played.calls status) (stress_alone (dsp.most p) given.sent words seed is) given.played.goes))
    where
      by : (turns : List Turn) (calls : List DeskCall) → (turns ≡ []) ⊎ IsSound (stress_plan seed) → Turns dsp (Bare p) turns last → DeskLed means old calls new → DoneBy (stress (dsp.most p) given.sent seed) turns calls status →
          StressRan means dsp (stress_ground (dsp.most p) seed) seed old new status p last turns ⊎ Unbegun means [] old new status p last
      by turns calls planned turned led (inr says) = inr (wanted turns calls says led turned)
      by [] calls planned turned led (inl goes) = absurd goes
      by (begins ∷ turns) calls (inl none) turned led (inl goes) = absurd (cc none)
      by (begins ∷ turns) calls (inr sound) turned led (inl goes) =
          inl (stress_ran means dsp seed (stress_most words seed is) old new status p last off sound given.sent given.is_sent begins turns calls goes.0 goes.1 turned led)
