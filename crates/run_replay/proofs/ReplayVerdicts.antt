-- What `replay` ensures, from what it did.
use Rattle.std.proofs.Common.{◌≡◌, ◌⊎◌, inl, inr, refl, sym, ap, ◌∙◌, subst, ℕ, ◌+◌, ◌≤◌, Bool, true, false, List, [], ◌∷◌, length, map, Option, Some, None, Ok, Err, codes, arith}
use Rattle.std.specs.Prelude.{is_some, option_map}
use Rattle.std.specs.Option.{option_or}
use Rattle.sof_desk.specs.declared.calls.LoadFault.TheVariants.{Failed, TooLong, OutOfMemory}
use Rattle.sof_desk.specs.Desk.{DeskMeaning, DeskCall, Load, Did as Done, Read, DeskLed}
use Rattle.stream_law.specs.State.{FwState, view_of}
use Rattle.mbox_link.specs.Exchange.{Rose}
use Rattle.mbox_link.specs.Calls.{Meaning}
use Rattle.ipc3_trace.specs.declared.entry.Entry.{Entry}
use Rattle.ipc3_trace.specs.declared.fault.TraceFault.{TraceFault}
use Rattle.ipc3_trace.specs.declared.fault.ReplayFault.{ReplayFault}
use Rattle.ipc3_trace.specs.Reading.{trace_in}
use Rattle.ipc3_trace.specs.Steps.{quiescent, step_by, steps_of}
use Rattle.ipc3_trace.specs.WholeTraces.{IsTraceOf}
use Rattle.ipc3_trace.specs.FaultLines.{replay_fault_line}
use Rattle.ipc3_trace.proofs.WholeLaws.{one-trace, has-trace}
use Rattle.sof_session.specs.Lives.{Life, Bare, Turns, device_of}
use Rattle.sof_script.specs.Tasks.{Turn}
use Rattle.sof_session.specs.SessionStep.{Calm}
use Rattle.sof_session.specs.Written.{raised}
use Rattle.run_desk.specs.Todo.{Todo, End, Says, DoneBy, Free}
use Rattle.run_desk.specs.TopologyBytes.{AreBytes}
use Rattle.run_desk.specs.Lines.{no_memory_line, with_newline}
use Rattle.run_desk.specs.LinesTodo.{lines_todo}
use Rattle.run_desk.specs.DeskCalls.{heard_in, saying}
use Rattle.run_words.specs.TraceForms.{replay_of}
use Rattle.run_replay.specs.Replaying.{next_place, record_fault, tally_of, replay_lines}
use Rattle.run_replay.specs.ReplayTodo.{replayed_todo, replay}
use Rattle.run_replay.specs.Replays.{reply_after, fault_from, replay_fault, replayed_lines, ReplayVerdict, Replays}
use Rattle.run_desk.proofs.SaidLines.{said}
use Rattle.ipc3_trace.proofs.AlikeViews.{alike-view}
use Rattle.run_desk.proofs.LinePhases.{lines_turnless}
use Rattle.run_replay.proofs.ReplayWalks.{Came, walk}
use Rattle.run_replay.proofs.ReplayCounts.{stopped-not, booted, fails}
use Rattle.run_desk.proofs.AskedFiles.{Asked, Brought, Longer, Missing, Broken, unless_cut, where_free, asked, judged}

-- ---- the lines

lines_came : (lines : List (List ℕ)) (turns : List Turn) (made : List DeskCall) (status : ℕ) → DoneBy (lines_todo lines End) turns made status → (status ≡ 3) ⊎ ((status ≡ 0) × (made ≡ map saying (map with_newline lines)))
lines_came [] turns made status goes = inr (goes.2, goes.1)
lines_came (line ∷ lines) turns [] status goes = absurd goes
lines_came (line ∷ lines) turns (Load name limit heard ∷ made) status goes = absurd goes
lines_came (line ∷ lines) turns (Read n size got ∷ made) status goes = absurd goes
lines_came (line ∷ lines) turns (Done act false ∷ made) status goes = inl goes.1.2
lines_came (line ∷ lines) turns (Done act true ∷ made) status goes = one_more (lines_came lines turns made status goes.1)
  where
    one_more : (status ≡ 3) ⊎ ((status ≡ 0) × (made ≡ map saying (map with_newline lines))) → (status ≡ 3) ⊎ ((status ≡ 0) × (Done act true ∷ made ≡ map saying (map with_newline (line ∷ lines))))
    one_more (inl three) = inl three
    one_more (inr done) = inr (done.0, λ i. Done (goes.0 i) true ∷ done.1 i)

lines_not_ten : (lines : List (List ℕ)) (turns : List Turn) (made : List DeskCall) → DoneBy (lines_todo lines End) turns made 10 → ⊥
lines_not_ten lines turns made goes = by (lines_came lines turns made 10 goes)
  where
    by : (◌≡◌ {A = ℕ} 10 3) ⊎ ((◌≡◌ {A = ℕ} 10 0) × (made ≡ map saying (map with_newline lines))) → ⊥
    by (inl three) = cc three
    by (inr zero) = cc zero.0

says_not_ten : (line : List ℕ) (n : ℕ) (turns : List Turn) (made : List DeskCall) → Says line n turns made 10 → (10 ≡ n → ⊥) → ⊥
says_not_ten line n turns made says other = by (said line n turns made 10 says)
  where
    by : (◌≡◌ {A = ℕ} 10 3) ⊎ ((10 ≡ n) × (made ≡ saying line ∷ [])) → ⊥
    by (inl three) = cc three
    by (inr is) = other is.0

-- what the lines are by the records
abbrev last_lines : List Entry → Bool → Todo
last_lines es on = lines_todo (replay_lines (tally_of es) on) End

last_alone : (es : List Entry) (on : Bool) (turns : List Turn) (made : List DeskCall) (status : ℕ) → DoneBy (last_lines es on) turns made status → turns ≡ []
last_alone es on turns made status goes = lines_turnless (replay_lines (tally_of es) on) turns made status goes

-- ---- the bytes

-- what is to do with them
abbrev done_with : ℕ → List ℕ → Todo
done_with room bytes = Free (replayed_todo room (trace_in bytes).0 (trace_in bytes).1)

or_none : {A : Type 0} (o rest : Option A) → option_or o rest ≡ None → rest ≡ None
or_none None rest is = is
or_none (Some a) rest is = absurd (cc is)

-- the first fault of the bytes is one of the records too
broken_told : (room : ℕ) (es : List Entry) (fault : TraceFault) (s : Option FwState) (awaited : Option (List ℕ)) (at : ℕ) → fault_from room es (Some fault) s awaited at ≡ None → ⊥
broken_told room [] fault s awaited at none = cc none
broken_told room (e ∷ es) fault s awaited at none =
    broken_told room es fault (step_by s e) (reply_after s e) (next_place at e) (or_none (record_fault room (is_some s) awaited at e) (fault_from room es (Some fault) (step_by s e) (reply_after s e) (next_place at e)) none)

module _ {P : Type 0} (dsp : Meaning P) (p : P) (last : Life P) (turns : List Turn) (turned : Turns dsp (Bare p) turns last) (off : dsp.on p ≡ None) (name bytes : List ℕ) where
  abbrev room : ℕ
  room = dsp.most p

  abbrev es : List Entry
  es = (trace_in bytes).0

  abbrev end : Option TraceFault
  end = (trace_in bytes).1

  module _ (none : dsp.pending p ≡ 0) (calm : Calm dsp p (device_of last)) where
    -- the result of the records
    came : (made : List DeskCall) (status : ℕ) → DoneBy (replayed_todo room es end) turns made status → Came dsp room end (last_lines es) (last_alone es) (replay_fault room es end) (steps_of es) made status last
    came made status goes = walk dsp room end (last_lines es) (last_alone es) es p turns made status last None None 0 turned goes (ap (option_map quiescent) off) none calm

    module _ {D : Type 0} (means : DeskMeaning D) (made : List DeskCall) (status : ℕ) (d e : D) where
      -- the records were given up to the first fault, or all
      module _ (later : List DeskCall) (is : made ≡ Load name 16777216 (Ok bytes) ∷ later) (short : length bytes ≤ 16777216) (are : AreBytes bytes) where
        trace : IsTraceOf bytes es end
        trace = has-trace bytes are

        whole : (end' : Option TraceFault) → end ≡ end' → replay_fault room es end ≡ None → (end' ≡ None)
        whole None is fault = refl
        whole (Some f) is fault = absurd (broken_told room es f None None 0 (subst (λ (x : Option TraceFault). fault_from room es x None None 0 ≡ None) is fault))

        all : (others : List DeskCall) → later ≡ others → made ≡ Load name 16777216 (Ok bytes) ∷ others
        all others same = is ∙ ap (λ cs. Load name 16777216 (Ok bytes) ∷ cs) same

        by : (o : Option ReplayFault) → replay_fault room es end ≡ o → Came dsp room end (last_lines es) (last_alone es) o (steps_of es) later status last → ReplayVerdict room name bytes made status
        by (Some fault) fails came =
            unless_cut status (said (replay_fault_line fault) 2 [] later status came) (λ two. inr (inl (es, end, fault, two.0, short, trace, fails, all (saying (replay_fault_line fault) ∷ []) two.1)))
        by None passes came =
            let none_is : end ≡ None = whole end refl passes in
            unless_cut status (lines_came (replay_lines (tally_of es) (is_some (steps_of es))) [] later status came.0)
            (λ zero. inr (inr (es, zero.0, short, subst (IsTraceOf bytes es) none_is trace, subst (λ (x : Option TraceFault). replay_fault room es x ≡ None) none_is passes, all (map saying (replayed_lines es)) zero.1)))

      judge : (means.holds d name ≡ Some bytes) ⊎ (heard_in made ≡ Ok bytes ∷ []) → DoneBy (replay room name) turns made status → DeskLed means d made e → ReplayVerdict room name bytes made status
      judge told goes led =
          judged _ _ _ _ turns means bytes made status d e (asked _ _ _ (done_with room) turns means bytes made status d e told goes led)
          (λ later is short are goes. where_free turns later status goes (λ gave. by later is short are (replay_fault room es end) refl (came later status gave)))

  -- ---- with status 0

  says_not_zero : (line : List ℕ) (n : ℕ) (made : List DeskCall) (status : ℕ) → Says line (n + 1) turns made status → status ≡ 0 → ⊥
  says_not_zero line n made status says zero = by (said line (n + 1) turns made status says)
    where
      by : (status ≡ 3) ⊎ ((status ≡ n + 1) × (made ≡ saying line ∷ [])) → ⊥
      by (inl three) = cc (sym zero ∙ three)
      by (inr is) = omega (arith, zero, is.0)

  -- the load brought bytes, and the records were given
  given : {D : Type 0} (means : DeskMeaning D) (made : List DeskCall) (status : ℕ) (d e : D) → heard_in made ≡ Ok bytes ∷ [] → status ≡ 0 → DoneBy (replay room name) turns made status → DeskLed means d made e
      → AreBytes bytes × ((later : List DeskCall) × DoneBy (replayed_todo room es end) turns later 0)
  given means made status d e heard zero goes led = by (asked _ _ _ _ turns means bytes made status d e (inr heard) goes led)
    where
      gave : (later : List DeskCall) → DoneBy (replayed_todo room es end) turns later status ⊎ Says no_memory_line 7 turns later status → DoneBy (replayed_todo room es end) turns later 0
      gave later (inl done) = subst (λ n. DoneBy (replayed_todo room es end) turns later n) zero done
      gave later (inr says) = absurd (says_not_zero no_memory_line 6 later status says zero)

      by : Asked name 16777216 (codes "too long trace\n") (done_with room) turns means bytes made status d e → AreBytes bytes × ((later : List DeskCall) × DoneBy (replayed_todo room es end) turns later 0)
      by (Brought later m is short are kept holds goes led) = (are, (later, gave later goes))
      by (Longer later is over says) = absurd (says_not_zero (codes "too long trace\n") 4 later status says zero)
      by (Missing later m kept says led) = absurd (says_not_zero no_memory_line 6 later status says zero)
      by (Broken kept three none) = absurd (cc (sym zero ∙ three))

  view_by : dsp.pending p ≡ 0 → Calm dsp p (device_of last) → (later : List DeskCall) → DoneBy (replayed_todo room es end) turns later 0 → option_map view_of (dsp.on (device_of last)) ≡ option_map view_of (steps_of es)
  view_by none calm later goes = by (replay_fault room es end) (came none calm later 0 goes)
    where
      by : (o : Option ReplayFault) → Came dsp room end (last_lines es) (last_alone es) o (steps_of es) later 0 last → option_map view_of (dsp.on (device_of last)) ≡ option_map view_of (steps_of es)
      by (Some fault) came = absurd (stopped-not (replay_fault_line fault) 1 [] later came)
      by None came = alike-view (dsp.on (device_of last)) (steps_of es) came.1

  boots_by : (later : List DeskCall) → DoneBy (replayed_todo room es end) turns later 0 → dsp.boots (device_of last) ≡ raised (tally_of es).boots (dsp.boots p)
  boots_by later goes =
      let b = booted dsp room end (last_lines es) (last_alone es) es p turns later last false None 0 (record { boots = 0; messages = 0; ticks = 0 }) turned goes in
      let many : b.0 ≡ (tally_of es).boots = omega (arith, b.1) in
      b.2 ∙ ap (λ (n : ℕ). raised n (dsp.boots p)) many

-- ---- a device that failed

module _ {P : Type 0} (dsp : Meaning P) (p : P) (last : Life P) (turns : List Turn) (turned : Turns dsp (Bare p) turns last) (off : dsp.on p ≡ None) (name : List ℕ) where
  failed_by : (made : List DeskCall) → DoneBy (replay (dsp.most p) name) turns made 10 → Rose (dsp.faults p) (dsp.faults (device_of last))
  failed_by [] goes = absurd goes
  failed_by (Done act done ∷ made) goes = absurd goes
  failed_by (Read n size got ∷ made) goes = absurd goes
  failed_by (Load n l (Ok got) ∷ made) goes = by goes.2
    where
      by : DoneBy (replayed_todo (dsp.most p) (trace_in got).0 (trace_in got).1) turns made 10 ⊎ Says no_memory_line 7 turns made 10 → Rose (dsp.faults p) (dsp.faults (device_of last))
      by (inl done) =
          fails dsp (dsp.most p) (trace_in got).1 (last_lines (trace_in got).0) (λ on ts made goes. lines_not_ten (replay_lines (tally_of (trace_in got).0) on) ts made goes) (trace_in got).0 p turns made last false None 0 turned done (ap is_some off)
      by (inr says) = absurd (says_not_ten no_memory_line 7 turns made says (λ e. cc e))
  failed_by (Load n l (Err TooLong) ∷ made) goes = absurd (says_not_ten (codes "too long trace\n") 5 turns made goes.2 (λ e. cc e))
  failed_by (Load n l (Err OutOfMemory) ∷ made) goes = absurd (says_not_ten no_memory_line 7 turns made goes.2 (λ e. cc e))
  failed_by (Load n l (Err Failed) ∷ made) goes = absurd (cc goes.2.2)

-- ---- all

module _ {D P : Type 0} (means : DeskMeaning D) (dsp : Meaning P) (words : List (List ℕ)) (old new : D) (p : P) (last : Life P) (status : ℕ) (off : dsp.on p ≡ None) (none : dsp.pending p ≡ 0)
    (turns : List Turn) (turned : Turns dsp (Bare p) turns last) (calls : List DeskCall) (led : DeskLed means old calls new) (goes : (name : List ℕ) → replay_of words ≡ Some name → DoneBy (replay (dsp.most p) name) turns calls status)
    (alone : (name : List ℕ) → replay_of words ≡ Some name → (status ≡ 5) ⊎ (status ≡ 7) → last ≡ Bare p) where
  pub replays : Replays means dsp words old p calls status new last
  replays = record {
    failed = λ name is ten. failed_by dsp p last turns turned off name calls (subst (λ n. DoneBy (replay (dsp.most p) name) turns calls n) ten (goes name is));
    untouched = alone;
    judged = λ name bytes is by calm. judge dsp p last turns turned off name bytes none calm means calls status old new by (goes name is) led;
    view = λ name bytes es is heard trace zero calm.
        let done = given dsp p last turns turned off name bytes means calls status old new heard zero (goes name is) led in
        let same = one-trace bytes (trace_in bytes).0 es (trace_in bytes).1 None (has-trace bytes done.0) trace in
        view_by dsp p last turns turned off name bytes none calm done.1.0 done.1.1 ∙ ap (λ (xs : List Entry). option_map view_of (steps_of xs)) same.0;
    boots = λ name bytes es is heard trace zero.
        let done = given dsp p last turns turned off name bytes means calls status old new heard zero (goes name is) led in
        let same = one-trace bytes (trace_in bytes).0 es (trace_in bytes).1 None (has-trace bytes done.0) trace in
        boots_by dsp p last turns turned off name bytes done.1.0 done.1.1 ∙ ap (λ (xs : List Entry). raised (tally_of xs).boots (dsp.boots p)) same.0;
  }
