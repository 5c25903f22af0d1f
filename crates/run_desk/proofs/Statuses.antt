-- The status that a run ends with, and what comes before it.
use Rattle.std.proofs.Common.{◌≡◌, ◌⊎◌, inl, inr, ℕ, ◌≤◌, Bool, true, false, List, [], ◌∷◌, ◌++◌, Option, Some, None, MatchOption, Ok, Err, refl, sym, ◌∙◌, subst, arith}
use Rattle.sof_desk.specs.declared.calls.LoadFault.TheVariants.{Failed, TooLong, OutOfMemory}
use Rattle.sof_desk.specs.Desk.{DeskMeaning, DeskAct, Create, DeskCall, Load, Did, Read, DeskLed, CountRose}
use Rattle.sof_script.specs.Tasks.{Out, Turn}
use Rattle.run_desk.specs.Lines.{no_memory_line}
use Rattle.run_desk.specs.Todo.{Todo, End, Stop, Ask, Do, Step, Refill, Send, Free, Says, Over, DoneBy}
use Rattle.run_desk.specs.DeskCalls.{reading, answer_in}
use Rattle.run_desk.specs.Throughout.{Throughout}
use Rattle.run_desk.specs.OpeningCalls.{IsOpening, IsOpeningAct, AreOpening}
use Rattle.run_desk.proofs.Steps.{no_turns}

module _ (P : ℕ → Type 0) (A : List ℕ → Type 0) where
  says_all : (line : List ℕ) (n : ℕ) (turns : List Turn) (calls : List DeskCall) (status : ℕ) → Says line n turns calls status → P n → P 3 → P status
  says_all line n turns [] status says is three = absurd says
  says_all line n turns (Load name limit heard ∷ calls) status says is three = absurd says
  says_all line n turns (Read slot size got ∷ calls) status says is three = absurd says
  says_all line n turns (Did act true ∷ calls) status says is three = subst P (sym says.3) is
  says_all line n turns (Did act false ∷ calls) status says is three = subst P (sym says.3) three

  -- the status is one of those
  pub ends : (todo : Todo) (turns : List Turn) (calls : List DeskCall) (status : ℕ) → DoneBy todo turns calls status → Throughout P A todo → P 3 → P status
  ends End turns calls status goes all three = subst P (sym goes.2) all
  ends (Stop line n) turns calls status goes all three = says_all line n turns calls status goes all three
  ends (Ask name limit line rest) turns [] status goes all three = absurd goes
  ends (Ask name limit line rest) turns (Did act done ∷ calls) status goes all three = absurd goes
  ends (Ask name limit line rest) turns (Read n size got ∷ calls) status goes all three = absurd goes
  ends (Ask name limit line rest) turns (Load n l (Ok got) ∷ calls) status goes all three = ends (rest got) turns calls status goes.2 (all.3 got) three
  ends (Ask name limit line rest) turns (Load n l (Err TooLong) ∷ calls) status goes all three = says_all line 5 turns calls status goes.2 all.1 three
  ends (Ask name limit line rest) turns (Load n l (Err OutOfMemory) ∷ calls) status goes all three = says_all no_memory_line 7 turns calls status goes.2 all.2 three
  ends (Ask name limit line rest) turns (Load n l (Err Failed) ∷ calls) status goes all three = subst P (sym goes.2.2) three
  ends (Do act rest) turns [] status goes all three = absurd goes
  ends (Do act rest) turns (Load name limit heard ∷ calls) status goes all three = absurd goes
  ends (Do act rest) turns (Read n size got ∷ calls) status goes all three = absurd goes
  ends (Do act rest) turns (Did a true ∷ calls) status goes all three = ends rest turns calls status goes.1 all three
  ends (Do act rest) turns (Did a false ∷ calls) status goes all three = subst P (sym goes.1.2) three
  ends (Step task rest) (turn ∷ turns) calls status goes all three = ends (rest turn.out) turns calls status goes.1 (all turn.out) three
  ends (Refill rest) (turn ∷ turns) calls status goes all three =
      (elim goes.0.failed as (λ failed. MatchOption failed (DoneBy rest turns goes.0.later status) (λ slot. Over 3 turns goes.0.later status) → P status) [
        | None ↦ λ done. ends rest turns goes.0.later status done all three
        | Some slot ↦ λ over. subst P (sym over.2) three
      ]) goes.1
  ends (Send message rest) (turn ∷ turns) calls status goes all three = ends (rest (answer_in turn.task)) turns calls status goes.1 (all (answer_in turn.task)) three
  ends (Free rest) turns calls status (inl goes) all three = ends rest turns calls status goes all.1 three
  ends (Free rest) turns calls status (inr says) all three = says_all no_memory_line 7 turns calls status says all.0 three
  ends todo [] calls status goes all three = absurd goes

-- a status of a run whose commands are being carried out
abbrev pub IsLate : ℕ → Type 0
IsLate n = (n ≡ 0) ⊎ (n ≡ 3)

-- no file is created or opened
abbrev pub OpensNone : Todo → Type 0
OpensNone End = Unit {0}
OpensNone (Stop line n) = Unit {0}
OpensNone (Ask name limit line rest) = (bytes : List ℕ) → OpensNone (rest bytes)
OpensNone (Do act rest) = (IsOpeningAct act → ⊥) × OpensNone rest
OpensNone (Step task rest) = (out : Out) → OpensNone (rest out)
OpensNone (Refill rest) = OpensNone rest
OpensNone (Send message rest) = (reply : Option (List ℕ)) → OpensNone (rest reply)
OpensNone (Free rest) = OpensNone rest

-- a turn comes only where nothing else is loaded, created or opened, and the status is 3 or one of those
abbrev pub TurnsLast : (ℕ → Type 0) → Todo → Type 0
TurnsLast P End = Unit {0}
TurnsLast P (Stop line n) = Unit {0}
TurnsLast P (Ask name limit line rest) = (bytes : List ℕ) → TurnsLast P (rest bytes)
TurnsLast P (Do act rest) = TurnsLast P rest
TurnsLast P (Step task rest) = (out : Out) → Throughout P (λ name. ⊥) (rest out) × OpensNone (rest out)
TurnsLast P (Refill rest) = Throughout P (λ name. ⊥) rest × OpensNone rest
TurnsLast P (Send message rest) = (reply : Option (List ℕ)) → Throughout P (λ name. ⊥) (rest reply) × OpensNone (rest reply)
TurnsLast P (Free rest) = TurnsLast P rest

-- another status comes before any turn
pub none_turned : (P : ℕ → Type 0) → P 3 → (todo : Todo) (turns : List Turn) (calls : List DeskCall) (status : ℕ) → DoneBy todo turns calls status → TurnsLast P todo → (P status → ⊥) → turns ≡ []
none_turned P three End turns calls status goes last early = goes.0
none_turned P three (Stop line n) turns calls status goes last early = no_turns line n turns calls status goes
none_turned P three (Ask name limit line rest) turns [] status goes last early = absurd goes
none_turned P three (Ask name limit line rest) turns (Did act done ∷ calls) status goes last early = absurd goes
none_turned P three (Ask name limit line rest) turns (Read n size got ∷ calls) status goes last early = absurd goes
none_turned P three (Ask name limit line rest) turns (Load n l (Ok got) ∷ calls) status goes last early = none_turned P three (rest got) turns calls status goes.2 (last got) early
none_turned P three (Ask name limit line rest) turns (Load n l (Err TooLong) ∷ calls) status goes last early = no_turns line 5 turns calls status goes.2
none_turned P three (Ask name limit line rest) turns (Load n l (Err OutOfMemory) ∷ calls) status goes last early = no_turns no_memory_line 7 turns calls status goes.2
none_turned P three (Ask name limit line rest) turns (Load n l (Err Failed) ∷ calls) status goes last early = goes.2.0
none_turned P three (Do act rest) turns [] status goes last early = absurd goes
none_turned P three (Do act rest) turns (Load name limit heard ∷ calls) status goes last early = absurd goes
none_turned P three (Do act rest) turns (Read n size got ∷ calls) status goes last early = absurd goes
none_turned P three (Do act rest) turns (Did a true ∷ calls) status goes last early = none_turned P three rest turns calls status goes.1 last early
none_turned P three (Do act rest) turns (Did a false ∷ calls) status goes last early = goes.1.0
none_turned P three (Step task rest) (turn ∷ turns) calls status goes last early =
    absurd (early (ends P (λ name. ⊥) (rest turn.out) turns calls status goes.1 (last turn.out).0 three))
none_turned P three (Refill rest) (turn ∷ turns) calls status goes last early =
    absurd (early (ends P (λ name. ⊥) (Refill rest) (turn ∷ turns) calls status goes last.0 three))
none_turned P three (Send message rest) (turn ∷ turns) calls status goes last early =
    absurd (early (ends P (λ name. ⊥) (rest (answer_in turn.task)) turns calls status goes.1 (last (answer_in turn.task)).0 three))
none_turned P three (Free rest) turns calls status (inl goes) last early = none_turned P three rest turns calls status goes last early
none_turned P three (Free rest) turns calls status (inr says) last early = no_turns no_memory_line 7 turns calls status says
none_turned P three todo [] calls status goes last early = refl

-- a call creates or opens a file, whether it was done or not
opens_act : (act : DeskAct) (done : Bool) → IsOpening (Did act done) → IsOpeningAct act
opens_act (Create slot name) done opens = opens
opens_act act done opens = opens

-- a line that is said is no load, and creates and opens nothing
said_no_loads : (line : List ℕ) (n : ℕ) (turns : List Turn) (calls : List DeskCall) (status : ℕ) → Says line n turns calls status → AreOpening calls → ⊥
said_no_loads line n turns [] status says loads = says
said_no_loads line n turns (Load name limit heard ∷ calls) status says loads = says
said_no_loads line n turns (Read slot size got ∷ calls) status says loads = says
said_no_loads line n turns (Did act done ∷ calls) status says loads = subst IsOpeningAct says.0 (opens_act act done loads.0)

-- where all calls were loads, creates and opens, there were no reads
none_read : (reads : List (ℕ × List ℕ)) (failed : Option ℕ) (later : List DeskCall) → AreOpening (reading reads failed ++ later) → (failed ≡ None) × AreOpening later
none_read [] None later loads = (refl, loads)
none_read [] (Some slot) later loads = absurd loads.0
none_read ((slot, bytes) ∷ reads) failed later loads = absurd loads.0

-- once nothing else is loaded, created or opened, a desk that failed did so in another call
opening_past : (P : ℕ → Type 0) (todo : Todo) (turns : List Turn) (calls : List DeskCall) (status : ℕ) → DoneBy todo turns calls status → Throughout P (λ name. ⊥) todo → OpensNone todo → AreOpening calls → status ≡ 3 → ⊥
opening_past P End turns calls status goes none puts loads three = cc (sym goes.2 ∙ three)
opening_past P (Stop line n) turns calls status goes none puts loads three = said_no_loads line n turns calls status goes loads
opening_past P (Ask name limit line rest) turns calls status goes none puts loads three = none.0
opening_past P (Do act rest) turns [] status goes none puts loads three = goes
opening_past P (Do act rest) turns (Load name limit heard ∷ calls) status goes none puts loads three = goes
opening_past P (Do act rest) turns (Read n size got ∷ calls) status goes none puts loads three = goes
opening_past P (Do act rest) turns (Did a true ∷ calls) status goes none puts loads three = puts.0 (subst IsOpeningAct goes.0 loads.0)
opening_past P (Do act rest) turns (Did a false ∷ calls) status goes none puts loads three = puts.0 (subst IsOpeningAct goes.0 (opens_act a false loads.0))
opening_past P (Step task rest) (turn ∷ turns) calls status goes none puts loads three = opening_past P (rest turn.out) turns calls status goes.1 (none turn.out) (puts turn.out) loads three
opening_past P (Refill rest) (turn ∷ turns) calls status goes none puts loads three =
    let f = goes.0 in
    let unread = none_read f.reads f.failed f.later (subst AreOpening f.calls_are loads) in
    opening_past P rest turns f.later status (subst (λ failed. MatchOption failed (DoneBy rest turns f.later status) (λ slot. Over 3 turns f.later status)) unread.0 goes.1) none puts unread.1 three
opening_past P (Send message rest) (turn ∷ turns) calls status goes none puts loads three =
    let reply = answer_in turn.task in
    opening_past P (rest reply) turns calls status goes.1 (none reply) (puts reply) loads three
opening_past P (Free rest) turns calls status (inl goes) none puts loads three = opening_past P rest turns calls status goes none.1 puts loads three
opening_past P (Free rest) turns calls status (inr says) none puts loads three = said_no_loads no_memory_line 7 turns calls status says loads
opening_past P todo [] calls status goes none puts loads three = goes

-- a load, a create or an open that failed comes before any turn
pub none_asked : (P : ℕ → Type 0) (todo : Todo) (turns : List Turn) (calls : List DeskCall) (status : ℕ) → DoneBy todo turns calls status → TurnsLast P todo → status ≡ 3 → AreOpening calls → turns ≡ []
none_asked P End turns calls status goes last three loads = goes.0
none_asked P (Stop line n) turns calls status goes last three loads = no_turns line n turns calls status goes
none_asked P (Ask name limit line rest) turns [] status goes last three loads = absurd goes
none_asked P (Ask name limit line rest) turns (Did act done ∷ calls) status goes last three loads = absurd goes
none_asked P (Ask name limit line rest) turns (Read n size got ∷ calls) status goes last three loads = absurd goes
none_asked P (Ask name limit line rest) turns (Load n l (Ok got) ∷ calls) status goes last three loads = none_asked P (rest got) turns calls status goes.2 (last got) three loads.1
none_asked P (Ask name limit line rest) turns (Load n l (Err TooLong) ∷ calls) status goes last three loads = no_turns line 5 turns calls status goes.2
none_asked P (Ask name limit line rest) turns (Load n l (Err OutOfMemory) ∷ calls) status goes last three loads = no_turns no_memory_line 7 turns calls status goes.2
none_asked P (Ask name limit line rest) turns (Load n l (Err Failed) ∷ calls) status goes last three loads = goes.2.0
none_asked P (Do act rest) turns [] status goes last three loads = absurd goes
none_asked P (Do act rest) turns (Load name limit heard ∷ calls) status goes last three loads = absurd goes
none_asked P (Do act rest) turns (Read n size got ∷ calls) status goes last three loads = absurd goes
none_asked P (Do act rest) turns (Did a true ∷ calls) status goes last three loads = none_asked P rest turns calls status goes.1 last three loads.1
none_asked P (Do act rest) turns (Did a false ∷ calls) status goes last three loads = goes.1.0
none_asked P (Step task rest) (turn ∷ turns) calls status goes last three loads = absurd (opening_past P (rest turn.out) turns calls status goes.1 (last turn.out).0 (last turn.out).1 loads three)
none_asked P (Refill rest) (turn ∷ turns) calls status goes last three loads = absurd (opening_past P (Refill rest) (turn ∷ turns) calls status goes last.0 last.1 loads three)
none_asked P (Send message rest) (turn ∷ turns) calls status goes last three loads =
    let reply = answer_in turn.task in
    absurd (opening_past P (rest reply) turns calls status goes.1 (last reply).0 (last reply).1 loads three)
none_asked P (Free rest) turns calls status (inl goes) last three loads = none_asked P rest turns calls status goes last three loads
none_asked P (Free rest) turns calls status (inr says) last three loads = no_turns no_memory_line 7 turns calls status says
none_asked P todo [] calls status goes last three loads = refl

-- the count rose where the status is 3
rose_before : (a b c : ℕ) → a ≤ b → CountRose b c → CountRose a c
rose_before a b c le (inl above) = inl (omega arith)
rose_before a b c le (inr last) = inr last

module _ {D : Type 0} (means : DeskMeaning D) where
  abbrev Rises : D → D → Type 0
  Rises d e = CountRose (means.faults d) (means.faults e)

  last_rises : (act : _) (calls : List DeskCall) (d e : D) → calls ≡ [] → DeskLed means d (Did act false ∷ calls) e → Rises d e
  last_rises act calls d e none led =
      let last : e ≡ led.0 = subst (λ cs. DeskLed means led.0 cs e) none led.2 in
      subst (Rises d) (sym last) (led.1.failed refl)

  says_three : (line : List ℕ) (n : ℕ) (turns : List Turn) (calls : List DeskCall) (status : ℕ) (d e : D) → Says line n turns calls status → (n ≡ 3 → ⊥) → DeskLed means d calls e → status ≡ 3 → Rises d e
  says_three line n turns [] status d e says other led three = absurd says
  says_three line n turns (Load name limit heard ∷ calls) status d e says other led three = absurd says
  says_three line n turns (Read slot size got ∷ calls) status d e says other led three = absurd says
  says_three line n turns (Did act true ∷ calls) status d e says other led three = absurd (other (sym says.3 ∙ three))
  says_three line n turns (Did act false ∷ calls) status d e says other led three = last_rises act calls d e says.2 led

  -- reads that were done, and what comes after them
  reads_led : (reads : List (ℕ × List ℕ)) (failed : Option ℕ) (later : List DeskCall) (d e : D) → DeskLed means d (reading reads failed ++ later) e → (m : D) × (means.faults d ≤ means.faults m) × DeskLed means m (reading [] failed ++ later) e
  reads_led [] None later d e led = (d, omega arith, led)
  reads_led [] (Some slot) later d e led = (d, omega arith, led)
  reads_led ((slot, bytes) ∷ reads) failed later d e led =
      let rest = reads_led reads failed later led.0 e led.2 in
      (rest.0, omega (arith, led.1.kept.faults, rest.1), rest.2)

  pub three_rose : (todo : Todo) (turns : List Turn) (calls : List DeskCall) (status : ℕ) (d e : D) → DoneBy todo turns calls status → Throughout (λ n. n ≡ 3 → ⊥) (λ name. Unit {0}) todo → DeskLed means d calls e → status ≡ 3 → Rises d e
  three_rose End turns calls status d e goes other led three = absurd (other (sym goes.2 ∙ three))
  three_rose (Stop line n) turns calls status d e goes other led three = says_three line n turns calls status d e goes other led three
  three_rose (Ask name limit line rest) turns [] status d e goes other led three = absurd goes
  three_rose (Ask name limit line rest) turns (Did act done ∷ calls) status d e goes other led three = absurd goes
  three_rose (Ask name limit line rest) turns (Read n size got ∷ calls) status d e goes other led three = absurd goes
  three_rose (Ask name limit line rest) turns (Load n l (Ok got) ∷ calls) status d e goes other led three =
      rose_before _ _ _ led.1.kept.faults (three_rose (rest got) turns calls status led.0 e goes.2 (other.3 got) led.2 three)
  three_rose (Ask name limit line rest) turns (Load n l (Err TooLong) ∷ calls) status d e goes other led three =
      rose_before _ _ _ led.1.kept.faults (says_three line 5 turns calls status led.0 e goes.2 other.1 led.2 three)
  three_rose (Ask name limit line rest) turns (Load n l (Err OutOfMemory) ∷ calls) status d e goes other led three =
      rose_before _ _ _ led.1.kept.faults (says_three no_memory_line 7 turns calls status led.0 e goes.2 other.2 led.2 three)
  three_rose (Ask name limit line rest) turns (Load n l (Err Failed) ∷ calls) status d e goes other led three =
      let last : e ≡ led.0 = subst (λ cs. DeskLed means led.0 cs e) goes.2.1 led.2 in
      subst (Rises d) (sym last) led.1.answers
  three_rose (Do act rest) turns [] status d e goes other led three = absurd goes
  three_rose (Do act rest) turns (Load name limit heard ∷ calls) status d e goes other led three = absurd goes
  three_rose (Do act rest) turns (Read n size got ∷ calls) status d e goes other led three = absurd goes
  three_rose (Do act rest) turns (Did a true ∷ calls) status d e goes other led three =
      rose_before _ _ _ led.1.kept.faults (three_rose rest turns calls status led.0 e goes.1 other led.2 three)
  three_rose (Do act rest) turns (Did a false ∷ calls) status d e goes other led three = last_rises a calls d e goes.1.1 led
  three_rose (Step task rest) (turn ∷ turns) calls status d e goes other led three = three_rose (rest turn.out) turns calls status d e goes.1 (other turn.out) led three
  three_rose (Refill rest) (turn ∷ turns) calls status d e goes other led three =
      let f = goes.0 in
      let reads = reads_led f.reads f.failed f.later d e (subst (λ cs. DeskLed means d cs e) f.calls_are led) in
      (elim f.failed as (λ failed. MatchOption failed (DoneBy rest turns f.later status) (λ slot. Over 3 turns f.later status) → DeskLed means reads.0 (reading [] failed ++ f.later) e → Rises d e) [
        | None ↦ λ done led. rose_before _ _ _ reads.1 (three_rose rest turns f.later status reads.0 e done other led three)
        | Some slot ↦ λ over led.
            let last : e ≡ led.0 = subst (λ cs. DeskLed means led.0 cs e) over.1 led.2 in
            rose_before _ _ _ reads.1 (subst (Rises reads.0) (sym last) (led.1.failed refl))
      ]) goes.1 reads.2
  three_rose (Send message rest) (turn ∷ turns) calls status d e goes other led three =
      let reply = answer_in turn.task in
      three_rose (rest reply) turns calls status d e goes.1 (other reply) led three
  three_rose (Free rest) turns calls status d e (inl goes) other led three = three_rose rest turns calls status d e goes other.1 led three
  three_rose (Free rest) turns calls status d e (inr says) other led three = says_three no_memory_line 7 turns calls status d e says other.0 led three
  three_rose todo [] calls status d e goes other led three = absurd goes
