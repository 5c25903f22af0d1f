-- Records that are given to any device: how often it was booted, and that a count of its faults rose where it failed.
use Rattle.std.proofs.Common.{◌≡◌, refl, sym, ap, ◌∙◌, subst, ℕ, suc, ◌+◌, Bool, true, false, List, [], ◌∷◌, Option, Some, None, arith}
use Rattle.std.specs.Prelude.{is_some}
use Rattle.sof_desk.specs.Desk.{DeskCall, Load, Did as Done, Read}
use Rattle.mbox_link.specs.Step.{step}
use Rattle.mbox_link.specs.Exchange.{Rose, more}
use Rattle.mbox_link.specs.Calls as calls
use Rattle.mbox_link.specs.Calls.{Meaning, Steady}
use Rattle.mbox_link.proofs.Steps.{Rose-within}
use Rattle.ipc3_trace.specs.declared.entry.Entry.{Entry}
use Rattle.ipc3_trace.specs.declared.entry.Entry.TheVariants.{Boot, Cut, Request, Reply, Tick, Lost}
use Rattle.ipc3_trace.specs.declared.fault.TraceFault.{TraceFault}
use Rattle.ipc3_trace.specs.declared.fault.ReplayFault.{ReplayFault}
use Rattle.ipc3_trace.specs.FaultLines.{replay_fault_line}
use Rattle.sof_session.specs.Lives.{Life, Bare, Turns, device_of}
use Rattle.sof_script.specs.Tasks.{Turn}
use Rattle.sof_session.specs.Written.{raised}
use Rattle.sof_session.proofs.LinkFates.{Steady-none}
use Rattle.run_replay.specs.declared.replay_fault.Stopped.TheVariants.{At}
use Rattle.run_replay.specs.declared.replay_fault.Tally.{Tally}
use Rattle.run_desk.specs.Todo.{Todo, Says, DoneBy}
use Rattle.run_desk.specs.DeskCalls.{answer_in}
use Rattle.run_replay.specs.Replaying.{next_place, record_fault, end_fault, on_after, tallied, tally_from, device_line}
use Rattle.run_replay.specs.ReplayTodo.{stopped_todo, without_fault, replied_todo, give_todo, given_todo}
use Rattle.run_replay.proofs.ReplayPhases.{message-on, is-on, sent-on, ticked-on}
use Rattle.run_replay.proofs.ReplayTurns.{Given, first-given, later-steady, did-steady}

-- a line that is said ends with no status 0
pub stopped-not : (line : List ℕ) (n : ℕ) (turns : List Turn) (made : List DeskCall) → Says line (n + 1) turns made 0 → ⊥
stopped-not line n turns [] says = says
stopped-not line n turns (Load name limit heard ∷ made) says = says
stopped-not line n turns (Read slot size got ∷ made) says = says
stopped-not line n turns (Done act true ∷ made) says = omega (arith, says.3)
stopped-not line n turns (Done act false ∷ made) says = omega (arith, says.3)

module _ {P : Type 0} (dsp : Meaning P) where
  -- with status 0 the device was booted as often as the records say
  module _ (room : ℕ) (end : Option TraceFault) (final : Bool → Todo) (alone : (on : Bool) (turns : List Turn) (made : List DeskCall) (status : ℕ) → DoneBy (final on) turns made status → turns ≡ []) where
    abbrev pub Booted : List Entry → Type 0
    Booted es = (d : P) (turns : List Turn) (made : List DeskCall) (last : Life P) (on : Bool) (awaited : Option (List ℕ)) (at : ℕ) (t : Tally) → Turns dsp (Bare d) turns last → DoneBy (given_todo room es end on awaited at final) turns made 0
        → (n : ℕ) × ((tally_from t es).boots ≡ t.boots + n) × (dsp.boots (device_of last) ≡ raised n (dsp.boots d))

    booted-end : Booted []
    booted-end d turns made last on awaited at t turned goes = by (end_fault awaited at end) goes
      where
        by : (o : Option ReplayFault) → DoneBy (without_fault o (final on)) turns made 0 → (n : ℕ) × (t.boots ≡ t.boots + n) × (dsp.boots (device_of last) ≡ raised n (dsp.boots d))
        by (Some fault) goes = absurd (stopped-not (replay_fault_line fault) 1 turns made goes)
        by None goes =
            let is : last ≡ Bare d = subst (λ (ts : List Turn). Turns dsp (Bare d) ts last) (alone on turns made 0 goes) turned in
            (0, omega arith, ap (λ (l : Life P). dsp.boots (device_of l)) is)

    module _ (es : List Entry) (others : Booted es) (d : P) (made : List DeskCall) (last : Life P) (t : Tally) (next : Option (List ℕ) → Todo)
        (is_next : (reply : Option (List ℕ)) → (on : Bool) × (at : ℕ) × (next reply ≡ given_todo room es end on reply at final)) where
      abbrev Raised : Entry → Type 0
      Raised e = (n : ℕ) × ((tally_from (tallied e t) es).boots ≡ t.boots + n) × (dsp.boots (device_of last) ≡ raised n (dsp.boots d))

      -- after a call that does not boot
      same-boots : (e : Entry) (after : P) (turns : List Turn) (reply : Option (List ℕ)) → (tallied e t).boots ≡ t.boots → dsp.boots after ≡ dsp.boots d → Turns dsp (Bare after) turns last → DoneBy (next reply) turns made 0 → Raised e
      same-boots e after turns reply counted same turned goes =
          let place = is_next reply in
          let rest = others after turns made last place.0 reply place.1 (tallied e t) turned (subst (λ (todo : Todo). DoneBy todo turns made 0) place.2 goes) in
          (rest.0, rest.1 ∙ ap (λ (b : ℕ). b + rest.0) counted, rest.2 ∙ ap (raised rest.0) same)

      answered-boots : (message : List ℕ) (answer : Option (List ℕ)) (turns : List Turn) → Given dsp (calls.Exchange message answer) turns d last → DoneBy (replied_todo next answer) turns made 0 → Raised (Request message)
      answered-boots message None turns g goes = absurd (stopped-not device_line 9 turns made goes)
      answered-boots message (Some reply) turns g goes = same-boots (Request message) g.after turns (Some reply) refl (g.did).boots g.rest goes

      give-boots : (e : Entry) (turns : List Turn) → Turns dsp (Bare d) turns last → DoneBy (give_todo e next) turns made 0 → Raised e
      give-boots (Boot heap) (turn ∷ turns) turned goes =
          let g = first-given dsp (calls.Boot heap) turn turns d last goes.0 turned in
          let place = is_next None in
          let rest = others g.after turns made last place.0 None place.1 (tallied (Boot heap) t) g.rest (subst (λ (todo : Todo). DoneBy todo turns made 0) place.2 goes.1) in
          (rest.0 + 1, omega (arith, rest.1), rest.2 ∙ ap (raised rest.0) (g.did).0.boots ∙ one-more rest.0)
        where
          one-more : (n : ℕ) → raised n (more (dsp.boots d)) ≡ raised (n + 1) (dsp.boots d)
          one-more n = let same : suc n ≡ n + 1 = omega arith in ap (λ (k : ℕ). raised k (dsp.boots d)) same
      give-boots Cut (turn ∷ turns) turned goes = let g = first-given dsp calls.Cut turn turns d last goes.0 turned in same-boots Cut g.after turns None refl (g.did).0.boots g.rest goes.1
      give-boots (Request message) (turn ∷ turns) turned goes =
          answered-boots message (answer_in turn.task) turns (first-given dsp (calls.Exchange message (answer_in turn.task)) turn turns d last goes.0 turned) goes.1
      give-boots Tick (turn ∷ turns) turned goes = let g = first-given dsp calls.Tick turn turns d last goes.0 turned in same-boots Tick g.after turns None refl (g.did).boots g.rest goes.1
      give-boots (Reply reply) turns turned goes = same-boots (Reply reply) d turns None refl refl turned goes
      give-boots Lost turns turned goes = same-boots Lost d turns None refl refl turned goes
      give-boots e [] turned goes = absurd goes

    pub booted : (es : List Entry) → Booted es
    booted [] d turns made last on awaited at t turned goes = booted-end d turns made last on awaited at t turned goes
    booted (e ∷ es) d turns made last on awaited at t turned goes = by (booted es) (record_fault room on awaited at e) goes
      where
        by : Booted es → (o : Option ReplayFault) → DoneBy (without_fault o (give_todo e (λ reply. given_todo room es end (on_after on e) reply (next_place at e) final))) turns made 0 → (n : ℕ) × ((tally_from (tallied e t) es).boots ≡ t.boots + n) × (dsp.boots (device_of last) ≡ raised n (dsp.boots d))
        by others (Some fault) goes = absurd (stopped-not (replay_fault_line fault) 1 turns made goes)
        by others None goes = give-boots es others d made last t (λ reply. given_todo room es end (on_after on e) reply (next_place at e) final) (λ reply. (on_after on e, next_place at e, refl)) e turns turned goes

  -- a device that failed in a message
  module _ (room : ℕ) (end : Option TraceFault) (final : Bool → Todo) (not : (on : Bool) (turns : List Turn) (made : List DeskCall) → DoneBy (final on) turns made 10 → ⊥) where
    not-told : (fault : ReplayFault) (turns : List Turn) (made : List DeskCall) → DoneBy (stopped_todo (At fault)) turns made 10 → ⊥
    not-told fault turns [] says = says
    not-told fault turns (Load name limit heard ∷ made) says = says
    not-told fault turns (Read slot size got ∷ made) says = says
    not-told fault turns (Done act true ∷ made) says = cc says.3
    not-told fault turns (Done act false ∷ made) says = cc says.3

    abbrev pub Fails : List Entry → Type 0
    Fails es = (d : P) (turns : List Turn) (made : List DeskCall) (last : Life P) (on : Bool) (awaited : Option (List ℕ)) (at : ℕ) → Turns dsp (Bare d) turns last → DoneBy (given_todo room es end on awaited at final) turns made 10 → is_some (dsp.on d) ≡ on → Rose (dsp.faults d) (dsp.faults (device_of last))

    module _ (e : Entry) (es : List Entry) (others : Fails es) (d : P) (made : List DeskCall) (last : Life P) (on : Bool) (at : ℕ) where
      abbrev Fell : Type 0
      Fell = Rose (dsp.faults d) (dsp.faults (device_of last))

      -- a later failure
      later-fell : (after : P) (turns : List Turn) (reply : Option (List ℕ)) → Steady dsp d after → is_some (dsp.on after) ≡ on_after on e → Turns dsp (Bare after) turns last → DoneBy (given_todo room es end (on_after on e) reply (next_place at e) final) turns made 10 → Fell
      later-fell after turns reply steady is turned goes =
          Rose-within (dsp.faults d) (dsp.faults after) (dsp.faults (device_of last)) (dsp.faults (device_of last)) steady.faults (Steady-none dsp (device_of last) (device_of last) refl).faults
          (others after turns made last (on_after on e) reply (next_place at e) turned goes is)

    fails-end : Fails []
    fails-end d turns made last on awaited at turned goes here = by (end_fault awaited at end) goes
      where
        by : (o : Option ReplayFault) → DoneBy (without_fault o (final on)) turns made 10 → Rose (dsp.faults d) (dsp.faults (device_of last))
        by (Some fault) goes = absurd (not-told fault turns made goes)
        by None goes = absurd (not on turns made goes)

    give-fails : (e : Entry) (es : List Entry) → Fails es → (d : P) (turns : List Turn) (made : List DeskCall) (last : Life P) (on : Bool) (awaited : Option (List ℕ)) (at : ℕ) → Turns dsp (Bare d) turns last → DoneBy (give_todo e (λ reply. given_todo room es end (on_after on e) reply (next_place at e) final)) turns made 10 →
        is_some (dsp.on d) ≡ on → record_fault room on awaited at e ≡ None → Rose (dsp.faults d) (dsp.faults (device_of last))
    give-fails (Boot heap) es others d (turn ∷ turns) made last on awaited at turned goes here right =
        let g = first-given dsp (calls.Boot heap) turn turns d last goes.0 turned in
        later-fell (Boot heap) es others d made last on at g.after turns None (did-steady dsp g) (ap is_some (g.did).0.on) g.rest goes.1
    give-fails Cut es others d (turn ∷ turns) made last on awaited at turned goes here right =
        let g = first-given dsp calls.Cut turn turns d last goes.0 turned in
        later-fell Cut es others d made last on at g.after turns None (did-steady dsp g) (ap is_some (g.did).0.on) g.rest goes.1
    give-fails (Request message) es others d (turn ∷ turns) made last on awaited at turned goes here right =
        by (answer_in turn.task) (first-given dsp (calls.Exchange message (answer_in turn.task)) turn turns d last goes.0 turned) goes.1
      where
        is_on : is_some (dsp.on d) ≡ true
        is_on = here ∙ message-on room on awaited at message right

        by : (answer : Option (List ℕ)) → Given dsp (calls.Exchange message answer) turns d last → DoneBy (replied_todo (λ reply. given_todo room es end (on_after on (Request message)) reply (next_place at (Request message)) final) answer) turns made 10 → Rose (dsp.faults d) (dsp.faults (device_of last))
        by None g goes =
            let state = is-on (dsp.on d) is_on in
            let came = (g.did).step state.0 state.1 in
            Rose-within (dsp.faults d) (dsp.faults d) (dsp.faults g.after) (dsp.faults (device_of last)) (Steady-none dsp d d refl).faults (later-steady dsp g).faults came.1
        by (Some reply) g goes =
            later-fell (Request message) es others d made last on at g.after turns (Some reply) (did-steady dsp g)
            (sent-on dsp message (Some reply) d g.after g.did is_on ∙ sym (message-on room on awaited at message right)) g.rest goes
    give-fails Tick es others d (turn ∷ turns) made last on awaited at turned goes here right =
        let g = first-given dsp calls.Tick turn turns d last goes.0 turned in
        later-fell Tick es others d made last on at g.after turns None (did-steady dsp g) (ticked-on dsp d g.after g.did ∙ here) g.rest goes.1
    give-fails (Reply reply) es others d turns made last on awaited at turned goes here right =
        later-fell (Reply reply) es others d made last on at d turns None (Steady-none dsp d d refl) here turned goes
    give-fails Lost es others d turns made last on awaited at turned goes here right =
        later-fell Lost es others d made last on at d turns None (Steady-none dsp d d refl) here turned goes
    give-fails e es others d [] made last on awaited at turned goes here right = absurd goes

    pub fails : (es : List Entry) → Fails es
    fails [] d turns made last on awaited at turned goes here = fails-end d turns made last on awaited at turned goes here
    fails (e ∷ es) d turns made last on awaited at turned goes here = by (fails es) (record_fault room on awaited at e) refl goes
      where
        by : Fails es → (o : Option ReplayFault) → record_fault room on awaited at e ≡ o → DoneBy (without_fault o (give_todo e (λ reply. given_todo room es end (on_after on e) reply (next_place at e) final))) turns made 10 → Rose (dsp.faults d) (dsp.faults (device_of last))
        by others (Some fault) is goes = absurd (not-told fault turns made goes)
        by others None is goes = give-fails e es others d turns made last on awaited at turned goes here is
