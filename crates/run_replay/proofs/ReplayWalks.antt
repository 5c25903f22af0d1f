-- Records that are given to a device whose counts do not rise: the first at fault is reported, or none is and they lead where the device is.
use Rattle.std.proofs.Common.{◌≡◌, refl, sym, ap, subst, ℕ, Bool, true, List, [], ◌∷◌, ◌++◌, Option, Some, None}
use Rattle.std.specs.Prelude.{is_some, option_map}
use Rattle.std.specs.Option.{option_or}
use Rattle.sof_desk.specs.Desk.{DeskCall}
use Rattle.stream_law.specs.State.{FwState}
use Rattle.mbox_link.specs.Step.{fresh, step}
use Rattle.mbox_link.specs.Calls as calls
use Rattle.mbox_link.specs.Calls.{Meaning}
use Rattle.ipc3_trace.specs.declared.entry.Entry.{Entry}
use Rattle.ipc3_trace.specs.declared.entry.Entry.TheVariants.{Boot, Cut, Request, Reply, Tick, Lost}
use Rattle.ipc3_trace.specs.declared.fault.TraceFault.{TraceFault}
use Rattle.ipc3_trace.specs.declared.fault.ReplayFault.{ReplayFault}
use Rattle.ipc3_trace.specs.Steps.{quiescent, AreAlike, step_by, steps_from}
use Rattle.ipc3_trace.specs.FaultLines.{replay_fault_line}
use Rattle.sof_session.specs.Lives.{Life, Bare, Turns, device_of}
use Rattle.sof_script.specs.Tasks.{Turn}
use Rattle.sof_session.specs.SessionStep.{Calm}
use Rattle.run_replay.specs.declared.replay_fault.Stopped.TheVariants.{At}
use Rattle.run_desk.specs.Todo.{Todo, DoneBy}
use Rattle.run_desk.specs.DeskCalls.{answer_in}
use Rattle.run_replay.specs.Replaying.{next_place, record_fault, end_fault, on_after}
use Rattle.run_replay.specs.ReplayTodo.{stopped_todo, without_fault, replied_todo, give_todo, given_todo}
use Rattle.run_replay.specs.Replays.{reply_after, fault_from}
use Rattle.run_desk.proofs.Steps.{no_turns}
use Rattle.run_replay.proofs.ReplayPhases.{message-on, is-on}
use Rattle.run_replay.proofs.FollowedRecords.{alike-on, tick-follows, message-follows, failed-not}
use Rattle.run_replay.proofs.ReplayTurns.{Given, first-given, first-calm, later-calm, none-pending}

module _ {P : Type 0} (dsp : Meaning P) where
  module _ (room : ℕ) (end : Option TraceFault) (final : Bool → Todo) (alone : (on : Bool) (turns : List Turn) (made : List DeskCall) (status : ℕ) → DoneBy (final on) turns made status → turns ≡ []) where
    -- the first record at fault was reported, or none was and all were given
    abbrev pub Came : Option ReplayFault → Option FwState → List DeskCall → ℕ → Life P → Type 0
    Came None s made status last = DoneBy (final (is_some s)) [] made status × AreAlike (dsp.on (device_of last)) s
    Came (Some fault) s made status last = DoneBy (stopped_todo (At fault)) [] made status

    -- what all turns did where there are none
    told : (fault : ReplayFault) (turns : List Turn) (made : List DeskCall) (status : ℕ) → DoneBy (stopped_todo (At fault)) turns made status → DoneBy (stopped_todo (At fault)) [] made status
    told fault turns made status goes = subst (λ (ts : List Turn). DoneBy (stopped_todo (At fault)) ts made status) (no_turns (replay_fault_line fault) 2 turns made status goes) goes

    abbrev pub Walks : List Entry → Type 0
    Walks es = (d : P) (turns : List Turn) (made : List DeskCall) (status : ℕ) (last : Life P) (s : Option FwState) (awaited : Option (List ℕ)) (at : ℕ) → Turns dsp (Bare d) turns last → DoneBy (given_todo room es end (is_some s) awaited at final) turns made status
        → AreAlike (dsp.on d) s → dsp.pending d ≡ 0 → Calm dsp d (device_of last) → Came (fault_from room es end s awaited at) (steps_from s es) made status last

    walk-end : Walks []
    walk-end d turns made status last s awaited at turned goes alike none calm = by (end_fault awaited at end) goes
      where
        by : (o : Option ReplayFault) → DoneBy (without_fault o (final (is_some s))) turns made status → Came o s made status last
        by (Some fault) goes = told fault turns made status goes
        by None goes =
            let no = alone (is_some s) turns made status goes in
            let is : last ≡ Bare d = subst (λ (ts : List Turn). Turns dsp (Bare d) ts last) no turned in (
              subst (λ (ts : List Turn). DoneBy (final (is_some s)) ts made status) no goes,
              subst (λ (l : Life P). AreAlike (dsp.on (device_of l)) s) (sym is) alike,
            )

    module _ (es : List Entry) (others : Walks es) (d : P) (made : List DeskCall) (status : ℕ) (last : Life P) (s : Option FwState) (at : ℕ) (alike : AreAlike (dsp.on d) s) (none : dsp.pending d ≡ 0) (calm : Calm dsp d (device_of last)) where
      -- what comes after a record
      abbrev Behind : Entry → Type 0
      Behind e = Came (fault_from room es end (step_by s e) (reply_after s e) (next_place at e)) (steps_from (step_by s e) es) made status last

      abbrev then_given : Entry → Option (List ℕ) → Todo
      then_given e reply = given_todo room es end (on_after (is_some s) e) reply (next_place at e) final

      boot-walk : (heap : ℕ) (turns : List Turn) → Turns dsp (Bare d) turns last → DoneBy (give_todo (Boot heap) (then_given (Boot heap))) turns made status → Behind (Boot heap)
      boot-walk heap [] turned goes = absurd goes
      boot-walk heap (turn ∷ turns) turned goes =
          let g = first-given dsp (calls.Boot heap) turn turns d last goes.0 turned in
          others g.after turns made status last (Some (fresh heap)) None (next_place at (Boot heap)) g.rest goes.1 (ap (option_map quiescent) (g.did).0.on) (none-pending dsp g none) (later-calm dsp g calm)

      cut-walk : (turns : List Turn) → Turns dsp (Bare d) turns last → DoneBy (give_todo Cut (then_given Cut)) turns made status → Behind Cut
      cut-walk [] turned goes = absurd goes
      cut-walk (turn ∷ turns) turned goes =
          let g = first-given dsp calls.Cut turn turns d last goes.0 turned in
          others g.after turns made status last None None (next_place at Cut) g.rest goes.1 (ap (option_map quiescent) (g.did).0.on) (none-pending dsp g none) (later-calm dsp g calm)

      tick-on : (s : Option FwState) → is_some (step_by s Tick) ≡ is_some s
      tick-on None = refl
      tick-on (Some f) = refl

      tick-walk : (turns : List Turn) → Turns dsp (Bare d) turns last → DoneBy (give_todo Tick (then_given Tick)) turns made status → Behind Tick
      tick-walk [] turned goes = absurd goes
      tick-walk (turn ∷ turns) turned goes =
          let g = first-given dsp calls.Tick turn turns d last goes.0 turned in
          others g.after turns made status last (step_by s Tick) None (next_place at Tick) g.rest
          (subst (λ (b : Bool). DoneBy (given_todo room es end b None (next_place at Tick) final) turns made status) (sym (tick-on s)) goes.1) (tick-follows dsp d g.after s alike g.did) (none-pending dsp g none) (later-calm dsp g calm)

      -- a device that is on answers what the firmware does
      module _ (message : List ℕ) (f : FwState) (s_is : s ≡ Some f) (turns : List Turn) where
        same : AreAlike (dsp.on d) (Some f)
        same = subst (λ (t : Option FwState). AreAlike (dsp.on d) t) s_is alike

        answered : (answer : Option (List ℕ)) (g : Given dsp (calls.Exchange message answer) turns d last) → DoneBy (replied_todo (then_given (Request message)) answer) turns made status → Behind (Request message)
        answered None g goes = absurd (failed-not dsp d g.after message (alike-on (dsp.on d) (Some f) same) (first-calm dsp g calm) g.did)
        answered (Some reply) g goes =
            let m = message-follows dsp d g.after message reply f same none (first-calm dsp g calm) g.did in
            let later : DoneBy (given_todo room es end true (Some (step f message).1) (next_place at (Request message)) final) turns made status =
            subst (λ (t : Option FwState). DoneBy (given_todo room es end (is_some t) (Some (step f message).1) (next_place at (Request message)) final) turns made status) s_is
            (subst (λ (r : List ℕ). DoneBy (given_todo room es end (is_some s) (Some r) (next_place at (Request message)) final) turns made status) m.0 goes) in
            subst (λ (t : Option FwState). Came (fault_from room es end (step_by t (Request message)) (reply_after t (Request message)) (next_place at (Request message))) (steps_from (step_by t (Request message)) es) made status last) (sym s_is)
            (others g.after turns made status last (Some (step f message).0) (Some (step f message).1) (next_place at (Request message)) g.rest later m.1 (none-pending dsp g none) (later-calm dsp g calm))

      message-walk : (message : List ℕ) (turns : List Turn) → is_some s ≡ true → Turns dsp (Bare d) turns last → DoneBy (give_todo (Request message) (then_given (Request message))) turns made status → Behind (Request message)
      message-walk message [] on turned goes = absurd goes
      message-walk message (turn ∷ turns) on turned goes =
          let f = is-on s on in
          answered message f.0 f.1 turns (answer_in turn.task) (first-given dsp (calls.Exchange message (answer_in turn.task)) turn turns d last goes.0 turned) goes.1

      give-walk : (e : Entry) (awaited : Option (List ℕ)) (turns : List Turn) → record_fault room (is_some s) awaited at e ≡ None → Turns dsp (Bare d) turns last → DoneBy (give_todo e (then_given e)) turns made status → Behind e
      give-walk (Boot heap) awaited turns right turned goes = boot-walk heap turns turned goes
      give-walk Cut awaited turns right turned goes = cut-walk turns turned goes
      give-walk (Request message) awaited turns right turned goes = message-walk message turns (message-on room (is_some s) awaited at message right) turned goes
      give-walk Tick awaited turns right turned goes = tick-walk turns turned goes
      give-walk (Reply reply) awaited turns right turned goes = others d turns made status last s None (next_place at (Reply reply)) turned goes alike none calm
      give-walk Lost awaited turns right turned goes = others d turns made status last s None (next_place at Lost) turned goes alike none calm

    pub walk : (es : List Entry) → Walks es
    walk [] d turns made status last s awaited at turned goes alike none calm = walk-end d turns made status last s awaited at turned goes alike none calm
    walk (e ∷ es) d turns made status last s awaited at turned goes alike none calm = by (walk es) (record_fault room (is_some s) awaited at e) refl goes
      where
        by : Walks es → (o : Option ReplayFault) → record_fault room (is_some s) awaited at e ≡ o → DoneBy (without_fault o (give_todo e (λ reply. given_todo room es end (on_after (is_some s) e) reply (next_place at e) final))) turns made status
            → Came (option_or o (fault_from room es end (step_by s e) (reply_after s e) (next_place at e))) (steps_from (step_by s e) es) made status last
        by others (Some fault) is goes = told fault turns made status goes
        by others None is goes = give-walk es others d made status last s at alike none calm e awaited turns is turned goes
