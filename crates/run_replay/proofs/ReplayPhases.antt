-- The records of a trace that are left, given to a device, make all of it given.
use Rattle.std.proofs.Common.{◌≡◌, refl, sym, ap, ◌∙◌, subst, ℕ, zero, suc, ◌-◌, ◌<◌, ◌≤◌, Bool, true, false, not, List, [], ◌∷◌, length, Option, Some, None, Result, Ok, Err, inl, inr, codes, arith}
use Rattle.std.specs.Prelude.{is_some, option_map}
use Rattle.std.specs.Option.{option_or}
use Rattle.sof_base.specs.Ports.{Io}
use Rattle.sof_base.proofs.FieldLaws.{IsBytes}
use Rattle.stream_law.specs.State.{FwState}
use Rattle.mbox_link.specs.Calls as calls
use Rattle.mbox_link.specs.Calls.{World, Meaning, Call, Did, Exchanged, Ticked, Steady, world}
use Rattle.mbox_link.specs.Exchange.{ticked, ticks, Stepped}
use Rattle.mbox_link.proofs.Led.{Led-steady, Steady-by}
use Rattle.host_widgets.specs.declared.answers.Answer.TheVariants.{Done}
use Rattle.ipc3_trace.specs.declared.entry.Entry.{Entry}
use Rattle.ipc3_trace.specs.declared.entry.Entry.TheVariants.{Boot, Cut, Request, Reply, Tick, Lost}
use Rattle.ipc3_trace.specs.declared.fault.TraceFault.{TraceFault}
use Rattle.ipc3_trace.specs.declared.fault.ReplayFault.{ReplayFault}
use Rattle.ipc3_trace.specs.declared.fault.ReplayFault.TheVariants as faults
use Rattle.ipc3_trace.specs.Reading.{trace_in}
use Rattle.ipc3_trace.specs.Steps.{no_ports, quiescent, AreAlike, step_by}
use Rattle.ipc3_trace.specs.RecordsAt.{IsRecordAt}
use Rattle.ipc3_trace.specs.TraceFaults.{IsFaultAt}
use Rattle.ipc3_trace.proofs.WholeLaws.{StandFrom, stands-in, goes-on, ends-here}
use Rattle.sof_desk.specs.Desk.{DeskMeaning, Loaded}
use Rattle.sof_session.specs.Lives.{Bare, Turned, Turns}
use Rattle.sof_script.specs.Tasks.{Give, Turn}
use Rattle.sof_session.specs.SessionStep.{Calm}
use Rattle.sof_session.proofs.LinkFates.{Steady-none}
use Rattle.sof_session.proofs.StepCounts.{Calm-between}
use Rattle.run_replay.specs.declared.replay_fault.Stopped.{Stopped}
use Rattle.run_replay.specs.declared.replay_fault.Stopped.TheVariants.{At, Device}
use Rattle.run_replay.specs.declared.replay_fault.Tally.{Tally}
use Rattle.run_replay.specs.Replaying.{next_place, order_where, record_fault, end_fault, on_after, tallied, tally_from, tally_of, replay_lines}
use Rattle.run_desk.specs.Todo.{Todo, End, Ask, Free, DoneBy, Played, RanOn}
use Rattle.run_desk.specs.TopologyBytes.{AreBytes}
use Rattle.run_desk.specs.LinesTodo.{lines_todo}
use Rattle.run_replay.specs.ReplayTodo.{stopped_todo, without_fault, give_todo, given_todo, replayed_todo, replay}
use Rattle.run_replay.specs.GivenRecords.{GaveRecord, WentOn, GivesOn, WentThrough}
use Rattle.run_replay.specs.Replays.{reply_after, fault_from, replay_fault}
use Rattle.run_desk.proofs.Steps.{ask_on, free_on, alone}
use Rattle.run_replay.proofs.FollowedRecords.{alike-on, gave-follows, gave-failed-not}

-- a message that is not at fault is given to a device that is on
pub is-order : (wrong : Bool) (at : ℕ) → order_where wrong at ≡ None → wrong ≡ false
is-order true at none = absurd (cc none)
is-order false at none = refl

not-off : (on : Bool) → not on ≡ false → on ≡ true
not-off true is = refl
not-off false is = absurd (cc is)

pub message-on : (room : ℕ) (on : Bool) (awaited : Option (List ℕ)) (at : ℕ) (message : List ℕ) → record_fault room on awaited at (Request message) ≡ None → on ≡ true
message-on room on None at message none = not-off on (is-order (not on) at none)
message-on room on (Some reply) at message none = absurd (cc none)

pub is-on : (o : Option FwState) → is_some o ≡ true → (f : FwState) × (o ≡ Some f)
is-on None e = absurd (cc e)
is-on (Some f) e = (f, refl)

-- an awaited reply
pub some-awaited : {A : Type 0} (o : Option A) → is_some o ≡ true → (a : A) × (o ≡ Some a)
some-awaited None is = absurd (cc is)
some-awaited (Some a) is = (a, refl)

pub none-awaited : {A : Type 0} (o : Option A) → is_some o ≡ false → o ≡ None
none-awaited None is = refl
none-awaited (Some a) is = absurd (cc is)

-- no kind has more records than there are bytes
pub tallied-within : (e : Entry) (t : Tally) (at next : ℕ) → at < next → t.boots ≤ at → t.messages ≤ at → t.ticks ≤ at → ((tallied e t).boots ≤ next) × ((tallied e t).messages ≤ next) × ((tallied e t).ticks ≤ next)
tallied-within (Boot heap) t at next far boots messages ticks = (omega (arith, far, boots), omega (arith, far, messages), omega (arith, far, ticks))
tallied-within e t at next far boots messages ticks = (omega (arith, far, boots), omega (arith, far, messages), omega (arith, far, ticks))

-- endpoints without slots stay so
ticks-bare : (n : ℕ) (s : FwState) → (ticks n (s, no_ports)).1 ≡ no_ports
ticks-bare zero s = refl
ticks-bare (suc n) s = ticks-bare n (ticked (s, no_ports)).0

module _ {P : Type 0} (means : Meaning P) where
  -- what a call does over endpoints without slots
  module _ (old new : P) (io jo : Io) (none : io ≡ no_ports) where
    abbrev pub bare : World P
    bare = record { device = old; io = no_ports }

    abbrev pub led_to : Io → World P
    led_to io = record { device = new; io = io }

    pub sent-bare : (message : List ℕ) (answer : Option (List ℕ)) → is_some (means.on old) ≡ true → Exchanged means message answer (record { device = old; io = io }) (led_to jo) → (jo ≡ no_ports) × Exchanged means message answer bare (led_to no_ports)
    sent-bare message answer on did = (still, subst (λ (io : Io). Exchanged means message answer bare (led_to io)) still over)
      where
        over : Exchanged means message answer bare (led_to jo)
        over = subst (λ (io : Io). Exchanged means message answer (record { device = old; io = io }) (led_to jo)) none did

        by : (p : FwState × Io) (refused faulted : Type 0) (answer : Option (List ℕ)) → Stepped refused faulted p message answer (means.on new) jo → jo ≡ p.1
        by p refused faulted (Some reply) stepped = stepped.0
        by p refused faulted None stepped = stepped.0

        still : jo ≡ no_ports
        still =
            let here = is-on (means.on old) on in
            by _ _ _ answer (over.step here.0 here.1) ∙ ticks-bare (means.pending old - means.pending new) here.0

    pub ticked-bare : Ticked means (record { device = old; io = io }) (led_to jo) → (jo ≡ no_ports) × Ticked means bare (led_to no_ports)
    ticked-bare did = (still, subst (λ (io : Io). Ticked means bare (led_to io)) still over)
      where
        over : Ticked means bare (led_to jo)
        over = subst (λ (io : Io). Ticked means (record { device = old; io = io }) (led_to jo)) none did

        by : (o : Option FwState) → means.on old ≡ o → jo ≡ no_ports
        by None off = (over.off off).1
        by (Some s) on = (over.on s on).1

        still : jo ≡ no_ports
        still = by (means.on old) refl

  -- what a call answers as a turn
  abbrev pub gives : Call → Turn
  gives call = record { task = Give call; out = record { answer = Done; shown = []; written = [] } }

  pub call-steady : (call : Call) (old new : P) → Did means call (world old [] []) (world new [] []) → Steady means old new
  call-steady call old new did = Led-steady means (call ∷ []) (world old [] []) (world new [] []) (world new [] [], did, refl)

  -- ---- one record

  pub give-on : (e : Entry) (next : Option (List ℕ) → Todo) (reply : Option (List ℕ)) (old new : P) → GaveRecord means e old (Ok reply) new → GivesOn means (give_todo e next) (next reply) old new
  give-on (Boot heap) next reply old new gave turns made status last turned goes =
      (gives (calls.Boot heap) ∷ turns, (Bare new, gave.1, turned), (refl, subst (λ (r : Option (List ℕ)). DoneBy (next r) turns made status) gave.0 goes))
  give-on Cut next reply old new gave turns made status last turned goes =
      (gives calls.Cut ∷ turns, (Bare new, gave.1, turned), (refl, subst (λ (r : Option (List ℕ)). DoneBy (next r) turns made status) gave.0 goes))
  give-on (Request message) next None old new gave turns made status last turned goes = absurd (cc gave.0)
  give-on (Request message) next (Some reply) old new gave turns made status last turned goes =
      (gives (calls.Exchange message (Some reply)) ∷ turns, (Bare new, gave.1, turned), (refl, goes))
  give-on Tick next reply old new gave turns made status last turned goes =
      (gives calls.Tick ∷ turns, (Bare new, gave.1, turned), (refl, subst (λ (r : Option (List ℕ)). DoneBy (next r) turns made status) gave.0 goes))
  give-on (Reply other) next reply old new gave turns made status last turned goes =
      (turns, subst (λ (d : P). Turns means (Bare d) turns last) gave.1 turned, subst (λ (r : Option (List ℕ)). DoneBy (next r) turns made status) gave.0 goes)
  give-on Lost next reply old new gave turns made status last turned goes =
      (turns, subst (λ (d : P). Turns means (Bare d) turns last) gave.1 turned, subst (λ (r : Option (List ℕ)). DoneBy (next r) turns made status) gave.0 goes)

  give-off : (e : Entry) (next : Option (List ℕ) → Todo) (old new : P) → GaveRecord means e old (Err Device) new → GivesOn means (give_todo e next) (stopped_todo Device) old new
  give-off (Request message) next old new gave turns made status last turned goes = (gives (calls.Exchange message None) ∷ turns, (Bare new, gave, turned), (refl, goes))
  give-off other next old new gave turns made status last turned goes = absurd gave

  gave-steady : (e : Entry) (reply : Option (List ℕ)) (old new : P) → GaveRecord means e old (Ok reply) new → Steady means old new
  gave-steady (Boot heap) reply old new gave = call-steady (calls.Boot heap) old new gave.1
  gave-steady Cut reply old new gave = call-steady calls.Cut old new gave.1
  gave-steady (Request message) reply old new gave = call-steady (calls.Exchange message reply) old new gave.1
  gave-steady Tick reply old new gave = call-steady calls.Tick old new gave.1
  gave-steady (Reply other) reply old new gave = Steady-none means old new gave.1
  gave-steady Lost reply old new gave = Steady-none means old new gave.1

  -- a message that is not at fault meets a device that is on
  sends-on : (e : Entry) (awaited : Option (List ℕ)) (at : ℕ) (old : P) → record_fault (means.most old) (is_some (means.on old)) awaited at e ≡ None → (message : List ℕ) → e ≡ Request message → is_some (means.on old) ≡ true
  sends-on e awaited at old none message is =
      message-on (means.most old) (is_some (means.on old)) awaited at message (subst (λ (x : Entry). record_fault (means.most old) (is_some (means.on old)) awaited at x ≡ None) is none)

  -- whether the device is on then
  pub sent-on : (message : List ℕ) (reply : Option (List ℕ)) (old new : P) → Exchanged means message reply (world old [] []) (world new [] []) → is_some (means.on old) ≡ true → is_some (means.on new) ≡ true
  sent-on message reply old new x on =
      let here = is-on (means.on old) on in
      by _ _ _ _ reply (x.step here.0 here.1)
    where
      by : (p : FwState × Io) (refused faulted : Type 0) (io : Io) (answer : Option (List ℕ)) → Stepped refused faulted p message answer (means.on new) io → is_some (means.on new) ≡ true
      by p refused faulted io (Some reply) (same, inl (is, reply_is)) = ap is_some is
      by p refused faulted io (Some reply) (same, inr (rose, refusal, is)) = ap is_some is
      by p refused faulted io None (same, rose, inl is) = ap is_some is
      by p refused faulted io None (same, rose, inr is) = ap is_some is

  pub ticked-on : (old new : P) → Did means calls.Tick (world old [] []) (world new [] []) → is_some (means.on new) ≡ is_some (means.on old)
  ticked-on old new did = by (means.on old) refl
    where
      by : (o : Option FwState) → means.on old ≡ o → is_some (means.on new) ≡ is_some o
      by None off = ap is_some (did.off off).0
      by (Some s) on = ap is_some (did.on s on).0

  on-is : (e : Entry) (awaited : Option (List ℕ)) (at : ℕ) (reply : Option (List ℕ)) (old new : P) → record_fault (means.most old) (is_some (means.on old)) awaited at e ≡ None → GaveRecord means e old (Ok reply) new → is_some (means.on new) ≡ on_after (is_some (means.on old)) e
  on-is (Boot heap) awaited at reply old new none gave = ap is_some gave.1.0.on
  on-is Cut awaited at reply old new none gave = ap is_some gave.1.0.on
  on-is (Request message) awaited at reply old new none gave =
      let on = message-on (means.most old) (is_some (means.on old)) awaited at message none in
      sent-on message reply old new gave.1 on ∙ sym on
  on-is Tick awaited at reply old new none gave = ticked-on old new gave.1
  on-is (Reply other) awaited at reply old new none gave = ap (λ (d : P). is_some (means.on d)) gave.1
  on-is Lost awaited at reply old new none gave = ap (λ (d : P). is_some (means.on d)) gave.1

  -- ---- one after another

  -- a state is alike to the device, from which the first fault of those that are left is this
  pub record FaultsOn (es : List Entry) (fault : Option TraceFault) (awaited : Option (List ℕ)) (at : ℕ) (found : Option ReplayFault) (new : P) : Type 0 where
    pub state : Option FwState
    pub alike : AreAlike (means.on new) state
    pub none : means.pending new ≡ 0
    pub is : found ≡ fault_from (means.most new) es fault state awaited at

  -- from a place on these are left, and giving them makes all given
  pub record LeftToGive (bytes : List ℕ) (at : ℕ) (awaited : Option (List ℕ)) (tally : Tally) (old new : P) : Type 0 where
    pub es : List Entry
    pub fault : Option TraceFault
    pub stand : StandFrom bytes at es fault
    pub tally_is : tally_from tally es ≡ tally_of (trace_in bytes).0
    pub leads : (last : Bool → Todo) → GivesOn means (given_todo (means.most old) (trace_in bytes).0 (trace_in bytes).1 false None 0 last) (given_todo (means.most new) es fault (is_some (means.on new)) awaited at last) old new
    pub steady : Steady means old new
    pub first : means.pending old ≡ 0 → Calm means old new → FaultsOn es fault awaited at (replay_fault (means.most old) (trace_in bytes).0 (trace_in bytes).1) new

  module _ (bytes : List ℕ) where
    abbrev Through : P → Result Tally Stopped → P → Type 0
    Through old result new = WentThrough means (trace_in bytes).0 (trace_in bytes).1 old result new

    pub give-first : (old : P) → IsBytes bytes → means.on old ≡ None → LeftToGive bytes 0 None (record { boots = 0; messages = 0; ticks = 0 }) old old
    give-first old are off = record {
      es = (trace_in bytes).0;
      fault = (trace_in bytes).1;
      stand = stands-in bytes are;
      tally_is = refl;
      leads = λ last turns made status end turned goes. (turns, turned, subst (λ (b : Bool). DoneBy (given_todo (means.most old) (trace_in bytes).0 (trace_in bytes).1 b None 0 last) turns made status) (ap is_some off) goes);
      steady = Steady-none means old old refl;
      first = λ none calm. record { state = None; alike = ap (option_map quiescent) off; none = none; is = refl };
    }

    module _ (at : ℕ) (awaited : Option (List ℕ)) (tally : Tally) (old mid : P) (left : LeftToGive bytes at awaited tally old mid) where
      -- the first fault of all
      abbrev whole : Option ReplayFault
      whole = replay_fault (means.most old) (trace_in bytes).0 (trace_in bytes).1

      -- is that of a record and those after it
      first-here : (e : Entry) (es : List Entry) → left.es ≡ e ∷ es → (f : FaultsOn left.es left.fault awaited at whole mid) →
          whole ≡ option_or (record_fault (means.most mid) (is_some (means.on mid)) awaited at e) (fault_from (means.most mid) es left.fault (step_by f.state e) (reply_after f.state e) (next_place at e))
      first-here e es is f =
          f.is ∙ ap (λ (xs : List Entry). fault_from (means.most mid) xs left.fault f.state awaited at) is
          ∙ ap (λ (b : Bool). option_or (record_fault (means.most mid) b awaited at e) (fault_from (means.most mid) es left.fault (step_by f.state e) (reply_after f.state e) (next_place at e))) (sym (alike-on (means.on mid) f.state f.alike))

      -- or of the end
      first-end : (end : Option TraceFault) → (left.es ≡ []) × (left.fault ≡ end) → (f : FaultsOn left.es left.fault awaited at whole mid) → whole ≡ end_fault awaited at end
      first-end end is f = f.is ∙ (λ i. fault_from (means.most mid) (is.0 i) (is.1 i) f.state awaited at)

      pub give-more : (next : ℕ) (e : Entry) (reply : Option (List ℕ)) (tally' : Tally) (new : P) → IsRecordAt bytes at e next → WentOn means e at awaited mid (Ok reply) new → tally' ≡ tallied e tally → LeftToGive bytes next reply tally' old new
      give-more next e reply tally' new r went is =
          let on = goes-on bytes at left.es left.fault e next left.stand r in
          let steady : Steady means mid new = gave-steady e reply mid new went.1 in
          record {
            es = on.0;
            fault = left.fault;
            stand = on.2;
            tally_is = ap (λ (t : Tally). tally_from t on.0) is ∙ sym (ap (tally_from tally) on.1) ∙ left.tally_is;
            leads = λ last turns made status end turned goes.
                let then_given : Option (List ℕ) → Todo = λ reply. given_todo (means.most mid) on.0 left.fault (on_after (is_some (means.on mid)) e) reply (next_place at e) last in
                let here : DoneBy (then_given reply) turns made status =
                subst (λ (n : ℕ). DoneBy (given_todo (means.most mid) on.0 left.fault (on_after (is_some (means.on mid)) e) reply n last) turns made status) r.behind
                (subst (λ (b : Bool). DoneBy (given_todo (means.most mid) on.0 left.fault b reply next last) turns made status) (on-is e awaited at reply mid new went.0 went.1)
                (subst (λ (room : ℕ). DoneBy (given_todo room on.0 left.fault (is_some (means.on new)) reply next last) turns made status) steady.most goes)) in
                let g = give-on e then_given reply mid new went.1 turns made status end turned here in
                let whole : DoneBy (given_todo (means.most mid) (e ∷ on.0) left.fault (is_some (means.on mid)) awaited at last) g.0 made status =
                subst (λ (f : Option ReplayFault). DoneBy (without_fault f (give_todo e then_given)) g.0 made status) (sym went.0) g.2 in
                left.leads last g.0 made status end g.1
                (subst (λ (es : List Entry). DoneBy (given_todo (means.most mid) es left.fault (is_some (means.on mid)) awaited at last) g.0 made status) (sym on.1) whole);
            steady = Steady-by means old mid new left.steady steady;
            first = λ none calm.
                let f = left.first none (Calm-between means old old mid new (Steady-none means old old refl) steady calm) in
                let still = Calm-between means old mid new new left.steady (Steady-none means new new refl) calm in
                let g = gave-follows means mid new e reply f.state f.alike f.none still (sends-on e awaited at mid went.0) went.1 in
                let rest : Option ReplayFault = fault_from (means.most mid) on.0 left.fault (step_by f.state e) (reply_after f.state e) (next_place at e) in
                record {
                  state = step_by f.state e;
                  alike = g.0;
                  none = omega (arith, f.none, steady.pending);
                  is = first-here e on.0 on.1 f ∙ ap (λ (o : Option ReplayFault). option_or o rest) went.0
                      ∙ (λ i. fault_from (sym steady.most i) on.0 left.fault (step_by f.state e) (sym g.1 i) (sym r.behind i));
                };
          }

      -- the record is at fault, or the device failed
      pub give-stopped : (next : ℕ) (e : Entry) (why : Stopped) (new : P) → IsRecordAt bytes at e next → WentOn means e at awaited mid (Err why) new → Through old (Err why) new
      give-stopped next e (At fault) new r went =
          let on = goes-on bytes at left.es left.fault e next left.stand r in (
            λ last turns made status end turned goes.
                let then_given : Option (List ℕ) → Todo = λ reply. given_todo (means.most mid) on.0 left.fault (on_after (is_some (means.on mid)) e) reply (next_place at e) last in
                let all : DoneBy (given_todo (means.most mid) (e ∷ on.0) left.fault (is_some (means.on mid)) awaited at last) turns made status =
                subst (λ (f : Option ReplayFault). DoneBy (without_fault f (give_todo e then_given)) turns made status) (sym went.0) goes in
                left.leads last turns made status end (subst (λ (d : P). Turns means (Bare d) turns end) went.1 turned)
                (subst (λ (es : List Entry). DoneBy (given_todo (means.most mid) es left.fault (is_some (means.on mid)) awaited at last) turns made status) (sym on.1) all),
            λ none calm.
                let f = left.first none (subst (λ (d : P). Calm means old d) went.1 calm) in
                let rest : Option ReplayFault = fault_from (means.most mid) on.0 left.fault (step_by f.state e) (reply_after f.state e) (next_place at e) in
                first-here e on.0 on.1 f ∙ ap (λ (o : Option ReplayFault). option_or o rest) went.0,
          )
      give-stopped next e Device new r went =
          let on = goes-on bytes at left.es left.fault e next left.stand r in (
            λ last turns made status end turned goes.
                let then_given : Option (List ℕ) → Todo = λ reply. given_todo (means.most mid) on.0 left.fault (on_after (is_some (means.on mid)) e) reply (next_place at e) last in
                let g = give-off e then_given mid new went.1 turns made status end turned goes in
                let all : DoneBy (given_todo (means.most mid) (e ∷ on.0) left.fault (is_some (means.on mid)) awaited at last) g.0 made status =
                subst (λ (f : Option ReplayFault). DoneBy (without_fault f (give_todo e then_given)) g.0 made status) (sym went.0) g.2 in
                left.leads last g.0 made status end g.1
                (subst (λ (es : List Entry). DoneBy (given_todo (means.most mid) es left.fault (is_some (means.on mid)) awaited at last) g.0 made status) (sym on.1) all),
            λ none calm.
                absurd (gave-failed-not means mid new e (Calm-between means old mid new new left.steady (Steady-none means new new refl) calm) (sends-on e awaited at mid went.0) went.1),
          )

      -- the end, or the first fault of the bytes
      abbrev Last : Option TraceFault → (Bool → Todo) → Todo
      Last end last = given_todo (means.most mid) [] end (is_some (means.on mid)) awaited at last

      ended : (end : Option TraceFault) → (left.es ≡ []) × (left.fault ≡ end) → (last : Bool → Todo) → GivesOn means (given_todo (means.most old) (trace_in bytes).0 (trace_in bytes).1 false None 0 last) (Last end last) old mid
      ended end is last turns made status end' turned goes =
          left.leads last turns made status end' turned
          (subst (λ (es : List Entry). DoneBy (given_todo (means.most mid) es left.fault (is_some (means.on mid)) awaited at last) turns made status) (sym is.0)
          (subst (λ (f : Option TraceFault). DoneBy (given_todo (means.most mid) [] f (is_some (means.on mid)) awaited at last) turns made status) (sym is.1) goes))

      pub give-broken : (fault : TraceFault) → at ≤ length bytes → IsFaultAt bytes at fault → Through old (Err (At (faults.Broken fault))) mid
      give-broken fault within is =
          let e = ends-here bytes at left.es left.fault (Some fault) left.stand (within, is) in
          (λ last turns made status end turned goes. ended (Some fault) e last turns made status end turned goes, λ none calm. first-end (Some fault) e (left.first none calm))

      pub give-wanting : (reply : List ℕ) → awaited ≡ Some reply → at ≡ length bytes → Through old (Err (At (faults.Order at))) mid
      give-wanting reply is here =
          let e = ends-here bytes at left.es left.fault None left.stand here in (
            λ last turns made status end turned goes.
                ended None e last turns made status end turned
                (subst (λ (o : Option (List ℕ)). DoneBy (without_fault (end_fault o at None) (last (is_some (means.on mid)))) turns made status) (sym is) goes),
            λ none calm. first-end None e (left.first none calm) ∙ ap (λ (o : Option (List ℕ)). end_fault o at None) is,
          )

      pub give-done : awaited ≡ None → at ≡ length bytes → Through old (Ok tally) mid
      give-done is here =
          let e = ends-here bytes at left.es left.fault None left.stand here in (
            sym (ap (tally_from tally) e.0) ∙ left.tally_is,
            λ last turns made status end turned goes.
                ended None e last turns made status end turned
                (subst (λ (o : Option (List ℕ)). DoneBy (without_fault (end_fault o at None) (last (is_some (means.on mid)))) turns made status) (sym is) goes),
            λ none calm. first-end None e (left.first none calm) ∙ ap (λ (o : Option (List ℕ)). end_fault o at None) is,
          )

-- ---- with the desk

module _ {D P : Type 0} (means : DeskMeaning D) (dsp : Meaning P) (es : List Entry) (end : Option TraceFault) where
  -- all were given, and the lines were said, or not all of them
  pub replayed-all : (old new : D) (p q : P) (tally : Tally) (status : ℕ) → WentThrough dsp es end p (Ok tally) q → Played means (lines_todo (replay_lines tally (is_some (dsp.on q))) End) old [] status new →
      RanOn means (Turned dsp) (replayed_todo (dsp.most p) es end) old (Bare p) status new (Bare q)
  replayed-all old new p q tally status went said =
      let goes : DoneBy (lines_todo (replay_lines (tally_of es) (is_some (dsp.on q))) End) [] said.calls status =
      subst (λ (t : Tally). DoneBy (lines_todo (replay_lines t (is_some (dsp.on q))) End) [] said.calls status) went.0 said.goes in
      let all = went.1 (λ on. lines_todo (replay_lines (tally_of es) on) End) [] said.calls status (Bare q) refl goes in
      record { turns = all.0; turned = all.1; played = record { calls = said.calls; led = said.led; goes = all.2 } }

  -- it was reported why no more were given
  pub replayed-stopped : (old new : D) (p q : P) (why : Stopped) (status : ℕ) → WentThrough dsp es end p (Err why) q → Played means (stopped_todo why) old [] status new →
      RanOn means (Turned dsp) (replayed_todo (dsp.most p) es end) old (Bare p) status new (Bare q)
  replayed-stopped old new p q why status went said =
      let all = went.0 (λ on. lines_todo (replay_lines (tally_of es) on) End) [] said.calls status (Bare q) refl said.goes in
      record { turns = all.0; turned = all.1; played = record { calls = said.calls; led = said.led; goes = all.2 } }

-- ---- the file

module _ {D P : Type 0} (means : DeskMeaning D) (dsp : Meaning P) where
  module _ (name bytes : List ℕ) (old m new : D) (p q : P) (status : ℕ) (loaded : Loaded means name 16777216 (Ok bytes) old m) (are : AreBytes bytes) where
    abbrev asks : List ℕ → Todo
    asks bytes = Free (replayed_todo (dsp.most p) (trace_in bytes).0 (trace_in bytes).1)

    pub replay-loaded : RanOn means (Turned dsp) (replayed_todo (dsp.most p) (trace_in bytes).0 (trace_in bytes).1) m (Bare p) status new (Bare q) → RanOn means (Turned dsp) (replay (dsp.most p) name) old (Bare p) status new (Bare q)
    replay-loaded ran = record {
      turns = ran.turns;
      turned = ran.turned;
      played = ask_on means name 16777216 (codes "too long trace\n") asks bytes ran.turns status old m new loaded are (free_on means (replayed_todo (dsp.most p) (trace_in bytes).0 (trace_in bytes).1) ran.turns status m new ran.played);
    }

  -- it was not loaded
  pub replay-failed : (name : List ℕ) (old new : D) (p : P) (status : ℕ) → ((next : List ℕ → Todo) → Played means (Ask name 16777216 (codes "too long trace\n") next) old [] status new) → RanOn means (Turned dsp) (replay (dsp.most p) name) old (Bare p) status new (Bare p)
  replay-failed name old new p status failed =
      alone means (Turned dsp) (replay (dsp.most p) name) old new (Bare p) status (failed (λ bytes. Free (replayed_todo (dsp.most p) (trace_in bytes).0 (trace_in bytes).1)))
