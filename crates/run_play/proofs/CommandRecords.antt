-- A command over a tracer leaves the records of its deeds, where the device does nothing of its own accord.
use Rattle.std.proofs.Common.{◌≡◌, refl, sym, ap, ◌∙◌, subst, ℕ, ◌+◌, ◌*◌, ◌≤◌, replicate, Bool, true, false, List, [], ◌∷◌, ◌++◌, length, Option, Some, None, Ok, Err, arith}
use Rattle.std.proofs.lemmas.List.{append-nil}
use Rattle.std.specs.Prelude.{is_some}
use Rattle.stream_law.specs.Past as past
use Rattle.stream_law.specs.Past.{Moment}
use Rattle.ipc3_model.specs.Messages.{message_spelling}
use Rattle.ipc3_model.proofs.Spelled.{length-spelling, size-most}
use Rattle.mbox_link.specs.declared.fates.Fate.{Fate}
use Rattle.mbox_link.specs.declared.fates.Fate.TheVariants.{Pass, Refuse, Drop, Lose}
use Rattle.mbox_link.specs.Exchange.{more}
use Rattle.mbox_link.specs.CalmDevice.{calm}
use Rattle.mbox_link.specs.Calls as calls
use Rattle.mbox_link.specs.Calls.{World, Meaning, Call, Led, Steady}
use Rattle.mbox_link.specs.declared.fates.Entry.{Entry as MeetingEntry}
use Rattle.mbox_link.specs.Meetings.{Meeting, Queue, Doing, fate_met, next_meeting, planned, queue_of, without_entry}
use Rattle.mbox_link.specs.Wire.{Wire}
use Rattle.mbox_link.specs.Link.{link, inner, Met, next_fate, next_lag}
use Rattle.mbox_link.proofs.FateLaws.{lag-held}
use Rattle.mbox_link.proofs.Led.{Led-steady}
use Rattle.tplg_plan.specs.declared.plans.Plan.{Plan}
use Rattle.tplg_plan.specs.Sound.{IsSound}
use Rattle.host_widgets.specs.declared.answers.Answer.{Answer}
use Rattle.host_widgets.specs.declared.answers.HostFault.{HostFault}
use Rattle.host_widgets.specs.declared.answers.HostFault.TheVariants.{LinkDown}
use Rattle.host_widgets.specs.declared.kept.Power.{Power}
use Rattle.host_widgets.specs.declared.kept.Power.TheVariants.{On}
use Rattle.host_widgets.specs.declared.kept.Record.{Record}
use Rattle.host_widgets.specs.Host.{Outcome, IsRecordOf}
use Rattle.host_widgets.specs.HostActs.{Act}
use Rattle.host_widgets.specs.ActMessages.{act_message}
use Rattle.host_widgets.specs.ActRules.{ActRules}
use Rattle.host_widgets.specs.OneAct.{Performed, act_rules, one_act}
use Rattle.host_widgets.specs.Walk.{Walked, followed_by, goes_past, walk}
use Rattle.host_widgets.specs.ActCalls.{ActDid, ActsDid, Onwards, calls_of, next_of}
use Rattle.host_widgets.specs.Orders.{Procedure, Ending, Plain, Loading, Resuming, Suspending, goes_on_after_refusal, end_by, where_on}
use Rattle.host_widgets.specs.Routines.{JobDone, order_job}
use Rattle.ipc3_trace.specs.Tracing.{Traced, tracer}
use Rattle.ipc3_trace.specs.Steps.{Deed}
use Rattle.sof_script.specs.declared.script.Command.{Command}
use Rattle.sof_script.specs.declared.script.Command.TheVariants as commands
use Rattle.sof_session.specs.Agreement.{IsFated}
use Rattle.sof_session.specs.AskedOrders.{asked_order}
use Rattle.sof_session.specs.CommandTests.{asking, fault_of}
use Rattle.sof_session.specs.Commands.{command_rules, is_plan, order_of}
use Rattle.sof_session.specs.SessionStep.{Calm, CallsBy, CommandDone, DidAsMet, known_of}
use Rattle.sof_session.proofs.LinkFates.{Steady-none, exchange_fated, exchange_steady, Led-inside, Led-fated}
use Rattle.sof_session.proofs.Carrying.{Quietly, quietly}
use Rattle.sof_session.proofs.LinkWalks.{walks-agree}
use Rattle.sof_session.proofs.Doings.{DidSo}
use Rattle.sof_session.proofs.CalmDoings.{acts-steady}
use Rattle.sof_session.proofs.StepCounts.{Calm-between}
use Rattle.sof_session.proofs.StillOrders.{IsStill, set-still, bytes-still, get-still, read-still, asked-still}
use Rattle.sof_session.proofs.FewOrders.{due, few-order, few-most}
use Rattle.run_play.specs.StepCalls.{met_calls, exchange_calls, calls_onwards, acts_calls, routine_calls, calls_by, command_calls}
use Rattle.run_play.specs.Met.{sent_deeds, act_deeds, acts_deeds, moment_deeds, order_deeds, deeds_by, command_deeds}
use Rattle.run_play.proofs.DeedRecords.{Leaves, none-leaves, within, retold, append-leaves, boot-leaves, cut-leaves, tick-leaves, ticks-leave, ticks-on, exchange-leaves}

-- ---- how many moments come before and after the acts of a command

where-few : (power : Power) (moment : Moment) → length (where_on power (moment ∷ [])) ≤ 1
where-few On moment = omega arith
where-few power moment = omega arith

still-first : (o : Procedure) → IsStill o → length o.first ≤ 1
still-first o is = omega (arith, ap length is.first)

first-few : (plan : Plan) (kept : Record) (command : Command) → length (order_of plan kept command).first ≤ 1
first-few plan kept commands.Load = omega arith
first-few plan kept commands.Unload = where-few kept.power past.Cut
first-few plan kept commands.Show = omega arith
first-few plan kept commands.Suspend = omega arith
first-few plan kept commands.Resume = omega arith
first-few plan kept (commands.Tick n) = where-few kept.power past.Tick
first-few plan kept (commands.Set name values) = still-first (order_of plan kept (commands.Set name values)) (set-still plan kept name values)
first-few plan kept (commands.Bytes name blob) = still-first (order_of plan kept (commands.Bytes name blob)) (bytes-still plan kept name blob)
first-few plan kept (commands.Get name) = still-first (order_of plan kept (commands.Get name)) (get-still plan kept name)
first-few plan kept (commands.Read name) = still-first (order_of plan kept (commands.Read name)) (read-still plan kept name)
first-few plan kept command = still-first (asked_order plan kept (asking command)) (asked-still plan kept (asking command))

last-few : (ending : Ending) (plan : Plan) (done : Record → Record) (start now : Record) (outcome : Outcome) → length (end_by ending plan done start now outcome).1 ≤ 1
last-few Plain plan done start now (Err LinkDown) = omega arith
last-few Plain plan done start now (Err fault) = omega arith
last-few Loading plan done start now (Err fault) = omega arith
last-few Resuming plan done start now (Err fault) = omega arith
last-few Suspending plan done start now outcome = omega arith
last-few ending plan done start now (Ok passed) = omega arith

-- ---- over a link

module _ {P : Type 0} (device : Meaning P) (C : Type 0) (plan : Plan) (heap : ℕ) where
  abbrev T : Meaning (Traced P)
  T = tracer device

  abbrev R : ActRules Record Act
  R = act_rules plan heap

  abbrev L : World (Traced P) → World (Traced P) → List Call → List Deed → ℕ → Type 0
  L w v cs deeds most = Leaves device C w v cs deeds most

  -- the device does nothing of its own accord from one world to another
  abbrev IsCalm : World (Wire (Traced P)) → World (Wire (Traced P)) → Type 0
  IsCalm w v = C → Calm T w.device.device v.device.device

  -- ---- moments

  moments-leave : (moments : List Moment) (w v : World (Wire (Traced P))) → Led (link T) w (calls_of heap moments) v → L (inner w) (inner v) (calls_of heap moments) (moment_deeds heap moments) (392 * length moments)
  moments-leave [] w v led = none-leaves device C (392 * 0) (ap (λ (x : World (Wire (Traced P))). inner x) led)
  moments-leave (past.Now view fresh ∷ moments) w v led = within device C (392 * length (past.Now view fresh ∷ moments)) (omega arith) (moments-leave moments w v led)
  moments-leave (past.Boot ∷ moments) w v led =
      append-leaves device C (392 * length (past.Boot ∷ moments)) (omega arith) (boot-leaves device C heap (inner w) (inner led.0) (led.1.0.did.0, led.1.1)) (moments-leave moments led.0 v led.2)
  moments-leave (past.Cut ∷ moments) w v led =
      append-leaves device C (392 * length (past.Cut ∷ moments)) (omega arith) (cut-leaves device C (inner w) (inner led.0) (led.1.0.did.0, led.1.1)) (moments-leave moments led.0 v led.2)
  moments-leave (past.Tick ∷ moments) w v led =
      append-leaves device C (392 * length (past.Tick ∷ moments)) (omega arith) (tick-leaves device C (inner w) (inner led.0) led.1.did.0) (moments-leave moments led.0 v led.2)

  -- ---- one act

  -- by its planned fate
  fate-leaves : (fate : Fate) (request : List ℕ) (answer : Option (List ℕ)) (w v : World (Traced P)) → is_some (T.on w.device) ≡ true → length request ≤ 384 → (C → Calm T w.device v.device) → (met : Met T fate request answer w v) →
      L w v (met_calls T fate request answer w v met) (sent_deeds (fate_met fate Pass) request) 784
  fate-leaves Pass request answer w v on short quiet met = exchange-leaves device C request answer w v on short met quiet
  fate-leaves (Refuse e) request answer w v on short quiet met = none-leaves device C 784 met.1
  fate-leaves Drop request answer w v on short quiet met = none-leaves device C 784 met.1
  fate-leaves Lose request answer w v on short quiet met = exchange-leaves device C request met.1 w v on short met.2 quiet

  -- the meeting that is planned for the next message, where the device passes it
  abbrev next_due : Wire (Traced P) → Meeting × Queue
  next_due wire = next_meeting calm (queue_of wire)

  module _ (kept : Record) (act : Act) (m : Meeting) (w v : World (Wire (Traced P))) (did : ActDid (link T) R kept act m w v) (fated : IsFated w.device) (quiet : IsCalm w v) where
    abbrev request : List ℕ
    request = message_spelling (act_message plan act)

    short : length request ≤ 384
    short = omega (arith, length-spelling (act_message plan act) did.message, size-most (act_message plan act) did.message)

    lag-few : next_lag w.device ≤ 16
    lag-few = omega (arith, lag-held (more w.device.sent) w.device.entries fated.held (next_lag w.device) refl, fated.held.few)

    act-leaves : L (inner w) (inner v) (exchange_calls T request did.answer w v did.exchanged) (act_deeds plan act (next_due w.device).0) 912
    act-leaves =
        let late = did.exchanged.did.0 in
        let n = next_lag w.device in
        let mid = late.0 in
        let steady = Led-steady T (replicate n calls.Tick) (inner w) mid late.1 in
        let still = Steady-none T v.device.device v.device.device refl in
        let rest = fate-leaves (next_fate w.device) request did.answer mid (inner v) (ticks-on device C n (inner w) mid late.1 did.on) short
        (λ c. Calm-between T w.device.device mid.device v.device.device v.device.device steady still (quiet c)) late.2 in
        append-leaves device C 912 (omega (arith, lag-few)) (ticks-leave device C n (inner w) mid late.1) rest

  -- ---- acts, one after another

  -- the deeds of those whose messages were sent, by what was due
  abbrev deeds_of : Queue → Walked Record Act (List Meeting) → List Deed
  deeds_of q walked = acts_deeds plan (next_meeting calm) q walked.sent

  module _ (goes_on : Bool) where
    abbrev walk_of : Record → List Meeting → List Act → Walked Record Act (List Meeting)
    walk_of kept ms acts = walk R goes_on next_of kept ms acts

    module _ (kept : Record) (act : Act) (m : Meeting) (acts : List Act) (ms : List Meeting) (w mid v : World (Wire (Traced P))) (did : ActDid (link T) R kept act m w mid) (fated : IsFated w.device) (quiet : IsCalm w v) where
      abbrev made : Performed Record
      made = one_act R kept act m

      abbrev asked : List ℕ
      asked = message_spelling (act_message plan act)

      -- the acts after it, and their calls
      abbrev Others : Type 0
      Others = ActsDid (link T) R goes_on made.kept acts ms mid v

      abbrev others_calls : Others → List Call
      others_calls on = acts_calls T R goes_on made.kept acts ms mid v on

      later-steady : (b : Bool) → Onwards b ms mid v Others → Steady T mid.device.device v.device.device
      later-steady true on = acts-steady T R goes_on acts ms made.kept mid v on
      later-steady false on = Steady-none T mid.device.device v.device.device (ap (λ (x : World (Wire (Traced P))). x.device.device) on.1)

      first : (b : Bool) → Onwards b ms mid v Others → L (inner w) (inner mid) (exchange_calls T asked did.answer w mid did.exchanged) (act_deeds plan act (next_due w.device).0) 912
      first b on =
          let begins = Steady-none T w.device.device w.device.device refl in
          act-leaves kept act m w mid did fated (λ c. Calm-between T w.device.device w.device.device mid.device.device v.device.device begins (later-steady b on) (quiet c))

      later-calm : IsCalm mid v
      later-calm c =
          Calm-between T w.device.device mid.device.device v.device.device v.device.device (exchange_steady T asked did.answer w mid did.exchanged) (Steady-none T v.device.device v.device.device refl) (quiet c)

      goes-past : (b : Bool) → ((on : Others) → IsFated mid.device → IsCalm mid v → L (inner mid) (inner v) (others_calls on) (deeds_of (queue_of mid.device) (walk_of made.kept ms acts)) (912 * length acts)) → (on : Onwards b ms mid v Others) →
          L (inner w) (inner v) (exchange_calls T asked did.answer w mid did.exchanged ++ calls_onwards b ms mid v Others others_calls on)
          (deeds_of (queue_of w.device) (followed_by act made ms b (walk_of made.kept ms acts))) (912 * length (act ∷ acts))
      goes-past true others on =
          let rest = others on (exchange_fated T asked did.answer w mid did.exchanged fated) later-calm in
          retold device C (append-leaves device C (912 * length (act ∷ acts)) (omega arith) (first true on) rest)
          (λ c i. act_deeds plan act (next_due w.device).0 ++ deeds_of (queue_of (did.exchanged.did.1 i)) (walk_of made.kept ms acts))
      goes-past false others on = append-leaves device C (912 * length (act ∷ acts)) (omega arith) (first false on) (none-leaves device C 0 (ap (λ (x : World (Wire (Traced P))). inner x) on.1))

    walk-leaves : (acts : List Act) (ms : List Meeting) (kept : Record) (w v : World (Wire (Traced P))) (did : ActsDid (link T) R goes_on kept acts ms w v) → IsFated w.device → IsCalm w v →
        L (inner w) (inner v) (acts_calls T R goes_on kept acts ms w v did) (deeds_of (queue_of w.device) (walk_of kept ms acts)) (912 * length acts)
    walk-leaves [] ms kept w v did fated quiet = none-leaves device C (912 * 0) (ap (λ (x : World (Wire (Traced P))). inner x) did.1)
    walk-leaves (act ∷ acts) [] kept w v did fated quiet = absurd did
    walk-leaves (act ∷ acts) (m ∷ ms) kept w v did fated quiet =
        let a = one_act R kept act m in
        goes-past kept act m acts ms w did.0 v did.1 fated quiet (goes_past goes_on a.outcome) (λ on. walk-leaves acts ms a.kept did.0 v on) did.2

  -- ---- an order whose job is done

  module _ (o : Procedure) (kept kept' : Record) (w v : World (Wire (Traced P))) (result : Outcome) (j : JobDone (link T) R heap (order_job plan kept o) kept' w v result) (fated : IsFated w.device) (none : T.pending w.device.device ≡ 0) (quiet : IsCalm w v)
      (so : C → DidSo calm w.device.sent w.device.entries j.meetings) where
    abbrev goes_on : Bool
    goes_on = goes_on_after_refusal o.ending

    abbrev last_of : {Q : Type 0} → Walked Record Act Q → List Moment
    last_of x = (end_by o.ending plan o.done kept x.kept x.outcome).1

    -- what its acts met, and the end of their exchanges
    abbrev ms : List Meeting
    ms = j.did.0

    abbrev walked_to : World (Wire (Traced P))
    walked_to = j.did.2

    abbrev met : Walked Record Act (List Meeting)
    met = walk_of goes_on kept ms o.acts

    before : Quietly T heap w j.begun
    before = quietly T heap o.first w j.begun j.first

    begun_fated : IsFated j.begun.device
    begun_fated = Led-fated T (calls_of heap o.first) w j.begun fated j.first

    begun_so : C → DidSo calm j.begun.device.sent j.begun.device.entries ms
    begun_so x =
        let same : j.meetings ≡ ms = j.did.3 ∙ ap (λ (late : List Meeting). ms ++ late) j.did.5.0 ∙ append-nil ms in
        subst (λ (y : Queue × List Meeting). DidSo calm y.0.sent y.0.entries y.1) (λ i. (sym before.queue i, same i)) (so x)

    walked : L (inner j.begun) (inner walked_to) (acts_calls T R goes_on kept o.acts ms j.begun walked_to j.did.4) (deeds_of (queue_of j.begun.device) met) (912 * length o.acts)
    walked =
        let first = Led-inside T (calls_of heap o.first) w j.begun j.first in
        let last = Led-inside T (calls_of heap (last_of met)) walked_to v j.did.5.1 in
        walk-leaves goes_on o.acts ms kept j.begun walked_to j.did.4 begun_fated (λ x. Calm-between T w.device.device j.begun.device.device walked_to.device.device v.device.device first last (quiet x))

    -- its deeds are those of the walk that is written
    same-deeds : C → moment_deeds heap o.first ++ (deeds_of (queue_of j.begun.device) met ++ moment_deeds heap (last_of met)) ≡ order_deeds plan heap (known_of w.device kept) o
    same-deeds x =
        let agreed = walks-agree T R goes_on calm o.acts ms kept j.begun walked_to j.did.4 (before.pending ∙ none) begun_fated.held (begun_so x) in
        (λ i. moment_deeds heap o.first ++ (acts_deeds plan (next_meeting calm) (queue_of j.begun.device) (agreed.same.sent i) ++ moment_deeds heap (end_by o.ending plan o.done kept (agreed.same.left i) (agreed.same.outcome i)).1))
        ∙ ap (λ (q : Queue). order_deeds plan heap (record { kept = kept; queue = q }) o) before.queue

    pub order-leaves : length o.first ≤ 1 → length o.acts ≤ 900 →
        L (inner w) (inner v) (calls_of heap o.first ++ routine_calls T R heap kept (order_job plan kept o).routine j.meetings j.begun v j.did) (order_deeds plan heap (known_of w.device kept) o) 1048576
    order-leaves few acts =
        let last = moments-leave (last_of met) walked_to v j.did.5.1 in
        let later = append-leaves device C (392 + 912 * length o.acts) (omega (arith, last-few o.ending plan o.done kept met.kept met.outcome)) walked last in
        retold device C (append-leaves device C 1048576 (omega (arith, few, acts)) (moments-leave o.first w j.begun j.first) later) same-deeds

-- ---- a command

-- what messages met, where the device did nothing of its own accord
met-calm : (doing : Doing) → ((number : ℕ) → doing number ≡ Pass) → (sent : ℕ) (entries : List MeetingEntry) (ms : List Meeting) → DidAsMet doing (record { sent = sent; entries = entries }) ms → DidSo calm sent entries ms
met-calm doing none sent entries [] as_met = tt
met-calm doing none sent entries (m ∷ ms) as_met =
    let n = more sent in
    (by (planned entries n).fate as_met.0, met-calm doing none n (without_entry n entries) ms as_met.1)
  where
    by : (fate : Fate) → (fate ≡ Pass → doing (more sent) ≡ m.fate) → fate_met fate Pass ≡ fate_met fate m.fate
    by Pass is = sym (none (more sent)) ∙ is refl
    by fate is = refl

module _ {P : Type 0} (device : Meaning P) (plan : Plan) (heap : ℕ) (command : Command) (kept kept' : Record) (w v : World (Wire (Traced P))) (answer : Answer) (sound : IsSound plan) (is : IsRecordOf plan kept) (fated : IsFated w.device)
    (none : (tracer device).pending w.device.device ≡ 0) (done : CommandDone (tracer device) (command_rules plan heap) heap command kept kept' w v answer) where
  abbrev C : Type 0
  C = Calm (tracer device) w.device.device v.device.device

  abbrev o : Procedure
  o = order_of plan kept command

  -- Its calls leave records in front of which there is room, each of which a reader takes; and those of its deeds, where no count rose.
  abbrev pub Left : List Call → List Deed → Type 0
  Left cs deeds = Leaves device C (inner w) (inner v) cs deeds 1048576

  calls-leave : (is_planned : Bool) (fault : Option HostFault) → fault_of plan kept command ≡ fault → (by : CallsBy (tracer device) (act_rules plan heap) heap done.doing (order_job plan kept o) kept' w v answer is_planned fault) →
      Left (calls_by (tracer device) (act_rules plan heap) heap done.doing (order_job plan kept o) kept' w v answer is_planned fault by) (deeds_by plan heap (known_of w.device kept) o is_planned fault)
  calls-leave true fault at by = none-leaves device C 1048576 (λ i. record { device = by.0 i; io = by.1 i })
  calls-leave false (Some fault) at by = none-leaves device C 1048576 (ap (λ (x : World (Wire (Traced P))). inner x) by)
  calls-leave false None at by =
      let few : length (due o (fault_of plan kept command)) ≤ 900 = omega (arith, few-order plan sound command kept is, few-most command) in
      order-leaves device C plan heap o kept kept' w v by.0 by.1 fated none (λ x. x) (λ x. met-calm done.doing (done.none x) w.device.sent w.device.entries by.1.meetings by.3) (first-few plan kept command)
      (subst (λ (f : Option HostFault). length (due o f) ≤ 900) at few)

  pub command-leaves : Left (command_calls (tracer device) (command_rules plan heap) heap command kept kept' w v answer done) (command_deeds plan heap (known_of w.device kept) command)
  command-leaves = calls-leave (is_plan command) (fault_of plan kept command) refl done.calls
