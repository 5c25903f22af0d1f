-- The deeds of a run start a device only where it is off: its records are without a fault in a replay.
use Rattle.std.proofs.Common.{◌≡◌, refl, sym, ap, ◌∙◌, subst, ℕ, zero, suc, ◌≤◌, Bool, true, false, List, [], ◌∷◌, ◌++◌, replicate, Option, Some, None, Ok, Err}
use Rattle.std.specs.Prelude.{is_some, if◌then◌else◌}
use Rattle.std.specs.List.{flat_map}
use Rattle.stream_law.specs.Past as past
use Rattle.stream_law.specs.State.{FwState}
use Rattle.ipc3_model.specs.Messages.{message_spelling}
use Rattle.mbox_link.specs.declared.fates.Fate.{Fate}
use Rattle.mbox_link.specs.declared.fates.Fate.TheVariants.{Pass, Refuse, Drop, Lose}
use Rattle.mbox_link.specs.declared.fates.Entry.{Entry as MeetingEntry}
use Rattle.mbox_link.specs.CalmDevice.{calm}
use Rattle.mbox_link.specs.Meetings.{Meeting, Queue, next_meeting}
use Rattle.tplg_plan.specs.declared.plans.Plan.{Plan}
use Rattle.host_widgets.specs.declared.answers.Answer.TheVariants as answers
use Rattle.host_widgets.specs.declared.answers.HostFault.{HostFault}
use Rattle.host_widgets.specs.declared.answers.HostFault.TheVariants.{LinkDown}
use Rattle.host_widgets.specs.declared.kept.Power.{Power}
use Rattle.host_widgets.specs.declared.kept.Power.TheVariants.{Unloaded, On, Off}
use Rattle.host_widgets.specs.declared.kept.Record.{Record}
use Rattle.host_widgets.specs.Host.{Outcome}
use Rattle.host_widgets.specs.Kept.{first_record, with_power, with_control}
use Rattle.host_widgets.specs.HostActs.{Act, Part, after, with_blob}
use Rattle.mbox_link.specs.BlobParts.{is_last}
use Rattle.host_widgets.specs.ActMessages.{act_message}
use Rattle.stream_law.specs.Past.{Moment}
use Rattle.host_widgets.specs.OneAct.{Performed, act_rules, one_act, performed, lag_of, outcome_by, own}
use Rattle.host_widgets.specs.Walk.{Walked, followed_by, goes_past, walk}
use Rattle.host_widgets.specs.Orders.{Procedure, Ending, goes_on_after_refusal, plain_end, brought_end, end_by, where_on, loading, unloading, suspending, resuming, ticking, fault_of_load}
use Rattle.host_widgets.specs.Routines.{order_job}
use Rattle.ipc3_trace.specs.declared.entry.Entry.{Entry}
use Rattle.ipc3_trace.specs.Steps.{Wait, recorded, steps_from}
use Rattle.sof_script.specs.declared.script.Command.{Command}
use Rattle.sof_script.specs.declared.script.Command.TheVariants as commands
use Rattle.sof_session.specs.AskedOrders.{asked_order}
use Rattle.sof_session.specs.CommandTests.{asking, fault_of}
use Rattle.sof_session.specs.Commands.{Known, carried, command_rules, first_known, next, order_of, planned_where_room, tested}
use Rattle.sof_session.proofs.StillOrders.{IsStill, quiet-still, set-still, bytes-still, get-still, read-still, asked-still}
use Rattle.run_play.specs.Met.{sent_deeds, act_deeds, acts_deeds, moment_deeds, order_deeds, deeds_by, command_deeds, met, met_from}
use Rattle.run_replay.specs.Replays.{fault_from, replay_fault}
use Rattle.sof_run.specs.PlayLaws.{TracesReplay}
use Rattle.sof_run.proofs.RightDeeds.{AreRight, right-append, right-leads, right-passes}

-- whether the host holds that the device is on
abbrev pub is_powered : Power → Bool
is_powered On = true
is_powered Unloaded = false
is_powered Off = false

-- ---- acts leave the power

-- acts that passed
after-power : (plan : Plan) (act : Act) (now : Record) → (after plan act now).power ≡ now.power
after-power plan (Part comp blob k) now = by (is_last blob k)
  where
    by : (b : Bool) → (if b then with_control plan comp (with_blob blob) now else now).power ≡ now.power
    by true = refl
    by false = refl
after-power plan act now = refl

performed-power : (plan : Plan) (heap : ℕ) (act : Act) (now : Record) (ticks : List Moment) (outcome : Outcome) → (performed (act_rules plan heap) act now ticks outcome).kept.power ≡ now.power
performed-power plan heap act now ticks (Ok done) = after-power plan act now
performed-power plan heap act now ticks (Err fault) = refl

followed-power : {Q : Type 0} (act : Act) (a : Performed Record) (q : Q) (b : Bool) (rest : Walked Record Act Q) (power : Power) → a.kept.power ≡ power → rest.kept.power ≡ a.kept.power → (followed_by act a q b rest).kept.power ≡ power
followed-power act a q true rest power first later = later ∙ first
followed-power act a q false rest power first later = first

walk-power : {Q : Type 0} (plan : Plan) (heap : ℕ) (goes_on : Bool) (next : Q → Meeting × Q) (acts : List Act) (kept : Record) (q : Q) → (walk (act_rules plan heap) goes_on next kept q acts).kept.power ≡ kept.power
walk-power plan heap goes_on next [] kept q = refl
walk-power plan heap goes_on next (act ∷ acts) kept q =
    let m = (next q).0 in
    let a = one_act (act_rules plan heap) kept act m in
    followed-power act a (next q).1 (goes_past goes_on a.outcome) (walk (act_rules plan heap) goes_on next a.kept (next q).1 acts) kept.power
    (performed-power plan heap act kept (lag_of m) (outcome_by m.fate (own plan heap kept act))) (walk-power plan heap goes_on next acts a.kept (next q).1)

-- ---- the deeds of a command

module _ (plan : Plan) (heap room : ℕ) (fits : heap ≤ room) where
  waits-right : (n : ℕ) (on : Bool) → AreRight room on (replicate n Wait) on
  waits-right zero on = refl
  waits-right (suc n) on = waits-right n on

  sent-right : (fate : Fate) (message : List ℕ) (on : Bool) → AreRight room on (sent_deeds fate message) on
  sent-right Pass message on = refl
  sent-right fate message on = refl

  act-right : (act : Act) (m : Meeting) (on : Bool) → AreRight room on (act_deeds plan act m) on
  act-right act m on =
      let message = message_spelling (act_message plan act) in
      right-append room (replicate m.lag Wait) (sent_deeds m.fate message) on on on (waits-right m.lag on) (sent-right m.fate message on)

  acts-right : {Q : Type 0} (next : Q → Meeting × Q) (acts : List Act) (q : Q) (on : Bool) → AreRight room on (acts_deeds plan next q acts) on
  acts-right next [] q on = refl
  acts-right next (act ∷ acts) q on =
      right-append room (act_deeds plan act (next q).0) (acts_deeds plan next (next q).1 acts) on on on (act-right act (next q).0 on) (acts-right next acts (next q).1 on)

  module _ (known : Known Record) where
    abbrev on : Bool
    on = is_powered known.kept.power

    abbrev walked : Procedure → Walked Record Act Queue
    walked o = walk (act_rules plan heap) (goes_on_after_refusal o.ending) (next_meeting calm) known.kept known.queue o.acts

    abbrev ended : Procedure → Record × List Moment
    ended o = end_by o.ending plan o.done known.kept (walked o).kept (walked o).outcome

    -- they lead a device that is on where the host holds it to be on to one of which that is so again
    abbrev IsRight : Procedure → Type 0
    IsRight o = AreRight room on (order_deeds plan heap known o) (is_powered (carried (command_rules plan heap) calm known (order_job plan known.kept o)).known.kept.power)

    -- by its first and its last moments
    order-right : (o : Procedure) (mid : Bool) → AreRight room on (moment_deeds heap o.first) mid → AreRight room mid (moment_deeds heap (ended o).1) (is_powered (ended o).0.power) → IsRight o
    order-right o mid first last =
        let deeds = acts_deeds plan (next_meeting calm) known.queue (walked o).sent in
        let later = moment_deeds heap (ended o).1 in
        let after = is_powered (ended o).0.power in
        right-append room (moment_deeds heap o.first) (deeds ++ later) on mid after first
        (right-append room deeds later mid mid after (acts-right (next_meeting calm) (walked o).sent known.queue mid) last)

    -- ---- how it ends

    plain-right : (done : Record → Record) → ((kept : Record) → (done kept).power ≡ kept.power) → (now : Record) (outcome : Outcome) → now.power ≡ known.kept.power →
        AreRight room on (moment_deeds heap (plain_end done now outcome).1) (is_powered (plain_end done now outcome).0.power)
    plain-right done keeps now (Ok passed) same = ap is_powered (sym (keeps now ∙ same))
    plain-right done keeps now (Err LinkDown) same = refl
    plain-right done keeps now (Err fault) same = ap is_powered (sym same)

    brought-right : (failed now : Record) (outcome : Outcome) → is_powered failed.power ≡ false →
        AreRight room true (moment_deeds heap (brought_end (with_power On) failed now outcome).1) (is_powered (brought_end (with_power On) failed now outcome).0.power)
    brought-right failed now (Ok passed) off = refl
    brought-right failed now (Err fault) off = sym off

    -- ---- each order

    still-right : (o : Procedure) → IsStill o → IsRight o
    still-right o is =
        order-right o on (subst (λ (ms : List Moment). AreRight room on (moment_deeds heap ms) on) (sym is.first) refl)
        (subst (λ (ending : Ending). AreRight room on (moment_deeds heap (end_by ending plan o.done known.kept (walked o).kept (walked o).outcome).1) (is_powered (end_by ending plan o.done known.kept (walked o).kept (walked o).outcome).0.power))
        (sym is.ending)
        (plain-right o.done is.done (walked o).kept (walked o).outcome (walk-power plan heap (goes_on_after_refusal o.ending) (next_meeting calm) o.acts known.kept known.queue)))

    load-right : fault_of_load known.kept.power ≡ None → IsRight (loading plan known.kept)
    load-right none =
        let o = loading plan known.kept in
        order-right o true (off known.kept.power none, fits, refl) (brought-right (first_record plan) (walked o).kept (walked o).outcome refl)
      where
        off : (power : Power) → fault_of_load power ≡ None → is_powered power ≡ false
        off Unloaded none = refl
        off Off none = refl
        off On none = absurd (cc none)

    resume-right : fault_of plan known.kept commands.Resume ≡ None → IsRight (resuming plan known.kept)
    resume-right none =
        let o = resuming plan known.kept in
        let is_off = off known.kept.power none in
        order-right o true (is_off, fits, refl) (brought-right known.kept (walked o).kept (walked o).outcome is_off)
      where
        off : (power : Power) → fault_of plan (with_power power known.kept) commands.Resume ≡ None → is_powered power ≡ false
        off Unloaded none = refl
        off Off none = refl
        off On none = absurd (cc none)

    suspend-right : IsRight (suspending plan known.kept)
    suspend-right = order-right (suspending plan known.kept) on refl refl

    unload-right : IsRight (unloading plan known.kept)
    unload-right = order-right (unloading plan known.kept) false (by known.kept.power) refl
      where
        by : (power : Power) → AreRight room (is_powered power) (moment_deeds heap (where_on power (past.Cut ∷ []))) false
        by On = refl
        by power = refl

    tick-right : IsRight (ticking known.kept)
    tick-right = order-right (ticking known.kept) on (by known.kept.power) refl
      where
        by : (power : Power) → AreRight room (is_powered power) (moment_deeds heap (where_on power (past.Tick ∷ []))) (is_powered power)
        by On = refl
        by power = refl

    -- ---- a command

    tested-right : (o : Procedure) (fault : Option HostFault) → (fault ≡ None → IsRight o) →
        AreRight room on (deeds_by plan heap known o false fault) (is_powered (tested (command_rules plan heap) calm known (order_job plan known.kept o) fault).known.kept.power)
    tested-right o (Some fault) goes = refl
    tested-right o None goes = goes refl

    planned-right : (b : Bool) (entries : List MeetingEntry) → AreRight room on [] (is_powered (planned_where_room {A = Act} known b entries).known.kept.power)
    planned-right true entries = refl
    planned-right false entries = refl

    pub command-right : (command : Command) → AreRight room on (command_deeds plan heap known command) (is_powered (next (command_rules plan heap) calm known command).known.kept.power)
    command-right (commands.Refuse k e) = planned-right _ _
    command-right (commands.Drop k) = planned-right _ _
    command-right (commands.Lose k) = planned-right _ _
    command-right (commands.Lag k ticks) = planned-right _ _
    command-right commands.Load = tested-right (loading plan known.kept) (fault_of plan known.kept commands.Load) load-right
    command-right commands.Unload = tested-right (unloading plan known.kept) (fault_of plan known.kept commands.Unload) (λ none. unload-right)
    command-right commands.Suspend = tested-right (suspending plan known.kept) (fault_of plan known.kept commands.Suspend) (λ none. suspend-right)
    command-right commands.Resume = tested-right (resuming plan known.kept) (fault_of plan known.kept commands.Resume) resume-right
    command-right commands.Show = tested-right (order_of plan known.kept commands.Show) (fault_of plan known.kept commands.Show) (λ none. still-right (order_of plan known.kept commands.Show) (quiet-still answers.Show))
    command-right (commands.Tick n) = tested-right (ticking known.kept) (fault_of plan known.kept (commands.Tick n)) (λ none. tick-right)
    command-right (commands.Set name values) =
        let o = order_of plan known.kept (commands.Set name values) in
        tested-right o (fault_of plan known.kept (commands.Set name values)) (λ none. still-right o (set-still plan known.kept name values))
    command-right (commands.Bytes name blob) =
        let o = order_of plan known.kept (commands.Bytes name blob) in
        tested-right o (fault_of plan known.kept (commands.Bytes name blob)) (λ none. still-right o (bytes-still plan known.kept name blob))
    command-right (commands.Get name) =
        let o = order_of plan known.kept (commands.Get name) in
        tested-right o (fault_of plan known.kept (commands.Get name)) (λ none. still-right o (get-still plan known.kept name))
    command-right (commands.Read name) =
        let o = order_of plan known.kept (commands.Read name) in
        tested-right o (fault_of plan known.kept (commands.Read name)) (λ none. still-right o (read-still plan known.kept name))
    command-right command =
        let o = asked_order plan known.kept (asking command) in
        tested-right o (fault_of plan known.kept command) (λ none. still-right o (asked-still plan known.kept (asking command)))

  -- ---- a run

  abbrev all : List (List Entry) → List Entry
  all records = flat_map (λ (records : List Entry). records) records

  -- from a device that is on where the host holds it to be on
  met-right : (commands : List Command) (known : Known Record) (s : Option FwState) (at : ℕ) → is_some s ≡ is_powered known.kept.power → fault_from room (all (met_from plan heap known s commands)) None s None at ≡ None
  met-right [] known s at same = refl
  met-right (command ∷ commands) known s at same =
      let deeds = command_deeds plan heap known command in
      let later = (next (command_rules plan heap) calm known command).known in
      let after = is_powered later.kept.power in
      let right : AreRight room (is_some s) deeds after = subst (λ (b : Bool). AreRight room b deeds after) (sym same) (command-right known command) in
      let t = steps_from s (recorded s deeds) in
      let first = right-passes room None deeds s after (all (met_from plan heap later t commands)) at right in
      first.1 ∙ met-right commands later t first.0 (right-leads room deeds s after right)

  pub run-right : (commands : List Command) → replay_fault room (met plan heap commands) None ≡ None
  run-right commands = met-right commands (first_known (command_rules plan heap)) None 0 refl

pub traces_replay : TracesReplay
traces_replay plan heap room commands fits = run-right plan heap room fits commands
