-- Calls of a session in either mode: by what the host's call did, all that a step says of the command.
use Rattle.std.proofs.Common.{◌≡◌, refl, sym, ap, ◌∙◌, subst, ℕ, ◌+◌, ◌<◌, ◌^◌, Bool, true, false, List, [], Option, Some, None, Result, Err, ◌-◌, arith, Ok}
use Rattle.std.specs.Prelude.{unwrap_or, IfOk}
use Rattle.std.proofs.lemmas.Bool.{false≢true, true≢false}
use Rattle.sof_base.specs.Ports.{Io}
use Rattle.sof_base.specs.DrainedOutputs.{drained}
use Rattle.mbox_link.specs.Calls.{World, Meaning}
use Rattle.mbox_link.specs.declared.fates.Entry.{Entry}
use Rattle.mbox_link.specs.declared.fates.Fate.{Fate}
use Rattle.mbox_link.specs.Link.{link}
use Rattle.mbox_link.specs.Meetings.{Doing, has_room, with_fate, has_lag_room, with_lag}
use Rattle.mbox_link.specs.Wire.{Wire}
use Rattle.host_widgets.specs.declared.answers.Answer.{Answer}
use Rattle.host_widgets.specs.declared.answers.Answer.TheVariants as answers
use Rattle.host_widgets.specs.declared.answers.HostFault.{HostFault}
use Rattle.host_widgets.specs.declared.kept.Record.{Record}
use Rattle.host_widgets.specs.declared.trigger.Trigger.TheVariants as triggers
use Rattle.host_widgets.specs.AnsweredOrders.{TestedAnswered}
use Rattle.host_widgets.specs.Bringing.{BroughtUp}
use Rattle.host_widgets.specs.Host.{Outcome, Agrees}
use Rattle.host_widgets.specs.HostActs.{Act}
use Rattle.host_widgets.specs.Kept.{first_record}
use Rattle.host_widgets.specs.Orders.{Procedure, fault_of_load, loading, resuming, suspending, unload_fault, unloading, quiet}
use Rattle.host_widgets.specs.Routines.{Job, JobTested, order_job}
use Rattle.host_widgets.specs.TestedOrders.{Tested}
use Rattle.host_widgets.specs.UpState.{UpState, up_act_rules}
use Rattle.host_pcm.specs.declared.asking.Ask.{Ask}
use Rattle.host_pcm.specs.declared.asking.Ask.TheVariants.{Opening, Preparing, Triggering, Closing}
use Rattle.host_pcm.specs.Asks.{asks_for_power, early_fault}
use Rattle.host_pcm.specs.StreamCalls.{Asked}
use Rattle.host_pcm.specs.StreamOrders.{stream_order}
use Rattle.host_pm.specs.InTurn.{WentDown}
use Rattle.host_pm.specs.PowerTests.{suspend_fault, resume_fault}
use Rattle.host_pm.specs.Resumed.{ResumeLeft}
use Rattle.host_ctl.specs.ControlAnswers.{IsSetFor, outcome_of}
use Rattle.host_ctl.specs.ControlAsks.{set_fault, bytes_fault, get_fault, read_fault}
use Rattle.host_ctl.specs.ControlOrders.{KeptAlone, bytes_order, get_order, read_order, set_order, control_told, named_at}
use Rattle.host_ctl.proofs.ControlShown.{set-for}
use Rattle.host_dynamic.specs.Dynamic.{is_control_up, plain_job, control_order}
use Rattle.host_dynamic.specs.UpDevices.{up_state_in, UpAgrees}
use Rattle.host_dynamic.specs.UpStates.{IsUpState}
use Rattle.sof_script.specs.declared.script.Command.{Command}
use Rattle.sof_script.specs.declared.script.Command.TheVariants as commands
use Rattle.sof_session.specs.Agreement.{AreAgreed}
use Rattle.sof_session.specs.Commands.{answer_by, command_rules, is_plan, is_tick, next, order_of, planned_where_room}
use Rattle.sof_session.specs.CommandTests.{fault_of}
use Rattle.sof_session.specs.Modes.{SteppedBy, up_state_of, made_at_load, made_on_use}
use Rattle.sof_session.specs.SessionCalls.{IsStep, Stays, PlanRan, LagRan, asking_command, is_control_in, told_answer, plan_answer}
use Rattle.sof_session.specs.SessionStep.{known_of}
use Rattle.sof_session.specs.SessionView.{SessionView}
use Rattle.sof_session.specs.UpCommands.{up_fault, up_job, up_rules, down_fault}
use Rattle.sof_session.proofs.Agreement.{at, seat-agrees, AgreeAtLoad, agreed-in, agreed-then, agrees-inside, seat_then, with_up}
use Rattle.sof_session.proofs.ControlCalls.{set-call, bytes-call, get-call, read-call, set-answers, bytes-answers, told-answers}
use Rattle.sof_session.proofs.PlanSteps.{show_stepped, planned_so, same-device}
use Rattle.sof_session.proofs.SentOrders.{IsSentCall, stream-call, stream-done}
use Rattle.sof_session.proofs.UpCalls.{read-down, control-answer, made-state, switched, state-then, quiet-done}
use Rattle.host_widgets.specs.OneAct.{act_rules}
use Rattle.host_widgets.specs.Up.{up_view}
use Rattle.host_dynamic.proofs.UpAgreeing.{agrees-of, early-tested, late-tested}
use Rattle.host_dynamic.proofs.UpDone.{HasTested, ask-done, set-done, set-kept, bytes-done, bytes-kept, read-done}
use Rattle.host_dynamic.proofs.UpTold.{set-for-up, get-done, suspend-done}
use Rattle.mbox_link.specs.Planned.{PlannedSo}
use Rattle.mbox_link.specs.declared.fates.PlanFull.{PlanFull}
use Rattle.sof_session.proofs.CallAgreement.{AgreeAtLoad-loaded, AgreeAtLoad-unloaded, AgreeAtLoad-suspended, AgreeAtLoad-resumed, AgreeAtLoad-sent}
use Rattle.sof_session.proofs.CallStays.{order-tested, tested-calls, tested-stays}
use Rattle.sof_session.proofs.JobSteps.{job-stepped}
use Rattle.sof_session.proofs.ModeSteps.{ModeSteps, steps-at-load, steps-on-use}
use Rattle.sof_session.proofs.StandsAtLoad.{StandsBy, load-stands, unload-stands, suspend-stands, resume-stands, sent-stands}
use Rattle.sof_session.proofs.UpStands.{job-stands}
use Rattle.sof_session.proofs.UpRings.{tested-rings}
use Rattle.sof_session.proofs.StepDone.{job-done, same-done}

-- the same of a session that is seen as another
pub same-sent : {P : Type 0} {a b : SessionView P} → a ≡ b → b.link.sent < 2 ^ 63 → a.link.sent < 2 ^ 63
same-sent {P} is few = subst (λ (s : SessionView P). s.link.sent < 2 ^ 63) (sym is) few

-- by the command that was given
pub by-command : {P : Type 0} (means : Meaning P) (old new : SessionView P) (before after : Io) (answer : Answer) (command other : Command) → command ≡ other → IsStep means other old new before after answer → IsStep means command old new before after answer
by-command means old new before after answer command other is step = subst (λ (c : Command). IsStep means c old new before after answer) (sym is) step

-- where all pipelines are made at a load, and where on use
pub in-mode : (up : Option (List ℕ)) (X : Type 0) → (up ≡ None → X) → ((list : List ℕ) → up ≡ Some list → X) → X
in-mode None X at_load on_use = at_load refl
in-mode (Some list) X at_load on_use = on_use list refl

module _ {P : Type 0} (means : Meaning P) (old : SessionView P) (are : AreAgreed means old) (few : old.link.sent < 2 ^ 63) (wire : Wire P) (io io' : Io) (empty : drained io.outputs ≡ io.outputs) (kept' : Record) (answer : Answer) where
  abbrev new : SessionView P
  new = seat_then old wire kept' old.up

  abbrev w : World (Wire P)
  w = at old.link io

  abbrev v : World (Wire P)
  v = at wire io'

  abbrev Steps : Command → Type 0
  Steps command = IsStep means command old new io io' answer

  abbrev TestedSo : Option HostFault → Procedure → Outcome → Type 0
  TestedSo test o result = Tested (link means) old.plan old.heap test o old.kept kept' w v result

  abbrev AnsweredSo : Option HostFault → Procedure → Outcome → Type 0
  AnsweredSo test o result = TestedAnswered (link means) old.plan old.heap test o old.kept kept' w v result

  -- the two sides agree at a load
  abbrev AgreesBefore : Type 0
  AgreesBefore = Agrees (link means) old.plan old.kept old.link

  abbrev AgreesAfter : Type 0
  AgreesAfter = Agrees (link means) old.plan kept' wire

  -- ---- where all pipelines are made at a load, by its test and its order

  module _ (result : Outcome) (none : old.up ≡ None) where
    abbrev loaded : AgreeAtLoad means old
    loaded = agreed-in means old None none are

    loaded-steps : (command : Command) → is_plan command ≡ false → is_tick command ≡ false → answer ≡ answer_by (order_of old.plan old.kept command).answer result → (tested : TestedSo (fault_of old.plan old.kept command) (order_of old.plan old.kept command) result) → AgreeAtLoad means (seat_then old wire kept' None) →
        ((passes : fault_of old.plan old.kept command ≡ None) → StandsBy means old wire io io' loaded empty kept' result (order_of old.plan old.kept command) (tested.late passes)) → Steps command
    loaded-steps command plans own said tested later stands =
        let o = order_of old.plan old.kept command in
        let steps = steps-at-load means old are command none in
        let call = order-tested (link means) old.plan old.heap (fault_of old.plan old.kept command) o old.kept kept' w v result tested in
        job-done means made_at_load old new io io' answer command steps
        (tested-stays means (act_rules old.plan old.heap) old wire io io' are (fault_of old.plan old.kept command) (order_job old.plan old.kept o) old.kept kept' result call (steps.still own) kept' old.up refl
        (subst (λ (up : Option (List ℕ)). AreAgreed means (seat_then old wire kept' up)) (sym none) later))
        few empty plans own result call said stands

    -- a call that sends acts alone
    sent-steps : (command : Command) → is_plan command ≡ false → is_tick command ≡ false → answer ≡ answer_by (order_of old.plan old.kept command).answer result → IsSentCall old.plan old.kept (fault_of old.plan old.kept command) (order_of old.plan old.kept command) →
        (AgreesBefore → TestedSo (fault_of old.plan old.kept command) (order_of old.plan old.kept command) result) → (AgreesBefore → AgreesAfter) → Steps command
    sent-steps command plans own said call tested agree =
        let agrees = seat-agrees means old none are in
        let o = order_of old.plan old.kept command in
        loaded-steps command plans own said (tested agrees) (AgreeAtLoad-sent means old wire io io' loaded kept' (agree agrees) result (fault_of old.plan old.kept command) o call (tested agrees))
        (λ passes. sent-stands means old wire io io' loaded empty kept' result o (call.sent passes) ((tested agrees).late passes) (call.taken passes))

    stream-steps : (ask : Ask) (command : Command) → is_plan command ≡ false → is_tick command ≡ false → answer ≡ answer_by answers.Done result → (name : List ℕ) → early_fault old.plan old.kept name ask ≡ fault_of old.plan old.kept command → stream_order old.plan old.kept name ask ≡ order_of old.plan old.kept command →
        (AgreesBefore → Asked (link means) old.plan old.heap name ask old.kept kept' w v result) → (AgreesBefore → AgreesAfter) → Steps command
    stream-steps ask command plans own said name fault order asked agree =
        sent-steps command plans own (said ∙ ap (λ (a : Answer). answer_by a result) (sym (stream-done old.plan old.kept name ask)) ∙ ap (λ (o : Procedure). answer_by o.answer result) order)
        (subst (λ (x : Option HostFault × Procedure). IsSentCall old.plan old.kept x.0 x.1) (λ i. (fault i, order i)) (stream-call old.plan are.sound old.kept are.agree.record_is name ask))
        (λ agrees. subst (λ (x : Option HostFault × Procedure). TestedSo x.0 x.1 result) (λ i. (fault i, order i)) (record { early = (asked agrees).early; late = (asked agrees).late })) agree

  module _ (result : Outcome) (said : answer ≡ answer_by answers.Done result) (none : old.up ≡ None) (agree : AgreesAfter) (same : io' ≡ io) where
    pub load-steps : TestedSo (fault_of_load old.kept.power) (loading old.plan old.kept) result → BroughtUp (link means) old.plan old.heap (first_record old.plan) old.link result wire → Steps commands.Load
    load-steps tested left =
        loaded-steps result none commands.Load refl refl said tested (AgreeAtLoad-loaded means old wire io io' (loaded result none) kept' agree result tested left)
        (λ passes. load-stands means old wire io io' (loaded result none) empty kept' result passes (tested.late passes) left same)

    pub unload-steps : TestedSo (unload_fault old.kept.power) (unloading old.plan old.kept) result → Steps commands.Unload
    unload-steps tested =
        loaded-steps result none commands.Unload refl refl said tested (AgreeAtLoad-unloaded means old wire io io' (loaded result none) kept' agree result tested)
        (λ passes. unload-stands means old wire io io' (loaded result none) empty kept' result (tested.late passes))

    pub resume-steps : TestedSo (resume_fault old.kept.power) (resuming old.plan old.kept) result → ResumeLeft (link means) old.plan old.heap old.kept old.link result wire → Steps commands.Resume
    resume-steps tested left =
        loaded-steps result none commands.Resume refl refl said tested (AgreeAtLoad-resumed means old wire io io' (loaded result none) kept' agree result tested left)
        (λ passes. resume-stands means old wire io io' (loaded result none) empty kept' result passes (tested.late passes) left same)

  pub opening-steps : (result : Outcome) (none : old.up ≡ None) (name : List ℕ) → answer ≡ answer_by answers.Done result → (AgreesBefore → Asked (link means) old.plan old.heap name Opening old.kept kept' w v result) → (AgreesBefore → AgreesAfter) → Steps (commands.Open name)
  opening-steps result none name said asked agree = stream-steps result none Opening (commands.Open name) refl refl said name refl refl asked agree

  pub closing-steps : (result : Outcome) (none : old.up ≡ None) (name : List ℕ) → answer ≡ answer_by answers.Done result → (AgreesBefore → Asked (link means) old.plan old.heap name Closing old.kept kept' w v result) → (AgreesBefore → AgreesAfter) → Steps (commands.Close name)
  closing-steps result none name said asked agree = stream-steps result none Closing (commands.Close name) refl refl said name refl refl asked agree

  -- ---- where they are made on use, by its test and its job

  abbrev state_in : List ℕ → UpState
  state_in up = up_state_in means old.kept up old.link.device

  abbrev TestedBy : Command → List ℕ → List ℕ → Outcome → Type 0
  TestedBy command up up' result = JobTested (link means) (up_act_rules old.plan) old.heap (up_fault old.plan (state_in up) command) (up_job old.plan old.heap (state_in up) command) (state_in up) (up_state_in means kept' up' wire.device) w v result

  -- by which what is up may change
  module _ (up up' : List ℕ) (is : old.up ≡ Some up) (command : Command) (plans : is_plan command ≡ false) (own : is_tick command ≡ false) (result : Outcome) (said : answer ≡ answer_by (up_job old.plan old.heap (state_in up) command).answer result) (tested : TestedBy command up up' result)
      (state : IsUpState old.plan (up_state_in means kept' up' wire.device)) (agree : UpAgrees (link means) old.plan kept' up' wire) where
    abbrev seat : SessionView P
    seat = with_up old (Some up)

    abbrev now : AreAgreed means seat
    now = agreed-in means old (Some up) is are

    abbrev then : SessionView P
    then = seat_then old wire kept' (Some up')

    abbrev test : Option HostFault
    test = up_fault old.plan (state_in up) command

    abbrev job : Job UpState Act
    job = up_job old.plan old.heap (state_in up) command

    steps : ModeSteps means (made_on_use means) seat command
    steps = steps-on-use means seat now command up refl

    later : AreAgreed means then
    later = agreed-then means seat wire io io' now (tested-calls means (up_act_rules old.plan) seat wire io io' now test job (state_in up) (up_state_in means kept' up' wire.device) result tested) kept' (Some up') (agrees-inside means old.plan (up_view old.plan kept' up') kept' wire agree)
        (state, tested-rings (link means) (up_act_rules old.plan) old.heap test job (state_in up) (up_state_in means kept' up' wire.device) w v result tested now.powered.1)

    pub made-steps : IsStep means command old then io io' answer
    made-steps = subst (λ (o : Option (List ℕ)). IsStep means command (with_up old o) then io io' answer) (sym is)
        (job-done means (made_on_use means) seat then io io' answer command steps
        (tested-stays means (up_act_rules old.plan) seat wire io io' now test job (state_in up) (up_state_in means kept' up' wire.device) result tested (steps.still own) kept' (Some up') refl later) few empty plans own result tested said
        (λ passes fewer. job-stands means seat then io io' now refl empty command plans passes result (tested.late passes) fewer))

  -- by which it stays
  pub left-steps : (up : List ℕ) (is : old.up ≡ Some up) (command : Command) (plans : is_plan command ≡ false) → is_tick command ≡ false → (result : Outcome) → answer ≡ answer_by (up_job old.plan old.heap (state_in up) command).answer result → TestedBy command up up result →
      IsUpState old.plan (up_state_in means kept' up wire.device) → UpAgrees (link means) old.plan kept' up wire → Steps command
  left-steps up is command plans own result said tested state agree =
      subst (λ (o : Option (List ℕ)). IsStep means command old (seat_then old wire kept' o) io io' answer) (sym is) (made-steps up up is command plans own result said tested state agree)

  -- by an order, whose job is the command's
  called : (up : List ℕ) (is : old.up ≡ Some up) (command : Command) → is_plan command ≡ false → is_tick command ≡ false → (o : Procedure) → plain_job old.plan (state_in up) o ≡ up_job old.plan old.heap (state_in up) command → (result : Outcome) → answer ≡ answer_by o.answer result →
      HasTested (link means) old.plan are.sound old.heap old.kept up w (made-state means old are up is) (switched means old are up is) (up_fault old.plan (state_in up) command) o kept' v result → Steps command
  called up is command plans own o job result said h =
      let call : TestedBy command up up result = subst (λ (j : Job UpState Act). JobTested (link means) (up_act_rules old.plan) old.heap (up_fault old.plan (state_in up) command) j (state_in up) (up_state_in means kept' up wire.device) w v result) job h.tested in
      let state = state-then means old are up is (up_state_in means kept' up wire.device) w v command result call in
      left-steps up is command plans own result (said ∙ ap (λ (j : Job UpState Act). answer_by j.answer result) job) call state (agrees-of (link means) old.plan kept' up wire state h.switched_then)

  -- ---- calls that are one in both modes

  module _ (result : Outcome) (said : answer ≡ answer_by answers.Done result) where
    pub suspend-steps : ((fault : HostFault) → suspend_fault old.kept.power ≡ Some fault → (result ≡ Err fault) × (v ≡ w) × (kept' ≡ old.kept)) → (suspend_fault old.kept.power ≡ None → WentDown (link means) old.plan old.heap old.kept kept' w v result) →
        (AgreesBefore → TestedSo (suspend_fault old.kept.power) (suspending old.plan old.kept) result) → (AgreesBefore → AgreesAfter) → Steps commands.Suspend
    suspend-steps early down tested agree = in-mode old.up (Steps commands.Suspend)
        (λ none.
        let agrees = seat-agrees means old none are in
        let at_load = loaded result none in
        loaded-steps result none commands.Suspend refl refl said (tested agrees) (AgreeAtLoad-suspended means old wire io io' at_load kept' (agree agrees) result (tested agrees))
        (λ passes. suspend-stands means old wire io io' at_load empty kept' result passes ((tested agrees).late passes)))
        (λ up is.
        called up is commands.Suspend refl refl (suspending old.plan old.kept) refl result said
        (suspend-done (link means) old.plan are.sound old.heap old.kept up w (made-state means old are up is) (switched means old are up is) kept' v result early down))

    module _ (name : List ℕ) where
      -- the command's tests and its order are those of what is asked
      record IsAskedBy (ask : Ask) (command : Command) : Type 0 where
        plans : is_plan command ≡ false
        own : is_tick command ≡ false
        fault : early_fault old.plan old.kept name ask ≡ fault_of old.plan old.kept command
        order : stream_order old.plan old.kept name ask ≡ order_of old.plan old.kept command
        test : (up : List ℕ) → early_fault old.plan old.kept name ask ≡ up_fault old.plan (state_in up) command
        job : (up : List ℕ) → plain_job old.plan (state_in up) (stream_order old.plan old.kept name ask) ≡ up_job old.plan old.heap (state_in up) command

      both : (ask : Ask) (command : Command) → IsAskedBy ask command → asks_for_power ask ≡ true → AnsweredSo (early_fault old.plan old.kept name ask) (stream_order old.plan old.kept name ask) result →
          (AgreesBefore → Asked (link means) old.plan old.heap name ask old.kept kept' w v result) → (AgreesBefore → AgreesAfter) → Steps command
      both ask command is sending answered asked agree =
          in-mode old.up (Steps command)
          (λ none. stream-steps result none ask command is.plans is.own said name is.fault is.order asked agree)
          (λ up at.
          let o = stream_order old.plan old.kept name ask in
          called up at command is.plans is.own o (is.job up) result (said ∙ ap (λ (a : Answer). answer_by a result) (sym (stream-done old.plan old.kept name ask)))
          (subst (λ (test : Option HostFault). HasTested (link means) old.plan are.sound old.heap old.kept up w (made-state means old are up at) (switched means old are up at) test o kept' v result) (is.test up)
          (ask-done (link means) old.plan are.sound old.heap old.kept up w (made-state means old are up at) (switched means old are up at) name ask sending kept' v result answered)))

      pub ask-steps : (ask : Ask) → asks_for_power ask ≡ true → AnsweredSo (early_fault old.plan old.kept name ask) (stream_order old.plan old.kept name ask) result →
          (AgreesBefore → Asked (link means) old.plan old.heap name ask old.kept kept' w v result) → (AgreesBefore → AgreesAfter) → Steps (asking_command name ask)
      ask-steps Opening sending answered asked agree = absurd (false≢true sending)
      ask-steps Closing sending answered asked agree = absurd (false≢true sending)
      ask-steps (Preparing p) sending answered asked agree = both (Preparing p) (commands.Params name p) (record { plans = refl; own = refl; fault = refl; order = refl; test = λ up. refl; job = λ up. refl }) sending answered asked agree
      ask-steps (Triggering triggers.Start) sending answered asked agree = both (Triggering triggers.Start) (commands.Start name) (record { plans = refl; own = refl; fault = refl; order = refl; test = λ up. refl; job = λ up. refl }) sending answered asked agree
      ask-steps (Triggering triggers.Stop) sending answered asked agree = both (Triggering triggers.Stop) (commands.Stop name) (record { plans = refl; own = refl; fault = refl; order = refl; test = λ up. refl; job = λ up. refl }) sending answered asked agree
      ask-steps (Triggering triggers.Pause) sending answered asked agree = both (Triggering triggers.Pause) (commands.Pause name) (record { plans = refl; own = refl; fault = refl; order = refl; test = λ up. refl; job = λ up. refl }) sending answered asked agree
      ask-steps (Triggering triggers.Release) sending answered asked agree = both (Triggering triggers.Release) (commands.Release name) (record { plans = refl; own = refl; fault = refl; order = refl; test = λ up. refl; job = λ up. refl }) sending answered asked agree

      -- ---- controls

      pub set-steps : (values : List ℕ) → is_control_in old.up old.plan name ≡ true → AnsweredSo (set_fault old.plan old.kept name values) (set_order old.plan old.kept name values) result →
          (AgreesBefore → TestedSo (set_fault old.plan old.kept name values) (set_order old.plan old.kept name values) result) → (AgreesBefore → AgreesAfter) → Steps (commands.Set name values)
      set-steps values has answered tested agree =
          let done : answer ≡ answer_by (set_order old.plan old.kept name values).answer result = said ∙ ap (λ (a : Answer). answer_by a result) (sym (set-answers old.plan old.kept name values)) in
          in-mode old.up (Steps (commands.Set name values))
          (λ none. sent-steps result none (commands.Set name values) refl refl done (set-call old.plan are.sound old.kept are.agree.record_is name values) tested agree)
          (λ up is.
          let o = set_order old.plan old.kept name values in
          called up is (commands.Set name values) refl refl (control_order old.plan up name o) refl result (said ∙ ap (λ (a : Answer). answer_by a result) (sym (control-answer old.plan up name o answers.Done (set-answers old.plan old.kept name values))))
          (set-done (link means) old.plan are.sound old.heap old.kept up w (made-state means old are up is) (switched means old are up is) name values kept' v result (subst (λ (x : Option (List ℕ)). is_control_in x old.plan name ≡ true) is has) answered))

      pub bytes-steps : (blob : List ℕ) → is_control_in old.up old.plan name ≡ true → AnsweredSo (bytes_fault old.plan old.kept name blob) (bytes_order old.plan old.kept name blob) result →
          (AgreesBefore → TestedSo (bytes_fault old.plan old.kept name blob) (bytes_order old.plan old.kept name blob) result) → (AgreesBefore → AgreesAfter) → Steps (commands.Bytes name blob)
      bytes-steps blob has answered tested agree =
          let done : answer ≡ answer_by (bytes_order old.plan old.kept name blob).answer result = said ∙ ap (λ (a : Answer). answer_by a result) (sym (bytes-answers old.plan old.kept name blob)) in
          in-mode old.up (Steps (commands.Bytes name blob))
          (λ none. sent-steps result none (commands.Bytes name blob) refl refl done (bytes-call old.plan are.sound old.kept are.agree.record_is name blob) tested agree)
          (λ up is.
          let o = bytes_order old.plan old.kept name blob in
          called up is (commands.Bytes name blob) refl refl (control_order old.plan up name o) refl result (said ∙ ap (λ (a : Answer). answer_by a result) (sym (control-answer old.plan up name o answers.Done (bytes-answers old.plan old.kept name blob))))
          (bytes-done (link means) old.plan are.sound old.heap old.kept up w (made-state means old are up is) (switched means old are up is) name blob kept' v result (subst (λ (x : Option (List ℕ)). is_control_in x old.plan name ≡ true) is has) answered))

  -- what is told
  module _ (name : List ℕ) (told : Result Answer HostFault) (said : answer ≡ told_answer told) where
    pub get-steps : TestedSo (get_fault old.plan old.kept name) (get_order old.plan old.kept name) (outcome_of told) → IfOk told (λ a. a ≡ (get_order old.plan old.kept name).answer) → (AgreesBefore → AgreesAfter) → Steps (commands.Get name)
    get-steps tested answered agree =
        let o = get_order old.plan old.kept name in
        let done = said ∙ told-answers told o.answer answered in
        in-mode old.up (Steps (commands.Get name))
        (λ none. sent-steps (outcome_of told) none (commands.Get name) refl refl done (get-call old.plan are.sound old.kept are.agree.record_is name) (λ agrees. tested) agree)
        (λ up is. called up is (commands.Get name) refl refl o refl (outcome_of told) done
        (get-done (link means) old.plan are.sound old.heap old.kept up w (made-state means old are up is) (switched means old are up is) (get_fault old.plan old.kept name) (control_told (named_at old.plan old.kept name)) kept' v (outcome_of told) tested))

    pub read-steps : is_control_in old.up old.plan name ≡ true → AnsweredSo (read_fault old.plan old.kept name) (read_order old.plan old.kept name) (outcome_of told) → (AgreesBefore → TestedSo (read_fault old.plan old.kept name) (read_order old.plan old.kept name) (outcome_of told)) →
        (IsSetFor (link means) old.plan old.kept name old.link → IfOk told (λ a. a ≡ (read_order old.plan old.kept name).answer)) → (AgreesBefore → AgreesAfter) → Steps (commands.Read name)
    read-steps has answered tested right agree =
        let o = read_order old.plan old.kept name in
        in-mode old.up (Steps (commands.Read name))
        (λ none.
        let set_for = set-for (link means) old.plan old.kept old.link (seat-agrees means old none are) name in
        sent-steps (outcome_of told) none (commands.Read name) refl refl (said ∙ told-answers told o.answer (right set_for)) (read-call old.plan are.sound old.kept are.agree.record_is name) tested agree)
        (λ up is.
        let here = subst (λ (x : Option (List ℕ)). is_control_in x old.plan name ≡ true) is has in
        let set_for = set-for-up (link means) old.plan are.sound old.heap old.kept up w (made-state means old are up is) (switched means old are up is) name here in
        called up is (commands.Read name) refl refl o refl (outcome_of told) (said ∙ told-answers told o.answer (right set_for))
        (read-done (link means) old.plan are.sound old.heap old.kept up w (made-state means old are up is) (switched means old are up is) name kept' v (outcome_of told) here answered))

-- ---- in the record alone

module _ {P : Type 0} (means : Meaning P) (old : SessionView P) (are : AreAgreed means old) (few : old.link.sent < 2 ^ 63) (io : Io) (empty : drained io.outputs ≡ io.outputs) (kept' : Record) (answer : Answer) (name : List ℕ) (is : is_control_in old.up old.plan name ≡ false) where
  abbrev StepsAlone : Command → Type 0
  StepsAlone command = IsStep means command old (seat_then old old.link kept' old.up) io io answer

  -- where pipelines are made on use
  alone : (command : Command) → ((up : List ℕ) → old.up ≡ Some up → is_control_up old.plan up name ≡ false → StepsAlone command) → StepsAlone command
  alone command on_use =
      let down : (up : Option (List ℕ)) → old.up ≡ up → is_control_in up old.plan name ≡ false = λ up at. subst (λ (o : Option (List ℕ)). is_control_in o old.plan name ≡ false) at is in
      in-mode old.up (StepsAlone command) (λ none. absurd (true≢false (down None none))) (λ up at. on_use up at (down (Some up) at))

  -- an order on the control, of which nothing is sent
  kept-steps : (up : List ℕ) (at_up : old.up ≡ Some up) (command : Command) → is_plan command ≡ false → is_tick command ≡ false → (o : Procedure) → o.answer ≡ answers.Done → plain_job old.plan (up_state_in means old.kept up old.link.device) (control_order old.plan up name o) ≡ up_job old.plan old.heap (up_state_in means old.kept up old.link.device) command →
      (result : Outcome) → answer ≡ answer_by answers.Done result →
      HasTested (link means) old.plan are.sound old.heap old.kept up (at old.link io) (made-state means old are up at_up) (switched means old are up at_up) (up_fault old.plan (up_state_in means old.kept up old.link.device) command) (control_order old.plan up name o) kept' (at old.link io) result → StepsAlone command
  kept-steps up at_up command plans own o answers_so job result said h =
      called means old are few old.link io io empty kept' answer up at_up command plans own (control_order old.plan up name o) job result (said ∙ ap (λ (a : Answer). answer_by a result) (sym (control-answer old.plan up name o answers.Done answers_so))) h

  module _ (result : Outcome) (said : answer ≡ answer_by answers.Done result) where
    pub set-alone-steps : (values : List ℕ) → KeptAlone (set_fault old.plan old.kept name values) (set_order old.plan old.kept name values).done old.kept kept' result → StepsAlone (commands.Set name values)
    set-alone-steps values kept = alone (commands.Set name values) (λ up at_up down.
        kept-steps up at_up (commands.Set name values) refl refl (set_order old.plan old.kept name values) (set-answers old.plan old.kept name values) refl result said
        (set-kept (link means) old.plan are.sound old.heap old.kept up (at old.link io) (made-state means old are up at_up) (switched means old are up at_up) name values kept' result down kept))

    pub bytes-alone-steps : (blob : List ℕ) → KeptAlone (bytes_fault old.plan old.kept name blob) (bytes_order old.plan old.kept name blob).done old.kept kept' result → StepsAlone (commands.Bytes name blob)
    bytes-alone-steps blob kept = alone (commands.Bytes name blob) (λ up at_up down.
        kept-steps up at_up (commands.Bytes name blob) refl refl (bytes_order old.plan old.kept name blob) (bytes-answers old.plan old.kept name blob) refl result said
        (bytes-kept (link means) old.plan are.sound old.heap old.kept up (at old.link io) (made-state means old are up at_up) (switched means old are up at_up) name blob kept' result down kept))

  -- what is not up is not read
  pub read-alone-steps : kept' ≡ old.kept → answer ≡ answers.Fault (down_fault old.kept.power) → StepsAlone (commands.Read name)
  read-alone-steps same said = alone (commands.Read name) (λ up at_up down.
      let fault = down_fault old.kept.power in
      let s_alone = up_state_in means old.kept up old.link.device in
      subst (λ (kept : Record). IsStep means (commands.Read name) old (seat_then old old.link kept old.up) io io answer) (sym same)
      (called means old are few old.link io io empty old.kept answer up at_up (commands.Read name) refl refl (read_order old.plan old.kept name) refl (Err fault) said (record {
        tested = early-tested (link means) (up_act_rules old.plan) old.heap (up_fault old.plan s_alone (commands.Read name)) (up_job old.plan old.heap s_alone (commands.Read name)) s_alone (at old.link io) (Err fault) fault (read-down means old are up at_up name down) refl;
        switched_then = switched means old are up at_up;
      })))

-- ---- what later messages meet

-- these entries are planned, where there is room for them
module _ {P : Type 0} (means : Meaning P) (old new : SessionView P) (io : Io) (stays : Stays means old new io io) (few : old.link.sent < 2 ^ 63) (empty : drained io.outputs ≡ io.outputs) (answer : Answer) where
  planned-steps : (room : Bool) (entries : List Entry) (command : Command) → ((doing : Doing) → next (command_rules old.plan old.heap) doing (known_of old.link old.kept) command ≡ planned_where_room (known_of old.link old.kept) room entries) →
      ((doing : Doing) → next (up_rules old.plan old.heap) doing (known_of old.link (up_state_of means old)) command ≡ planned_where_room (known_of old.link (up_state_of means old)) room entries) → is_plan command ≡ true →
      (outcome : Result (Unit {0}) PlanFull) → PlannedSo room entries old.link outcome new.link → new.kept ≡ old.kept → new.up ≡ old.up → answer ≡ plan_answer outcome → IsStep means command old new io io answer
  planned-steps room entries command at_load on_use plans outcome planned kept up said = in-mode old.up (IsStep means command old new io io answer)
      (λ none. same-done means made_at_load old new io io answer command (steps-at-load means old stays.agreed command none) stays few refl
      (planned_so means (command_rules old.plan old.heap) old.heap old.kept new.kept old.link new.link io empty room entries command at_load plans answer outcome planned kept said))
      (λ list is. same-done means (made_on_use means) old new io io answer command (steps-on-use means old stays.agreed command list is) stays few refl
      (planned_so means (up_rules old.plan old.heap) old.heap (up_state_of means old) (up_state_of means new) old.link new.link io empty room entries command on_use plans answer outcome planned
      (λ i. up_state_in means (kept i) (unwrap_or (up i) []) (same-device room entries old.link new.link outcome planned i)) said))

  pub fate-steps : (k : ℕ) (fate : Fate) (command : Command) →
      ((doing : Doing) → next (command_rules old.plan old.heap) doing (known_of old.link old.kept) command ≡ planned_where_room (known_of old.link old.kept) (has_room (old.link.sent + k) old.link.entries) (with_fate (old.link.sent + k) fate old.link.entries)) →
      ((doing : Doing) → next (up_rules old.plan old.heap) doing (known_of old.link (up_state_of means old)) command ≡ planned_where_room (known_of old.link (up_state_of means old)) (has_room (old.link.sent + k) old.link.entries) (with_fate (old.link.sent + k) fate old.link.entries)) →
      is_plan command ≡ true → PlanRan k fate old new answer → IsStep means command old new io io answer
  fate-steps k fate command at_load on_use plans ran =
      planned-steps (has_room (old.link.sent + k) old.link.entries) (with_fate (old.link.sent + k) fate old.link.entries) command at_load on_use plans ran.outcome ran.planned ran.kept ran.up ran.said

  pub lag-steps : (k ticks : ℕ) → LagRan k ticks old new answer → IsStep means (commands.Lag k ticks) old new io io answer
  lag-steps k ticks ran =
      planned-steps (has_lag_room (old.link.sent + k) ticks old.link.entries) (with_lag (old.link.sent + k) ticks old.link.entries) (commands.Lag k ticks) (λ doing. refl) (λ doing. refl) refl ran.outcome ran.planned ran.kept ran.up ran.said

-- ---- a show

pub show-steps : {P : Type 0} (means : Meaning P) (old : SessionView P) (io : Io) → AreAgreed means old → old.link.sent < 2 ^ 63 → drained io.outputs ≡ io.outputs → SteppedBy means commands.Show old old (at old.link io) (at old.link io) answers.Show
show-steps means old io agreed few empty = in-mode old.up (SteppedBy means commands.Show old old (at old.link io) (at old.link io) answers.Show)
    (λ none. let steps = steps-at-load means old agreed commands.Show none in steps.step old (at old.link io) (at old.link io) answers.Show (record { done = show_stepped means old io empty; stays = steps.is }))
    (λ up is. subst (λ (o : Option (List ℕ)). SteppedBy means commands.Show (with_up old o) (with_up old o) (at old.link io) (at old.link io) answers.Show) (sym is) (shown-steps up is))
  where
    shown-steps : (up : List ℕ) → old.up ≡ Some up → SteppedBy means commands.Show (with_up old (Some up)) (with_up old (Some up)) (at old.link io) (at old.link io) answers.Show
    shown-steps up is =
        let seat = with_up old (Some up) in
        let now = agreed-in means old (Some up) is agreed in
        let s = up_state_in means old.kept up old.link.device in
        let w = at old.link io in
        let steps = steps-on-use means seat now commands.Show up refl in
        let call = late-tested (link means) (up_act_rules old.plan) old.heap None (plain_job old.plan s (quiet answers.Show)) s s w w (Ok tt) refl (quiet-done means old agreed up is io answers.Show) in
        let fewer : old.link.sent + 1200 < 2 ^ 64 - 1 = omega (arith, few) in
        steps.step seat w w answers.Show (record {
          done = job-stepped means (up_rules old.plan old.heap) old.heap commands.Show refl s s w w answers.Show now.pending now.fated (Ok tt) call 1200 steps.sends fewer empty refl
              (λ passes sent. job-stands means seat seat io io now refl empty commands.Show refl passes (Ok tt) (call.late passes) sent);
          stays = refl;
        })
