-- The calls on a device that a session's step names: those of the host, as they come through its link.
use Rattle.std.specs.Prelude.{ℕ, List, [], ◌∷◌, ◌++◌, replicate, Bool, true, false, Option, Some, None}
use Rattle.ipc3_model.specs.Messages.{message_spelling}
use Rattle.mbox_link.specs.declared.fates.Fate.{Fate}
use Rattle.mbox_link.specs.declared.fates.Fate.TheVariants.{Pass, Refuse, Drop, Lose}
use Rattle.mbox_link.specs.Calls.{World, Meaning, Call, Exchange, Tick, Exchanged}
use Rattle.mbox_link.specs.Meetings.{Meeting, Doing}
use Rattle.mbox_link.specs.Wire.{Wire}
use Rattle.mbox_link.specs.Link.{Met, inner, link, next_fate, next_lag}
use Rattle.host_widgets.specs.declared.answers.Answer.{Answer}
use Rattle.host_widgets.specs.declared.answers.HostFault.{HostFault}
use Rattle.host_widgets.specs.ActRules.{ActRules}
use Rattle.host_widgets.specs.OneAct.{one_act}
use Rattle.host_widgets.specs.Walk.{goes_past, walk}
use Rattle.host_widgets.specs.ActCalls.{ActsDid, Onwards, calls_of, next_of}
use Rattle.host_widgets.specs.Routines.{Job, Routine, Finished, Sending, RoutineDid}
use Rattle.sof_script.specs.declared.script.Command.{Command}
use Rattle.sof_session.specs.CommandRules.{CommandRules}
use Rattle.sof_session.specs.Commands.{command_rules, is_plan}
use Rattle.sof_session.specs.Modes.{up_state_of, DoneWith, SteppedBy}
use Rattle.sof_session.specs.SessionStep.{CallsBy, CommandDone}
use Rattle.sof_session.specs.SessionView.{SessionView}
use Rattle.sof_session.specs.UpCommands.{up_rules}

-- a message that passes is the device's exchange, and one whose reply is lost is it with the answer that was lost
abbrev pub met_calls : {P : Type 0} (means : Meaning P) (fate : Fate) (request : List ℕ) (answer : Option (List ℕ)) (w v : World P) → Met means fate request answer w v → List Call
met_calls means Pass request answer w v met = Exchange request answer ∷ []
met_calls means (Refuse e) request answer w v met = []
met_calls means Drop request answer w v met = []
met_calls means Lose request answer w v met = Exchange request met.1 ∷ []

-- the ticks of its lag come before it
abbrev pub exchange_calls : {P : Type 0} (means : Meaning P) (request : List ℕ) (answer : Option (List ℕ)) (w v : World (Wire P)) → Exchanged (link means) request answer w v → List Call
exchange_calls means request answer w v x =
    replicate (next_lag w.device) Tick ++ met_calls means (next_fate w.device) request answer x.did.0.0 (inner v) x.did.0.2

-- of acts, up to the first after which they do not go on
abbrev pub calls_onwards : {D : Type 0} (goes : Bool) (ms : List Meeting) (w v : World D) (Rest : Type 0) → (Rest → List Call) → Onwards goes ms w v Rest → List Call
calls_onwards true ms w v Rest rest on = rest on
calls_onwards false ms w v Rest rest on = []

abbrev pub acts_calls : {P S A : Type 0} (means : Meaning P) (rules : ActRules S A) (goes_on : Bool) (kept : S) (acts : List A) (ms : List Meeting) (w v : World (Wire P)) → ActsDid (link means) rules goes_on kept acts ms w v → List Call
acts_calls means rules goes_on kept [] ms w v did = []
acts_calls means rules goes_on kept (act ∷ acts) [] w v did = []
acts_calls means rules goes_on kept (act ∷ acts) (m ∷ ms) w v did =
    let a = one_act rules kept act m in
    exchange_calls means (message_spelling (rules.message act)) did.1.answer w did.0 did.1.exchanged
    ++ calls_onwards (goes_past goes_on a.outcome) ms did.0 v (ActsDid (link means) rules goes_on a.kept acts ms did.0 v)
    (λ on. acts_calls means rules goes_on a.kept acts ms did.0 v on) did.2

-- of a routine, and of what comes before it
abbrev pub routine_calls : {P S A : Type 0} (means : Meaning P) (rules : ActRules S A) (heap : ℕ) (kept : S) (routine : Routine S A) (ms : List Meeting) (w v : World (Wire P)) → RoutineDid (link means) rules heap kept routine ms w v → List Call
routine_calls means rules heap kept (Finished end moments) ms w v did = calls_of heap moments
routine_calls means rules heap kept (Sending acts goes_on then) ms w v did =
    let now = walk rules goes_on next_of kept did.0 acts in
    acts_calls means rules goes_on kept acts did.0 w did.2 did.4 ++ routine_calls means rules heap now.kept (then now.kept now.outcome) did.1 did.2 v did.5

-- of a command: none where a test fails or something is planned
abbrev pub calls_by : {P S A : Type 0} (means : Meaning P) (acts : ActRules S A) (heap : ℕ) (doing : Doing) (job : Job S A) (kept' : S) (w v : World (Wire P)) (answer : Answer) (planned : Bool) (fault : Option HostFault) →
    CallsBy means acts heap doing job kept' w v answer planned fault → List Call
calls_by means acts heap doing job kept' w v answer true fault by = []
calls_by means acts heap doing job kept' w v answer false (Some fault) by = []
calls_by means acts heap doing job kept' w v answer false None by =
    calls_of heap job.first ++ routine_calls means acts heap job.from job.routine by.1.meetings by.1.begun v by.1.did

abbrev pub command_calls : {P S A : Type 0} (means : Meaning P) (rules : CommandRules S A) (heap : ℕ) (command : Command) (kept kept' : S) (w v : World (Wire P)) (answer : Answer) → CommandDone means rules heap command kept kept' w v answer → List Call
command_calls means rules heap command kept kept' w v answer done =
    calls_by means rules.acts heap done.doing (rules.job kept command) kept' w v answer (is_plan command) (rules.fault kept command) done.calls

-- of a session's step, in its mode
abbrev pub done_calls : {P : Type 0} (means : Meaning P) (doing : Doing) (up : Option (List ℕ)) (command : Command) (old new : SessionView P) (w v : World (Wire P)) (answer : Answer) → DoneWith means doing up command old new w v answer → List Call
done_calls means doing None command old new w v answer did =
    command_calls means (command_rules old.plan old.heap) old.heap command old.kept new.kept w v answer did.0.done
done_calls means doing (Some up) command old new w v answer did =
    command_calls means (up_rules old.plan old.heap) old.heap command (up_state_of means old) (up_state_of means new) w v answer did.0.done

abbrev pub step_calls : {P : Type 0} (means : Meaning P) (command : Command) (old new : SessionView P) (w v : World (Wire P)) (answer : Answer) → SteppedBy means command old new w v answer → List Call
step_calls means command old new w v answer stepped = done_calls means stepped.doing old.up command old new w v answer stepped.did
