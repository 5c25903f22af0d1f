-- Every command keeps that what is there is the part of the graph that is up.
use Rattle.std.proofs.Common.{◌≡◌, refl, sym, subst, ℕ, ◌+◌, List, [], ◌∷◌, Bool, true, false, Some, None}
use Rattle.std.specs.Prelude.{Option}
use Rattle.std.specs.List.{AllByRecursion}
use Rattle.mbox_link.specs.declared.fates.Entry.{Entry}
use Rattle.mbox_link.specs.declared.fates.Fate.TheVariants as fates
use Rattle.mbox_link.specs.Meetings.{Meeting, Queue, Doing, next_meeting, with_fate, with_lag, has_room, has_lag_room}
use Rattle.tplg_plan.specs.declared.plans.Plan.{Plan}
use Rattle.tplg_plan.specs.Sound.{IsSound}
use Rattle.host_widgets.specs.declared.answers.HostFault.{HostFault}
use Rattle.host_widgets.specs.declared.answers.Answer.TheVariants as answers
use Rattle.host_widgets.specs.declared.kept.Power.{Power}
use Rattle.host_widgets.specs.declared.kept.Power.TheVariants as powers
use Rattle.host_widgets.specs.declared.trigger.Trigger.TheVariants as triggers
use Rattle.host_widgets.specs.Orders.{fault_of_load}
use Rattle.host_widgets.specs.Routines.{Job}
use Rattle.host_pm.specs.PowerTests.{resume_fault}
use Rattle.host_ctl.specs.ControlOrders.{control_told, named_at}
use Rattle.host_widgets.specs.UpState.{UpState}
use Rattle.host_dynamic.specs.UpStates.{IsUpState}
use Rattle.host_dynamic.proofs.UpControls.{set-keeps, bytes-keep, read-keeps}
use Rattle.host_dynamic.proofs.UpLoading.{loaded-state, first-is}
use Rattle.host_dynamic.proofs.UpNamed.{open-keeps, close-keeps, trigger-named, params-keep}
use Rattle.host_dynamic.proofs.UpPlain.{quiet-keeps}
use Rattle.host_dynamic.proofs.UpResuming.{resuming-keeps}
use Rattle.host_widgets.proofs.UpWalks.{Keeps, routine-keeps}
use Rattle.sof_script.specs.declared.script.Command.{Command}
use Rattle.sof_script.specs.declared.script.Command.TheVariants as commands
use Rattle.sof_session.specs.Commands.{Known, CommandResult, tested, planned_where_room, next}
use Rattle.sof_session.specs.UpCommands.{up_fault, up_job, up_rules}
use Rattle.sof_session.specs.UpLaws.{UpIsShown, FirstIsShown, RunShowsUp}
use Rattle.sof_session.specs.Written.{Basis, At, Leg, IsRun, first_at}
use Rattle.sof_session.proofs.UpSuspending.{suspend-keeps}
use Rattle.host_widgets.specs.HostActs.{Act}

-- ---- by the tests of the power

loads-unloaded : (power : Power) → fault_of_load power ≡ None → power ≡ powers.Unloaded
loads-unloaded powers.Unloaded none = refl
loads-unloaded powers.On none = absurd (cc none)
loads-unloaded powers.Off none = absurd (cc none)

resumes-off : (power : Power) → resume_fault power ≡ None → power ≡ powers.Off
resumes-off powers.Off none = refl
resumes-off powers.On none = absurd (cc none)
resumes-off powers.Unloaded none = absurd (cc none)

-- ---- where no test fails

module _ (plan : Plan) (sound : IsSound plan) (heap : ℕ) (s : UpState) (is : IsUpState plan s) {Q : Type 0} (next_met : Q → Meeting × Q) (q : Q) where
  abbrev pub JobKeeps : Job UpState Act → Type 0
  JobKeeps job = Keeps plan next_met (IsUpState plan) job.from q job.routine

  -- whatever the messages of a command meet, its job keeps it
  pub job-keeps : (command : Command) → up_fault plan s command ≡ None → JobKeeps (up_job plan heap s command)
  job-keeps commands.Load none = loaded-state plan sound s is (loads-unloaded s.kept.power none) heap
  job-keeps commands.Unload none = first-is plan sound
  job-keeps commands.Suspend none = suspend-keeps plan sound heap next_met s q is
  job-keeps commands.Resume none = resuming-keeps plan sound s is (resumes-off s.kept.power none) next_met heap q
  job-keeps commands.Show none = quiet-keeps plan sound next_met s q is answers.Show
  job-keeps (commands.Open name) none = open-keeps plan sound s is name next_met q none
  job-keeps (commands.Close name) none = close-keeps plan sound s is name next_met q none
  job-keeps (commands.Params name params) none = params-keep plan sound s is name next_met q params none
  job-keeps (commands.Start name) none = trigger-named plan sound s is name next_met q triggers.Start none
  job-keeps (commands.Stop name) none = trigger-named plan sound s is name next_met q triggers.Stop none
  job-keeps (commands.Pause name) none = trigger-named plan sound s is name next_met q triggers.Pause none
  job-keeps (commands.Release name) none = trigger-named plan sound s is name next_met q triggers.Release none
  job-keeps (commands.Set name values) none = set-keeps plan sound s is next_met q name values none
  job-keeps (commands.Bytes name blob) none = bytes-keep plan sound s is next_met q name blob none
  job-keeps (commands.Get name) none = quiet-keeps plan sound next_met s q is (control_told (named_at plan s.kept name))
  job-keeps (commands.Read name) none = read-keeps plan sound s is next_met q name
  job-keeps command none = quiet-keeps plan sound next_met s q is answers.Done

-- ---- every command

module _ (plan : Plan) (sound : IsSound plan) (heap : ℕ) (doing : Doing) (known : Known UpState) (is : IsUpState plan known.kept) where
  abbrev q : Queue
  q = known.queue

  -- the result of a command
  abbrev IsKept : CommandResult UpState Act → Type 0
  IsKept c = IsUpState plan c.known.kept

  -- what is planned changes nothing that is kept
  planned : (room : Bool) (entries : List Entry) → IsKept (planned_where_room known room entries)
  planned true entries = is
  planned false entries = is

  -- nor does a command of which a test fails
  by-test : (job : Job UpState Act) (fault : Option HostFault) → (fault ≡ None → Keeps plan (next_meeting doing) (IsUpState plan) job.from q job.routine) → IsKept (tested (up_rules plan heap) doing known job fault)
  by-test job (Some fault) kept = is
  by-test job None kept = routine-keeps plan (next_meeting doing) (IsUpState plan) job.from q job.routine (kept refl)

  keeps : (command : Command) → IsKept (next (up_rules plan heap) doing known command)
  keeps (commands.Refuse k e) = planned (has_room (q.sent + k) q.entries) (with_fate (q.sent + k) (fates.Refuse e) q.entries)
  keeps (commands.Drop k) = planned (has_room (q.sent + k) q.entries) (with_fate (q.sent + k) fates.Drop q.entries)
  keeps (commands.Lose k) = planned (has_room (q.sent + k) q.entries) (with_fate (q.sent + k) fates.Lose q.entries)
  keeps (commands.Lag k ticks) = planned (has_lag_room (q.sent + k) ticks q.entries) (with_lag (q.sent + k) ticks q.entries)
  keeps command = by-test (up_job plan heap known.kept command) (up_fault plan known.kept command) (job-keeps plan sound heap known.kept is (next_meeting doing) q command)

pub up-is-shown : UpIsShown
up-is-shown plan sound heap doing known command is = keeps plan sound heap doing known is command

pub first-is-shown : FirstIsShown
first-is-shown plan sound heap = first-is plan sound

-- ---- runs

module _ (plan : Plan) (sound : IsSound plan) (heap : ℕ) (whole : List (ℕ × List ℕ)) (slots : List ℕ) (doing : Doing) where
  abbrev b : Basis UpState Act
  b = record { rules = up_rules plan heap; whole = whole; slots = slots }

  run-keeps : (commands : List Command) (old : At UpState) (legs : List (Leg UpState)) → IsUpState plan old.known.kept → IsRun b doing commands old legs → AllByRecursion (λ (leg : Leg UpState). IsUpState plan leg.at.known.kept) legs
  run-keeps [] old legs is run = subst (AllByRecursion (λ (leg : Leg UpState). IsUpState plan leg.at.known.kept)) (sym run) tt
  run-keeps (command ∷ commands) old [] is run = absurd run
  run-keeps (command ∷ commands) old (leg ∷ legs) is run =
      let now : IsUpState plan leg.at.known.kept = subst (λ (known : Known UpState). IsUpState plan known.kept) (sym run.0.goes.known) (keeps plan sound heap doing old.known is command) in
      (now, run-keeps commands leg.at legs now run.1)

pub run-shows : RunShowsUp
run-shows plan sound heap whole slots doing commands legs run = run-keeps plan sound heap whole slots doing commands (first_at (b plan sound heap whole slots doing)) legs (first-is plan sound) run

-- ---- over any device
