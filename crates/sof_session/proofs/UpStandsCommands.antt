-- Every command of a host that makes pipelines on use leads on, and so what stood stands where its written moments lead.
use Rattle.std.proofs.Common.{◌≡◌, refl, subst, ℕ, ◌+◌, ◌<◌, ◌-◌, ◌^◌, true, List, length, inl, Some, None}
use Rattle.std.specs.Prelude.{Option, is_some}
use Rattle.sof_base.specs.Ports.{Io}
use Rattle.sof_base.specs.DrainedOutputs.{drained}
use Rattle.stream_law.specs.State.{FwState}
use Rattle.stream_law.specs.Past.{Moment}
use Rattle.mbox_link.specs.Calls.{World, Meaning}
use Rattle.mbox_link.specs.Wire.{Wire}
use Rattle.mbox_link.specs.Link.{link}
use Rattle.tplg_plan.specs.declared.plans.Plan.{Plan}
use Rattle.tplg_plan.specs.Sound.{IsSound}
use Rattle.host_widgets.specs.declared.answers.Answer.TheVariants as answers
use Rattle.host_widgets.specs.declared.kept.Power.TheVariants as powers
use Rattle.host_widgets.specs.declared.trigger.Trigger.TheVariants as triggers
use Rattle.host_widgets.specs.Host.{Outcome}
use Rattle.host_widgets.specs.Orders.{suspending}
use Rattle.host_widgets.specs.Routines.{Job, JobDone}
use Rattle.host_widgets.proofs.StandingOn.{StandsOn}
use Rattle.host_pm.specs.PowerTests.{suspend_fault}
use Rattle.host_ctl.specs.ControlOrders.{control_told, named_at}
use Rattle.host_dynamic.specs.Dynamic.{plain_job}
use Rattle.host_widgets.specs.UpState.{UpState, up_act_rules}
use Rattle.host_dynamic.specs.UpDevices.{there_on}
use Rattle.host_dynamic.specs.UpStates.{IsUpState}
use Rattle.sof_script.specs.declared.script.Command.{Command}
use Rattle.sof_script.specs.declared.script.Command.TheVariants as commands
use Rattle.sof_session.specs.Agreement.{AreAgreed}
use Rattle.sof_session.specs.Commands.{carried}
use Rattle.sof_session.specs.Modes.{up_state_of}
use Rattle.sof_session.specs.SessionView.{SessionView}
use Rattle.sof_session.specs.SessionStep.{known_of}
use Rattle.sof_session.specs.UpCommands.{up_fault, up_job, up_rules}
use Rattle.sof_session.proofs.Agreement.{at, device-on}
use Rattle.sof_session.proofs.StandsAtLoad.{was-off, was-on}
use Rattle.sof_session.proofs.JobWalks.{job_doing, job-moments}
use Rattle.sof_session.proofs.Stepping.{Standing, standing-by}
use Rattle.sof_session.proofs.UpMode.{up-kept}
use Rattle.sof_session.proofs.UpStandsWalks.{LeadsOver, job-leads}
use Rattle.sof_session.proofs.UpStandsLists.{PlaysAtStages, RowsAtStages}
use Rattle.sof_session.proofs.UpStandsJobs.{PlainRows}
use Rattle.sof_session.proofs.UpStandsStreams.{on-there, quiet-leads, load-leads, unload-leads, tick-leads, open-leads, close-leads, trigger-leads, params-lead}
use Rattle.sof_session.proofs.UpStandsControls.{set-leads, bytes-lead, read-leads}
use Rattle.sof_session.proofs.UpStandsDown.{suspend-leads-by}
use Rattle.sof_session.proofs.UpStandsResume.{QuietRows, resume-leads}
use Rattle.host_widgets.specs.HostActs.{Act}

-- ---- every command

module _ (plan : Plan) (sound : IsSound plan) (plays : PlaysAtStages plan) (stage-rows : RowsAtStages plan) (plain-rows : PlainRows plan) (quiet-rows : QuietRows plan) (heap : ℕ) (device : Option FwState) (s : UpState) (is : IsUpState plan s)
    (there_is : s.there ≡ there_on device) (on_device : s.kept.power ≡ powers.On → (f : FwState) × (device ≡ Some f)) where
  abbrev Leads : Job UpState Act → Type 0
  Leads job = LeadsOver plan heap device job

  suspend-leads : suspend_fault s.kept.power ≡ None → Leads (plain_job plan s (suspending plan s.kept))
  suspend-leads none =
      let on = was-on s.kept.power none in
      inl (refl, on-there plan sound plays stage-rows plain-rows heap device s is there_is on_device on, suspend-leads-by plan sound plays stage-rows plain-rows s is on)

  pub command-leads : (command : Command) → up_fault plan s command ≡ None → Leads (up_job plan heap s command)
  command-leads commands.Load none = load-leads plan sound plays stage-rows plain-rows heap device s is there_is on_device
  command-leads commands.Unload none = unload-leads plan sound plays stage-rows plain-rows heap device s is there_is on_device
  command-leads commands.Suspend none = suspend-leads none
  command-leads commands.Resume none = resume-leads plan sound s is (was-off s.kept.power none) plays stage-rows quiet-rows heap device
  command-leads commands.Show none = quiet-leads plan sound plays stage-rows plain-rows heap device s is there_is on_device answers.Show
  command-leads (commands.Tick n) none = tick-leads plan sound plays stage-rows plain-rows heap device s is there_is on_device
  command-leads (commands.Open name) none = open-leads plan sound plays stage-rows plain-rows heap device s is there_is on_device name none
  command-leads (commands.Close name) none = close-leads plan sound plays stage-rows plain-rows heap device s is there_is on_device name none
  command-leads (commands.Params name params) none = params-lead plan sound plays stage-rows plain-rows heap device s is there_is on_device name params none
  command-leads (commands.Start name) none = trigger-leads plan sound plays stage-rows plain-rows heap device s is there_is on_device name triggers.Start none
  command-leads (commands.Stop name) none = trigger-leads plan sound plays stage-rows plain-rows heap device s is there_is on_device name triggers.Stop none
  command-leads (commands.Pause name) none = trigger-leads plan sound plays stage-rows plain-rows heap device s is there_is on_device name triggers.Pause none
  command-leads (commands.Release name) none = trigger-leads plan sound plays stage-rows plain-rows heap device s is there_is on_device name triggers.Release none
  command-leads (commands.Set name values) none = set-leads plan sound plays stage-rows plain-rows heap device s is there_is on_device name values none
  command-leads (commands.Bytes name blob) none = bytes-lead plan sound plays stage-rows plain-rows heap device s is there_is on_device name blob none
  command-leads (commands.Get name) none = quiet-leads plan sound plays stage-rows plain-rows heap device s is there_is on_device (control_told (named_at plan s.kept name))
  command-leads (commands.Read name) none = read-leads plan sound plays stage-rows plain-rows heap device s is there_is on_device name none
  command-leads command none = quiet-leads plan sound plays stage-rows plain-rows heap device s is there_is on_device answers.Done

-- ---- over a link

module _ {P : Type 0} (means : Meaning P) (old new : SessionView P) (io io' : Io) (agreed : AreAgreed means old) (some : is_some old.up ≡ true) (empty : drained io.outputs ≡ io.outputs)
    (plays : PlaysAtStages old.plan) (stage-rows : RowsAtStages old.plan) (plain-rows : PlainRows old.plan) (quiet-rows : QuietRows old.plan) (command : Command) (none : up_fault old.plan (up_state_of means old) command ≡ None) (result : Outcome)
    (j : JobDone (link means) (up_act_rules old.plan) old.heap (up_job old.plan old.heap (up_state_of means old) command) (up_state_of means new) (at old.link io) (at new.link io') result)
    (fewer : old.link.sent + length j.meetings < 2 ^ 64 - 1) where
  abbrev w : World (Wire P)
  w = at old.link io

  abbrev v : World (Wire P)
  v = at new.link io'

  abbrev s : UpState
  s = up_state_of means old

  leads : LeadsOver old.plan old.heap (means.on old.link.device) (up_job old.plan old.heap s command)
  leads = command-leads old.plan agreed.sound plays stage-rows plain-rows quiet-rows old.heap (means.on old.link.device) s (up-kept means old agreed some) refl (λ on. (let d = device-on means old agreed on in (d.0, d.1))) command none

  abbrev written : List Moment
  written = (carried (up_rules old.plan old.heap)
      (job_doing means (up_rules old.plan old.heap) old.heap (up_job old.plan old.heap (up_state_of means old) command) (up_state_of means old) (up_state_of means new) (at old.link io) (at new.link io') result j agreed.pending agreed.fated fewer)
      (known_of old.link (up_state_of means old)) (up_job old.plan old.heap (up_state_of means old) command)).moments

  pub command-stands : Standing means (at old.link io) (at new.link io') written
  command-stands =
      standing-by means w v written
      (subst (λ (ms : List Moment). StandsOn (means.on old.link.device) io (means.on new.link.device) io' ms)
      (job-moments means (up_rules old.plan old.heap) old.heap (up_job old.plan old.heap s command) s (up_state_of means new) w v result j agreed.pending agreed.fated fewer)
      (job-leads (link means) old.plan old.heap (up_job old.plan old.heap s command) (up_state_of means new) w v result j leads))
      empty
