-- A command whose job is done is a step, by any rules.
use Rattle.std.proofs.Common.{◌≡◌, refl, sym, ap, ◌∙◌, subst, ℕ, ◌+◌, ◌<◌, ◌-◌, ◌^◌, Bool, false, length, Some, None, arith}
use Rattle.std.specs.Prelude.{Option}
use Rattle.sof_base.specs.DrainedOutputs.{drained}
use Rattle.mbox_link.specs.CalmDevice.{calm}
use Rattle.mbox_link.specs.Calls.{World, Meaning}
use Rattle.mbox_link.specs.Wire.{Wire}
use Rattle.mbox_link.specs.Link.{link}
use Rattle.mbox_link.specs.Meetings.{Doing}
use Rattle.host_widgets.specs.declared.answers.Answer.{Answer}
use Rattle.host_widgets.specs.declared.answers.Answer.TheVariants.{Fault}
use Rattle.host_widgets.specs.declared.answers.HostFault.{HostFault}
use Rattle.host_widgets.specs.Host.{Outcome}
use Rattle.host_widgets.specs.Routines.{JobDone, JobTested}
use Rattle.sof_script.specs.declared.script.Command.{Command}
use Rattle.sof_session.specs.Agreement.{IsFated}
use Rattle.sof_session.specs.CommandRules.{CommandRules}
use Rattle.sof_session.specs.Commands.{Known, CommandResult, came, carried, tested, next, is_plan, answer_by}
use Rattle.sof_session.specs.SessionStep.{CommandDone, CallsBy, known_of}
use Rattle.sof_session.proofs.JobWalks.{job_doing, job-met, job-known, job-answer, job-calm}
use Rattle.sof_session.proofs.RoutineNumbers.{SendsWithin, few-met, tested-is}
use Rattle.sof_session.proofs.Stepping.{Standing, stays-standing}

module _ {P S A : Type 0} (means : Meaning P) (rules : CommandRules S A) (heap : ℕ) (command : Command) (plans : is_plan command ≡ false) (kept kept' : S) (w v : World (Wire P)) (answer : Answer) (none : means.pending w.device.device ≡ 0) (fated : IsFated w.device) (result : Outcome)
    (call : JobTested (link means) rules.acts heap (rules.fault kept command) (rules.job kept command) kept kept' w v result) where
  abbrev old : Known S
  old = known_of w.device kept

  abbrev DoneSo : Type 0
  DoneSo = CommandDone means rules heap command kept kept' w v answer

  abbrev CallsSo : Doing → Bool → Option HostFault → Type 0
  CallsSo doing planned fault = CallsBy means rules.acts heap doing (rules.job kept command) kept' w v answer planned fault

  -- it is tested, and then its job is done
  nexts : (doing : Doing) → next rules doing old command ≡ tested rules doing old (rules.job kept command) (rules.fault kept command)
  nexts doing = tested-is rules old doing command plans

  -- a test failed
  early-done : (fault : HostFault) → rules.fault kept command ≡ Some fault → answer ≡ Fault fault → v ≡ w → kept' ≡ kept → drained w.io.outputs ≡ w.io.outputs → DoneSo
  early-done fault fails said same stays empty =
      let next-is : next rules calm old command ≡ came old (Fault fault) = nexts calm ∙ ap (tested rules calm old (rules.job kept command)) fails in
      record {
        doing = calm;
        none = λ stayed number. refl;
        known_is = (λ i. known_of (same i).device (stays i)) ∙ ap (λ (c : CommandResult S A). c.known) (sym next-is);
        answer_is = said ∙ ap (λ (c : CommandResult S A). c.answer) (sym next-is);
        calls = subst (λ (x : Bool × Option HostFault). CallsSo calm x.0 x.1) (λ i. (sym plans i, sym fails i)) same;
        stands = subst (Standing means w v) (ap (λ (c : CommandResult S A). c.moments) (sym next-is)) (stays-standing means w v (ap (λ (x : World (Wire P)). means.on x.device.device) same) (ap (λ (x : World (Wire P)). x.io) same) empty);
      }

  -- no test failed
  module _ (passes : rules.fault kept command ≡ None) (few : w.device.sent + length (call.late passes).meetings < 2 ^ 64 - 1) where
    abbrev j : JobDone (link means) rules.acts heap (rules.job kept command) kept' w v result
    j = call.late passes

    abbrev does : Doing
    does = job_doing means rules heap (rules.job kept command) kept kept' w v result j none fated few

    abbrev written : CommandResult S A
    written = carried rules does old (rules.job kept command)

    next-is : next rules does old command ≡ written
    next-is = nexts does ∙ ap (tested rules does old (rules.job kept command)) passes

    late-done : answer ≡ answer_by (rules.job kept command).answer result → Standing means w v written.moments → DoneSo
    late-done said standing = record {
      doing = does;
      none = λ stayed. job-calm means rules heap (rules.job kept command) kept kept' w v result j none fated few (record { faults = stayed.faults; refusals = stayed.refusals });
      known_is = job-known means rules heap (rules.job kept command) kept kept' w v result j none fated few ∙ ap (λ (x : CommandResult S A). x.known) (sym next-is);
      answer_is = said ∙ job-answer means rules heap (rules.job kept command) kept kept' w v result j none fated few ∙ ap (λ (x : CommandResult S A). x.answer) (sym next-is);
      calls = subst (λ (x : Bool × Option HostFault). CallsSo does x.0 x.1) (λ i. (sym plans i, sym passes i))
          (result, j, said, job-met means rules heap (rules.job kept command) kept kept' w v result j none fated few);
      stands = subst (Standing means w v) (ap (λ (x : CommandResult S A). x.moments) (sym next-is)) standing;
    }

  -- what stood stands where the written moments lead
  abbrev pub StandsSo : Type 0
  StandsSo = (passes : rules.fault kept command ≡ None) (few : w.device.sent + length (call.late passes).meetings < 2 ^ 64 - 1) → Standing means w v (written passes few).moments

  -- its routine sends no more than so many messages
  pub job-stepped : (most : ℕ) → (rules.fault kept command ≡ None → SendsWithin most (rules.job kept command).routine) → w.device.sent + most < 2 ^ 64 - 1 → drained w.io.outputs ≡ w.io.outputs → answer ≡ answer_by (rules.job kept command).answer result → StandsSo → DoneSo
  job-stepped most sends few empty said stands = by (rules.fault kept command) refl
    where
      by : (test : Option HostFault) → rules.fault kept command ≡ test → DoneSo
      by (Some fault) fails = let e = call.early fault fails in early-done fault fails (said ∙ ap (answer_by (rules.job kept command).answer) e.0) e.1 e.2 empty
      by None passes =
          let j = call.late passes in
          let met = few-met (link means) rules.acts heap most (rules.job kept command).routine (rules.job kept command).from j.meetings j.begun v (sends passes) j.did in
          let fewer : w.device.sent + length j.meetings < 2 ^ 64 - 1 = omega (arith, few, met) in
          late-done passes fewer said (stands passes fewer)
