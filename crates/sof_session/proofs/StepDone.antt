-- All that a step of a session says, by what its command did and what its call left as it was.
use Rattle.std.proofs.Common.{◌≡◌, ◌∙◌, ◌+◌, ◌<◌, ◌-◌, ◌^◌, false, ap, arith, subst, sym}
use Rattle.sof_base.specs.Ports.{Io}
use Rattle.sof_base.specs.DrainedOutputs.{drained}
use Rattle.mbox_link.specs.Calls.{Meaning, MovesBy}
use Rattle.mbox_link.specs.Link.{link}
use Rattle.host_widgets.specs.declared.answers.Answer.{Answer}
use Rattle.host_widgets.specs.Host.{Outcome}
use Rattle.host_widgets.specs.Routines.{JobTested}
use Rattle.sof_script.specs.declared.script.Command.{Command}
use Rattle.sof_session.specs.CommandRules.{CommandRules}
use Rattle.sof_session.specs.Commands.{Known, answer_by, is_plan, is_tick}
use Rattle.sof_session.specs.Modes.{Mode, most_sent_by}
use Rattle.sof_session.specs.SessionView.{SessionView}
use Rattle.sof_session.specs.SessionCalls.{IsStep, Stays}
use Rattle.sof_session.specs.SessionStep.{CommandDone, known_of}
use Rattle.sof_session.proofs.Agreement.{at}
use Rattle.sof_session.proofs.CallStays.{tested-moves}
use Rattle.sof_session.proofs.JobSteps.{StandsSo, job-stepped}
use Rattle.sof_session.proofs.ModeSteps.{ModeSteps, few-by}
use Rattle.sof_session.proofs.RoutineNumbers.{within-by}

module _ {P S A : Type 0} (means : Meaning P) (mode : Mode P S A) (old new : SessionView P) (before after : Io) (answer : Answer) (command : Command) (steps : ModeSteps means mode old command) (stays : Stays means old new before after) (few : old.link.sent < 2 ^ 63) where
  abbrev rules : CommandRules S A
  rules = mode.rules old.plan old.heap

  abbrev s : S
  s = mode.sees old

  abbrev Done : Type 0
  Done = CommandDone means rules old.heap command s (mode.sees new) (at old.link before) (at new.link after) answer

  few-sent : old.link.sent + most_sent_by old.up command < 2 ^ 64 - 1
  few-sent = omega (arith, few, few-by old.up command)

  step-done : MovesBy 983040 before.inputs after.inputs → Done → IsStep means command old new before after answer
  step-done moved done =
      let known : Known S = known_of old.link s in
      let within = within-by rules known done.doing (most_sent_by old.up command) command (λ plans passes. steps.sends passes) few-sent in
      record {
        stepped = steps.step new (at old.link before) (at new.link after) answer (record { done = done; stays = stays.mode ∙ steps.is });
        agreed = stays.later;
        plan = stays.plan;
        heap = stays.heap;
        slots = stays.slots;
        ends = stays.ends;
        moved = moved;
        sent = omega (arith, within.1, ap (λ (k : Known S). k.queue.sent) done.known_is);
        still = λ own none. (ap (λ (io : Io). io.inputs) (stays.still none), ap (λ (io : Io). io.outputs) (stays.still none));
      }

  -- where the endpoints stay
  pub same-done : after ≡ before → Done → IsStep means command old new before after answer
  same-done same done = step-done (subst (λ (x : Io). MovesBy 983040 before.inputs x.inputs) (sym same) (λ slot. omega arith)) done

  -- by a test and a job
  pub job-done : drained before.outputs ≡ before.outputs → (plans : is_plan command ≡ false) → is_tick command ≡ false → (result : Outcome) (call : JobTested (link means) rules.acts old.heap (rules.fault s command) (rules.job s command) s (mode.sees new) (at old.link before) (at new.link after) result) →
      answer ≡ answer_by (rules.job s command).answer result → StandsSo means rules old.heap command plans s (mode.sees new) (at old.link before) (at new.link after) answer stays.agreed.pending stays.agreed.fated result call → IsStep means command old new before after answer
  job-done empty plans own result call said stands =
      step-done (tested-moves means rules.acts old new.link before after stays.agreed (rules.fault s command) (rules.job s command) s (mode.sees new) result call (steps.still own))
      (job-stepped means rules old.heap command plans s (mode.sees new) (at old.link before) (at new.link after) answer stays.agreed.pending stays.agreed.fated result call (most_sent_by old.up command) steps.sends few-sent empty said stands)
