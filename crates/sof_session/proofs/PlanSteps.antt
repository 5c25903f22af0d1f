-- What a planned fate, a planned lag and a show do to a session.
use Rattle.std.proofs.Common.{◌≡◌, refl, sym, ap, ◌∙◌, subst, ℕ, Bool, true, false, List, [], Result, Ok, Err}
use Rattle.sof_base.specs.Ports.{Io}
use Rattle.sof_base.specs.DrainedOutputs.{drained}
use Rattle.mbox_link.specs.declared.fates.Entry.{Entry}
use Rattle.mbox_link.specs.declared.fates.PlanFull.{PlanFull}
use Rattle.mbox_link.specs.Calls.{World, Meaning}
use Rattle.mbox_link.specs.Planned.{PlannedSo}
use Rattle.mbox_link.specs.Meetings.{Doing}
use Rattle.mbox_link.specs.CalmDevice.{calm}
use Rattle.mbox_link.specs.Wire.{Wire}
use Rattle.host_widgets.specs.declared.answers.Answer.{Answer}
use Rattle.host_widgets.specs.declared.answers.Answer.TheVariants.{Show}
use Rattle.sof_script.specs.declared.script.Command.{Command}
use Rattle.sof_script.specs.declared.script.Command.TheVariants as commands
use Rattle.sof_session.specs.CommandRules.{CommandRules}
use Rattle.sof_session.specs.Commands as next
use Rattle.sof_session.specs.Commands.{Known, CommandResult, is_plan, command_rules}
use Rattle.sof_session.specs.SessionView.{SessionView}
use Rattle.sof_session.specs.SessionStep.{CommandDone, CallsBy, known_of}
use Rattle.sof_session.specs.SessionCalls.{plan_answer}
use Rattle.sof_session.proofs.Agreement.{at}
use Rattle.sof_session.proofs.Stepping.{Standing, stays-standing}

-- ---- something is planned, by any rules

module _ {P S A : Type 0} (means : Meaning P) (rules : CommandRules S A) (heap : ℕ) (s s' : S) (old new : Wire P) (io : Io) (empty : drained io.outputs ≡ io.outputs) where
  abbrev w : World (Wire P)
  w = at old io

  abbrev v : World (Wire P)
  v = at new io

  abbrev known : Known S
  known = known_of old s

  -- these entries, where there is room for them
  module _ (room : Bool) (entries : List Entry) where
    abbrev written : CommandResult S A
    written = next.planned_where_room known room entries

    record Came_so (answer : Answer) : Type 0 where
      known_so : known_of new s' ≡ written.known
      answer_so : answer ≡ written.answer
      device_so : new.device ≡ old.device
      moments_so : [] ≡ written.moments

    by-room : (b : Bool) → room ≡ b → next.planned_where_room known b entries ≡ written
    by-room b is = ap (λ (r : Bool). next.planned_where_room known r entries) (sym is)

    came-so : (answer : Answer) (outcome : Result (Unit {0}) PlanFull) → PlannedSo room entries old outcome new → s' ≡ s → answer ≡ plan_answer outcome → Came_so answer
    came-so answer (Ok done) plan stays said =
        let is = by-room true plan.0 in
        record {
          known_so = (λ i. known_of (plan.1 i) (stays i)) ∙ ap (λ (c : CommandResult S A). c.known) is;
          answer_so = said ∙ ap (λ (c : CommandResult S A). c.answer) is;
          device_so = ap (λ (x : Wire P). x.device) plan.1;
          moments_so = ap (λ (c : CommandResult S A). c.moments) is;
        }
    came-so answer (Err full) plan stays said =
        let is = by-room false plan.0 in
        record {
          known_so = (λ i. known_of (plan.1 i) (stays i)) ∙ ap (λ (c : CommandResult S A). c.known) is;
          answer_so = said ∙ ap (λ (c : CommandResult S A). c.answer) is;
          device_so = ap (λ (x : Wire P). x.device) plan.1;
          moments_so = ap (λ (c : CommandResult S A). c.moments) is;
        }

    -- a command that plans them
    pub planned_so : (command : Command) → ((doing : Doing) → next.next rules doing known command ≡ written) → is_plan command ≡ true → (answer : Answer) (outcome : Result (Unit {0}) PlanFull) → PlannedSo room entries old outcome new → s' ≡ s → answer ≡ plan_answer outcome →
        CommandDone means rules heap command s s' w v answer
    planned_so command nexts plans answer outcome plan stays said =
        let c = came-so answer outcome plan stays said in
        record {
          doing = calm;
          none = λ stayed number. refl;
          known_is = c.known_so ∙ ap (λ (x : CommandResult S A). x.known) (sym (nexts calm));
          answer_is = c.answer_so ∙ ap (λ (x : CommandResult S A). x.answer) (sym (nexts calm));
          calls = subst (λ (b : Bool). CallsBy means rules.acts heap calm (rules.job s command) s' w v answer b (rules.fault s command)) (sym plans) (c.device_so, refl);
          stands = subst (Standing means w v) (c.moments_so ∙ ap (λ (x : CommandResult S A). x.moments) (sym (nexts calm))) (stays-standing means w v (ap means.on c.device_so) refl empty);
        }

-- the device stays
pub same-device : {P : Type 0} (room : Bool) (entries : List Entry) (old new : Wire P) (outcome : Result (Unit {0}) PlanFull) → PlannedSo room entries old outcome new → new.device ≡ old.device
same-device {P} room entries old new (Ok done) plan = ap (λ (x : Wire P). x.device) plan.1
same-device {P} room entries old new (Err full) plan = ap (λ (x : Wire P). x.device) plan.1

-- ---- a show

pub show_stepped : {P : Type 0} (means : Meaning P) (old : SessionView P) (io : Io) → drained io.outputs ≡ io.outputs → CommandDone means (command_rules old.plan old.heap) old.heap commands.Show old.kept old.kept (at old.link io) (at old.link io) Show
show_stepped means old io empty = record {
  doing = calm;
  none = λ stayed number. refl;
  known_is = refl;
  answer_is = refl;
  calls = (Ok tt, record { meetings = []; begun = at old.link io; first = refl; did = ([], [], at old.link io, refl, (refl, refl), (refl, refl)); came = refl; left = refl }, refl, tt);
  stands = stays-standing means (at old.link io) (at old.link io) refl refl empty;
}
