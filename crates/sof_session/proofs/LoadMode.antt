-- The mode in which all pipelines are made at a load keeps what written runs ask of a mode.
use Rattle.std.proofs.Common.{◌≡◌, refl, subst, ℕ, List, Option, Some, None, false, arith}
use Rattle.std.specs.Prelude.{is_some}
use Rattle.std.proofs.lemmas.Bool.{true≢false}
use Rattle.mbox_link.specs.Calls.{World, Meaning}
use Rattle.mbox_link.specs.Wire.{Wire}
use Rattle.tplg_plan.specs.declared.plans.Plan.{Plan}
use Rattle.tplg_plan.specs.Sound.{IsSound}
use Rattle.host_widgets.specs.declared.answers.Answer.{Answer}
use Rattle.host_widgets.specs.declared.kept.Power.TheVariants.{Unloaded}
use Rattle.host_widgets.specs.declared.kept.Record.{Record}
use Rattle.host_widgets.specs.Host.{IsRecordOf}
use Rattle.host_widgets.proofs.Records.{closed-record}
use Rattle.sof_script.specs.declared.script.Command.{Command}
use Rattle.sof_script.specs.declared.script.Command.TheVariants as commands
use Rattle.sof_session.specs.CommandRanges.{most_sent}
use Rattle.sof_session.specs.Commands.{command_rules, order_of}
use Rattle.sof_session.specs.Modes.{made_at_load, IsInMode, CommandDoneIn, DoneWith, SteppedBy, shown_in}
use Rattle.sof_session.specs.SessionView.{SessionView}
use Rattle.sof_session.specs.Show.{shown_by}
use Rattle.sof_session.proofs.CommandMoves.{next-paced}
use Rattle.sof_session.proofs.FewOrders.{order-within, few-most}
use Rattle.sof_session.proofs.ModeLaws.{ModeLaws}
use Rattle.sof_session.proofs.RoutineBoots.{inside-by, boots-by}
use Rattle.sof_session.proofs.RoutineNumbers.{within-by, same-by}
use Rattle.sof_session.proofs.UpPasses.{order-ends}

-- what such a session shows
pub load-shows : (command : Command) (plan : Plan) (kept : Record) → shown_in command None plan kept ≡ shown_by command plan kept
load-shows commands.Show plan kept = refl
load-shows command plan kept = refl

module _ {P : Type 0} (means : Meaning P) where
  -- a session of this mode goes by its rules
  pub load-stepped : (command : Command) (old new : SessionView P) (w v : World (Wire P)) (answer : Answer) (s : SteppedBy means command old new w v answer) → IsInMode made_at_load old →
      (d : CommandDoneIn means made_at_load command old new w v answer) × (s.doing ≡ d.done.doing)
  load-stepped command old new w v answer s is = by old.up is s.did
    where
      by : (up : Option (List ℕ)) → is_some up ≡ false → DoneWith means s.doing up command old new w v answer → (d : CommandDoneIn means made_at_load command old new w v answer) × (s.doing ≡ d.done.doing)
      by None none did = did
      by (Some up) none did = absurd (true≢false none)

  shows : (command : Command) (seat : SessionView P) → IsInMode made_at_load seat → shown_in command seat.up seat.plan seat.kept ≡ shown_by command seat.plan seat.kept
  shows command seat is = by seat.up is
    where
      by : (up : Option (List ℕ)) → is_some up ≡ false → shown_in command up seat.plan seat.kept ≡ shown_by command seat.plan seat.kept
      by None none = load-shows command seat.plan seat.kept
      by (Some up) none = absurd (true≢false none)

  pub load-laws : (plan : Plan) (heap : ℕ) → IsSound plan → ModeLaws means made_at_load plan heap
  load-laws plan heap sound = record {
    most = most_sent;
    most_few = λ command. (let few = few-most command in omega (arith, few));
    most_tick = λ ticks. refl;
    IsKept = IsRecordOf plan;
    first = closed-record Unloaded plan;
    kept = λ seat agreed mode same. subst (λ (p : Plan). IsRecordOf p seat.kept) same agreed.agree.record_is;
    begins = λ p. refl;
    sees_first = λ p off. refl;
    stepped = load-stepped;
    shows = shows;
    within = λ known doing command is few. within-by (command_rules plan heap) known doing (most_sent command) command (λ plans none. order-within plan sound command known.kept is none) few;
    same = λ known d e command is few alike. same-by (command_rules plan heap) known d e (most_sent command) command (λ plans none. order-within plan sound command known.kept is none) few alike;
    inside = λ kept kept' w v answer command doing calls. inside-by means (command_rules plan heap) heap kept kept' w v answer command doing calls;
    boots = λ kept kept' w v answer command doing calls. boots-by means (command_rules plan heap) heap kept kept' w v answer command doing calls (order-ends plan kept (order_of plan kept command));
    paced = λ known doing command is few. next-paced plan sound heap doing known is few command;
  }
