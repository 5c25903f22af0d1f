-- The mode in which pipelines are made on use keeps what written runs ask of a mode.
use Rattle.std.proofs.Common.{◌≡◌, refl, sym, ap, ◌∙◌, subst, ℕ, List, [], Option, Some, None, true}
use Rattle.std.specs.Prelude.{is_some, unwrap_or}
use Rattle.std.proofs.lemmas.Bool.{false≢true}
use Rattle.mbox_link.specs.Calls.{World, Meaning}
use Rattle.mbox_link.specs.Wire.{Wire}
use Rattle.stream_law.specs.State.{FwState}
use Rattle.tplg_plan.specs.declared.plans.Plan.{Plan}
use Rattle.tplg_plan.specs.Sound.{IsSound}
use Rattle.host_widgets.specs.declared.answers.Answer.{Answer}
use Rattle.host_widgets.specs.Kept.{first_record}
use Rattle.host_widgets.specs.UpState.{UpState, first_state}
use Rattle.host_dynamic.specs.UpDevices.{there_on}
use Rattle.host_dynamic.specs.UpStates.{IsUpState}
use Rattle.host_dynamic.proofs.UpLoading.{first-is}
use Rattle.sof_script.specs.declared.script.Command.{Command}
use Rattle.sof_script.specs.declared.script.Command.TheVariants as commands
use Rattle.sof_session.specs.Agreement.{AreAgreed, PoweredBy}
use Rattle.sof_session.specs.Modes.{made_on_use, up_state_of, IsInMode, CommandDoneIn, DoneWith, SteppedBy, shown_in}
use Rattle.sof_session.specs.SessionView.{SessionView, seat_in}
use Rattle.sof_session.specs.UpCommands.{up_rules, up_shown}
use Rattle.sof_session.proofs.ModeLaws.{ModeLaws}
use Rattle.sof_session.proofs.RoutineBoots.{inside-by, boots-by}
use Rattle.sof_session.proofs.RoutineNumbers.{within-by, same-by}
use Rattle.sof_session.proofs.UpFew.{up_most, most-few, up-few}
use Rattle.sof_session.proofs.UpPaced.{up-paced}
use Rattle.sof_session.proofs.UpPasses.{up-ends}

module _ {P : Type 0} (means : Meaning P) where
  -- a session of this mode goes by its rules
  pub up-stepped : (command : Command) (old new : SessionView P) (w v : World (Wire P)) (answer : Answer) (s : SteppedBy means command old new w v answer) → IsInMode (made_on_use means) old →
      (d : CommandDoneIn means (made_on_use means) command old new w v answer) × (s.doing ≡ d.done.doing)
  up-stepped command old new w v answer s is = by old.up is s.did
    where
      by : (up : Option (List ℕ)) → is_some up ≡ true → DoneWith means s.doing up command old new w v answer → (d : CommandDoneIn means (made_on_use means) command old new w v answer) × (s.doing ≡ d.done.doing)
      by None some did = absurd (false≢true some)
      by (Some up) some did = did

  -- what is kept of it is a state
  pub up-kept : (seat : SessionView P) → AreAgreed means seat → IsInMode (made_on_use means) seat → IsUpState seat.plan (up_state_of means seat)
  up-kept seat agreed is = by seat.up refl is agreed.powered
    where
      by : (up : Option (List ℕ)) → seat.up ≡ up → is_some up ≡ true → PoweredBy means seat up → IsUpState seat.plan (up_state_of means seat)
      by None at some powered = absurd (false≢true some)
      by (Some up) at some powered = subst (λ (o : Option (List ℕ)). IsUpState seat.plan (record (up_state_of means seat) { up = unwrap_or o [] })) (sym at) powered.0

-- what such a session shows
up-shows : (command : Command) (plan : Plan) (s : UpState) → shown_in command (Some s.up) plan s.kept ≡ up_shown plan s command
up-shows commands.Show plan s = refl
up-shows command plan s = refl

module _ {P : Type 0} (means : Meaning P) where
  shows-up : (command : Command) (seat : SessionView P) → IsInMode (made_on_use means) seat → shown_in command seat.up seat.plan seat.kept ≡ up_shown seat.plan (up_state_of means seat) command
  shows-up command seat is = by seat.up refl is
    where
      by : (up : Option (List ℕ)) → seat.up ≡ up → is_some up ≡ true → shown_in command seat.up seat.plan seat.kept ≡ up_shown seat.plan (up_state_of means seat) command
      by None at some = absurd (false≢true some)
      by (Some up) at some =
          ap (λ (o : Option (List ℕ)). shown_in command o seat.plan seat.kept) at
          ∙ up-shows command seat.plan (record (up_state_of means seat) { up = up })
          ∙ ap (λ (o : Option (List ℕ)). up_shown seat.plan (record (up_state_of means seat) { up = unwrap_or o [] }) command) (sym at)

  -- of a device that is off nothing is there
  first-seen : (plan : Plan) (heap : ℕ) (p : P) → means.on p ≡ None → up_state_of means (seat_in true plan heap p) ≡ first_state plan
  first-seen plan heap p off = ap (λ (o : Option FwState). record { kept = first_record plan; up = []; there = there_on o }) off

  pub up-laws : (plan : Plan) (heap : ℕ) → IsSound plan → ModeLaws means (made_on_use means) plan heap
  up-laws plan heap sound = record {
    most = up_most;
    most_few = most-few;
    most_tick = λ ticks. refl;
    IsKept = IsUpState plan;
    first = first-is plan sound;
    kept = λ seat agreed mode same. subst (λ (p : Plan). IsUpState p (up_state_of means seat)) same (up-kept means seat agreed mode);
    begins = λ p. refl;
    sees_first = λ p off. first-seen plan heap p off;
    stepped = up-stepped means;
    shows = shows-up;
    within = λ known doing command is few. within-by (up_rules plan heap) known doing (up_most command) command (λ plans none. up-few plan sound heap known.kept is command none) few;
    same = λ known d e command is few alike. same-by (up_rules plan heap) known d e (up_most command) command (λ plans none. up-few plan sound heap known.kept is command none) few alike;
    inside = λ kept kept' w v answer command doing calls. inside-by means (up_rules plan heap) heap kept kept' w v answer command doing calls;
    boots = λ kept kept' w v answer command doing calls. boots-by means (up_rules plan heap) heap kept kept' w v answer command doing calls (up-ends plan heap kept command);
    paced = λ known doing command is few. up-paced plan sound heap doing known is few command;
  }
