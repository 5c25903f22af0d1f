-- What a tick does to a session.
use Rattle.std.proofs.Common.{◌≡◌, refl, sym, ap, ◌∙◌, subst, ℕ, List, [], ◌∷◌, ◌++◌, Option, Some, None, Ok}
use Rattle.std.proofs.lemmas.List.{append-nil}
use Rattle.sof_base.specs.Ports.{Io}
use Rattle.sof_base.specs.DrainedOutputs.{drained}
use Rattle.stream_law.specs.State.{FwState, View}
use Rattle.stream_law.specs.Past.{Tick}
use Rattle.stream_law.specs.Viewing.{IsPlayable}
use Rattle.mbox_link.specs.CalmDevice.{calm}
use Rattle.mbox_link.specs.Calls.{World, Meaning}
use Rattle.mbox_link.specs.Link.{link}
use Rattle.mbox_link.specs.Meetings.{queue_of}
use Rattle.mbox_link.specs.Wire.{Wire}
use Rattle.host_widgets.specs.declared.answers.Answer.TheVariants.{Done}
use Rattle.host_widgets.specs.declared.kept.Power.{Power}
use Rattle.host_widgets.specs.declared.kept.Power.TheVariants.{Unloaded, On, Off}
use Rattle.host_widgets.specs.Host.{SidesBy}
use Rattle.host_widgets.specs.Orders.{where_on}
use Rattle.host_widgets.specs.There.{There}
use Rattle.host_widgets.specs.UpState.{UpState, settled, there_by}
use Rattle.host_widgets.specs.ViewOf.{record_view}
use Rattle.host_widgets.proofs.SoundPlays.{sound-plays}
use Rattle.host_widgets.proofs.StandingOn.{StandsOn, one-tick}
use Rattle.host_dynamic.specs.UpDevices.{there_on, up_state_in}
use Rattle.sof_script.specs.declared.script.Command.TheVariants as commands
use Rattle.sof_session.specs.Agreement.{AreAgreed, PoweredBy, expected_in}
use Rattle.sof_session.specs.Commands.{command_rules}
use Rattle.sof_session.specs.Modes.{SteppedBy}
use Rattle.sof_session.specs.SessionStep.{CommandDone}
use Rattle.sof_session.specs.SessionView.{SessionView}
use Rattle.sof_session.specs.UpCommands.{up_rules}
use Rattle.sof_session.proofs.Agreement.{at, seat_then, shown-on, with_up}
use Rattle.sof_session.proofs.Carrying.{quietly}
use Rattle.sof_session.proofs.ModeSteps.{steps-at-load}
use Rattle.sof_session.proofs.Stepping.{Standing, standing-by, stays-standing}
use Rattle.sof_session.proofs.TickAgreement.{TickedBy, ticked_seat, ticked-led, ticked-there}
use Rattle.sof_session.proofs.UpPlays.{up-plays}

module _ {P : Type 0} (means : Meaning P) (old : SessionView P) (wire : Wire P) (io io' : Io) (empty : drained io.outputs ≡ io.outputs) (agreed : AreAgreed means old) (tick : TickedBy means old.kept.power old.link wire io io') where
  abbrev w : World (Wire P)
  w = at old.link io

  abbrev v : World (Wire P)
  v = at wire io'

  abbrev shown : View
  shown = expected_in old.up old.plan old.kept

  -- while the power is on, a tick may come
  playable : (up : Option (List ℕ)) → PoweredBy means old up → old.kept.power ≡ On → IsPlayable (expected_in up old.plan old.kept)
  playable None powered on = sound-plays old.plan agreed.sound old.kept (record_view old.plan old.kept).streams
  playable (Some up) powered on = up-plays old.plan agreed.sound (up_state_in means old.kept up old.link.device) powered.0 on

  -- what stood stands one tick later
  stands-by : (power : Power) → old.kept.power ≡ power → SidesBy means old.plan shown old.kept old.link.device power → TickedBy means power old.link wire io io' → Standing means w v (where_on power (Tick ∷ []))
  stands-by On on shows did =
      let f = shown-on (means.on old.link.device) shown shows in
      let after = did.on f.0 f.1 in
      standing-by means w v (Tick ∷ [])
      (subst (λ (x : Option FwState × Option FwState × Io). StandsOn x.0 io x.1 x.2 (Tick ∷ [])) (λ i. (sym f.1 i, sym after.0 i, sym after.1 i)) (one-tick f.0 io (subst IsPlayable (sym f.2) (playable old.up agreed.powered on)))) empty
  stands-by Unloaded on sides same = stays-standing means w v (ap (λ (x : Wire P). means.on x.device) same.0) same.1 empty
  stands-by Off on sides same = stays-standing means w v (ap (λ (x : Wire P). means.on x.device) same.0) same.1 empty

  stands : Standing means w v (where_on old.kept.power (Tick ∷ []) ++ [])
  stands = subst (Standing means w v) (sym (append-nil (where_on old.kept.power (Tick ∷ [])))) (stands-by old.kept.power refl agreed.agree.sides tick)

  -- nothing is sent
  queued : queue_of wire ≡ queue_of old.link
  queued = (quietly means old.heap (where_on old.kept.power (Tick ∷ [])) w v (ticked-led means old wire io io' old.kept.power tick)).queue

  -- ---- where all pipelines are made at a load

  at-load : (number : ℕ) → CommandDone means (command_rules old.plan old.heap) old.heap (commands.Tick number) old.kept old.kept w v Done
  at-load number = record {
    doing = calm;
    none = λ stayed n. refl;
    known_is = λ i. record { kept = old.kept; queue = queued i };
    answer_is = refl;
    calls = (Ok tt, record { meetings = []; begun = v; first = ticked-led means old wire io io' old.kept.power tick; did = ([], [], v, refl, (refl, refl), (refl, refl)); came = refl; left = refl }, refl, tt);
    stands = stands;
  }

  -- ---- and where on use

  -- while the power is not on, nothing is there
  settles : (power : Power) → SidesBy means old.plan shown old.kept old.link.device power → there_on (means.on old.link.device) ≡ there_by power (there_on (means.on old.link.device))
  settles On shows = refl
  settles Unloaded sides = ap there_on sides.1
  settles Off sides = ap there_on sides.1

  module _ (up : List ℕ) where
    abbrev s : UpState
    s = up_state_in means old.kept up old.link.device

    left : up_state_in means old.kept up wire.device ≡ settled old.kept s
    left = ap (λ (t : There). record { kept = old.kept; up = up; there = t }) (ticked-there means old wire io io' shown old.kept.power agreed.agree.sides tick ∙ settles old.kept.power agreed.agree.sides)

    on-use : (number : ℕ) → CommandDone means (up_rules old.plan old.heap) old.heap (commands.Tick number) s (up_state_in means old.kept up wire.device) w v Done
    on-use number = record {
      doing = calm;
      none = λ stayed n. refl;
      known_is = λ i. record { kept = left i; queue = queued i };
      answer_is = refl;
      calls = (Ok tt, record { meetings = []; begun = v; first = ticked-led means old wire io io' old.kept.power tick; did = ([], [], v, refl, (refl, refl), (refl, refl)); came = refl; left = left }, refl, tt);
      stands = stands;
    }

  -- ---- in either mode

  pub ticked-step : (number : ℕ) → SteppedBy means (commands.Tick number) old (ticked_seat means old wire io io' agreed tick) w v Done
  ticked-step number = by old.up refl
    where
      by : (up : Option (List ℕ)) → old.up ≡ up → SteppedBy means (commands.Tick number) old (seat_then old wire old.kept old.up) w v Done
      by None none =
          let steps = steps-at-load means old agreed (commands.Tick number) none in
          steps.step (seat_then old wire old.kept old.up) w v Done (record { done = at-load number; stays = steps.is })
      by (Some up) is =
          subst (λ (o : Option (List ℕ)). SteppedBy means (commands.Tick number) (with_up old o) (seat_then old wire old.kept o) w v Done) (sym is)
          (record { doing = (on-use up number).doing; did = (record { done = on-use up number; stays = refl }, refl) })
