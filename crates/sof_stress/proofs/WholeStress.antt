-- All of a stress, put together from its session.
use Rattle.std.proofs.Common.{◌≡◌, ℕ, List, [], ◌∷◌, sym, ◌∙◌, subst}
use Rattle.sof_base.specs.Ports.{InputView}
use Rattle.mbox_link.specs.Calls.{Meaning}
use Rattle.tplg_plan.specs.declared.plans.Plan.{Plan}
use Rattle.host_widgets.specs.declared.answers.Answer.TheVariants as answers
use Rattle.tplg_plan.specs.Sound.{IsSound}
use Rattle.sof_session.specs.Agreement.{AreAgreed}
use Rattle.sof_session.specs.SessionView.{SessionView, new_seat}
use Rattle.sof_session.specs.Lives.{Seated}
use Rattle.sof_stress.specs.declared.counts.Counts.{Counts}
use Rattle.sof_stress.specs.Draws.{stream_count}
use Rattle.sof_stress.specs.StressPorts.{dai_slot, stress_inputs}
use Rattle.sof_stress.specs.CommandTurns.{no_counts}
use Rattle.sof_stress.specs.CarriedTurns.{CarriedOut}
use Rattle.sof_stress.specs.GraphParts.{stress_heap, stress_plan}
use Rattle.sof_stress.specs.StressRun.{stress_turns}
use Rattle.sof_stress.specs.DeviceStress.{Stresses}

module _ {P : Type 0} (means : Meaning P) (seed : ℕ) (p q : P) (plan : Plan) (heap slot sent : ℕ) (inputs inputs' : List InputView) (slots slots' : List ℕ) (seat seat' : SessionView P) (counts : Counts) where
  pub whole : IsSound plan → plan ≡ stress_plan seed → heap ≡ stress_heap (means.most p) seed → slot ≡ dai_slot (stream_count seed) → inputs ≡ stress_inputs (stream_count seed) → slots ≡ dai_slot (stream_count seed) ∷ [] →
      seat ≡ new_seat plan heap p → CarriedOut means slot (stress_turns seed) (Seated seat inputs slots) no_counts (Seated seat' inputs' slots') counts →
      q ≡ seat'.link.device → AreAgreed means seat' → sent ≡ seat'.link.sent → Stresses means seed p (record counts { messages = sent }) q
  whole sound plan_is heap_is slot_is inputs_are slots_are seat_is carried device agreed sent_is =
      let made = subst (λ (s : ℕ). CarriedOut means s (stress_turns seed) (Seated seat inputs slots) no_counts (Seated seat' inputs' slots') counts) slot_is carried in
      record {
        last = Seated seat' inputs' slots';
        is = sym device;
        exit = agreed;
        sound = subst IsSound plan_is sound;
        begun = record { answer = answers.Done; shown = []; written = [] };
        turns = made.turns;
        turned = (
          Seated seat inputs slots,
          (λ i. Seated ((seat_is ∙ (λ j. new_seat (plan_is j) (heap_is j) p)) i) (inputs_are i) (slots_are i)),
          made.turned,
        );
        tasks = made.tasks;
        numbers = λ i. record (made.counts i) { messages = sent_is i };
      }
