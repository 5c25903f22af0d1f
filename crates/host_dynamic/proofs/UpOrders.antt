-- Plain orders that are done by the rules of a host that makes pipelines on use leave the device on where the power is.
use Rattle.std.proofs.Common.{◌≡◌, refl, sym, ap, subst, ◌∙◌, ℕ, true, false, List, [], Option, Some, None, Ok, Err}
use Rattle.std.specs.Prelude.{is_some}
use Rattle.stream_law.specs.State.{FwState}
use Rattle.mbox_link.specs.Calls.{World, Meaning, Led}
use Rattle.tplg_plan.specs.declared.plans.Plan.{Plan}
use Rattle.host_widgets.specs.declared.answers.Answer.{Answer}
use Rattle.host_widgets.specs.declared.answers.HostFault.TheVariants as faults
use Rattle.host_widgets.specs.declared.kept.Power.{Power}
use Rattle.host_widgets.specs.declared.kept.Power.TheVariants as powers
use Rattle.host_widgets.specs.declared.kept.Record.{Record}
use Rattle.host_widgets.specs.ActCalls.{calls_of}
use Rattle.host_widgets.specs.AnsweredOrders.{ActsAnswered, OrderAnswered}
use Rattle.host_widgets.specs.Host.{Outcome}
use Rattle.host_widgets.specs.HostActs.{Act}
use Rattle.host_widgets.specs.Orders.{Procedure, Plain, plain_end, sends}
use Rattle.host_widgets.specs.Routines.{Routine, Finished, JobDone}
use Rattle.host_dynamic.specs.Dynamic.{plain_job, unsent}
use Rattle.host_widgets.specs.UpState.{UpState, there_by, settled, up_act_rules}
use Rattle.host_widgets.specs.There.{there_in}
use Rattle.host_dynamic.specs.UpDevices.{there_on, up_state_in}
use Rattle.host_dynamic.specs.UpStates.{IsThereBy, IsUpState}
use Rattle.host_dynamic.proofs.JobLegs.{HasGone, once-done}
use Rattle.host_dynamic.proofs.UpAgreeing.{IsSwitched, cut-none}
use Rattle.host_dynamic.proofs.UpAnswered.{Split, split, all-power, sends-job}
use Rattle.host_widgets.proofs.UpSending.{StagedFirst, AreAnswered, EndsThere, HasSent, after_all, sent-did}

-- the job of an order was done, and the device is on then where the power is
pub record IsDoneSo {D : Type 0} (means : Meaning D) (plan : Plan) (heap : ℕ) (up : List ℕ) (o : Procedure) (kept kept' : Record) (w v : World D) (result : Outcome) : Type 0 where
  pub job : JobDone means (up_act_rules plan) heap (plain_job plan (up_state_in means kept up w.device) o) (up_state_in means kept' up v.device) w v result
  pub switched_then : IsSwitched kept'.power (means.on v.device)

is-on : (power : Power) (o : Option FwState) → power ≡ powers.On → IsSwitched power o → is_some o ≡ true
is-on power o on switched = subst (λ (p : Power). IsSwitched p o) on switched

is-off : (power : Power) (o : Option FwState) → (power ≡ powers.On → ⊥) → IsSwitched power o → o ≡ None
is-off powers.On o off switched = absurd (off refl)
is-off powers.Off o off switched = switched
is-off powers.Unloaded o off switched = switched

module _ (plan : Plan) {D : Type 0} (means : Meaning D) (heap : ℕ) (done : Record → Record) (powered : (k : Record) → (done k).power ≡ k.power) where
  -- where the power stays, a device that answered is on, and one that was cut is off
  ended-switched : (o : Outcome) (u : UpState) (sent v : World D) → u.kept.power ≡ powers.On → EndsThere plan means o u sent → Led means sent (calls_of heap (plain_end done u.kept o).1) v → IsSwitched (plain_end done u.kept o).0.power (means.on v.device)
  ended-switched o u sent v on there led = by o there led
    where
      stays : (power : Power) → power ≡ powers.On → (g : FwState) × (means.on sent.device ≡ Some g) × (there_in g ≡ u.there) → v ≡ sent → IsSwitched power (means.on v.device)
      stays power is at same = subst (λ (p : Power). IsSwitched p (means.on v.device)) (sym is) (ap is_some (ap (λ (x : World D). means.on x.device) same ∙ at.1))

      by : (o : Outcome) → EndsThere plan means o u sent → Led means sent (calls_of heap (plain_end done u.kept o).1) v → IsSwitched (plain_end done u.kept o).0.power (means.on v.device)
      by (Ok passed) there led = stays (done u.kept).power (powered u.kept ∙ on) there led
      by (Err faults.LinkDown) there led = cut-none means plan heap sent v led
      by (Err (faults.Refused e)) there led = stays u.kept.power on there led
      by (Err fault) there led = stays u.kept.power on there led

  module _ (kept : Record) (up : List ℕ) (w : World D) (is : IsUpState plan (up_state_in means kept up w.device)) (switched : IsSwitched kept.power (means.on w.device)) (answer : Answer) where
    abbrev s : UpState
    s = up_state_in means kept up w.device

    abbrev order : List Act → Procedure
    order xs = record { first = []; acts = xs; ending = Plain; done = done; answer = answer }

    abbrev then_by : UpState → Outcome → Routine UpState Act
    then_by now outcome = let e = plain_end done now.kept outcome in Finished (settled e.0 now) e.1

    rest-switched : (kept' : Record) (v : World D) → kept' ≡ done kept → v ≡ w → IsSwitched kept'.power (means.on v.device)
    rest-switched kept' v left stays =
        subst (λ (x : Record × World D). IsSwitched x.0.power (means.on x.1.device)) (λ i. (sym left i, sym stays i)) (subst (λ (p : Power). IsSwitched p (means.on w.device)) (sym (powered kept)) switched)

    -- none are sent
    rest-done : (kept' : Record) (v : World D) (result : Outcome) → kept' ≡ done kept → v ≡ w → result ≡ Ok tt → IsDoneSo means plan heap up (order []) kept kept' w v result
    rest-done kept' v result left stays ok = record {
      job = subst (λ (x : Record × World D × Outcome). JobDone means (up_act_rules plan) heap (plain_job plan s (order [])) (up_state_in means x.0 up x.1.device) w x.1 x.2) (λ i. (sym left i, sym stays i, sym ok i)) here;
      switched_then = rest-switched kept' v left stays;
    }
      where
        gone : HasGone means (up_act_rules plan) s [] false w w s (Ok tt)
        gone = record { meetings = []; did = (refl, refl); came = refl; left_is = refl }

        same-there : (power : Power) → IsThereBy power plan s → there_by power s.there ≡ s.there
        same-there powers.On there = refl
        same-there powers.Off there = sym there.0
        same-there powers.Unloaded there = sym there.0

        now : settled (done kept) s ≡ up_state_in means (done kept) up w.device
        now = λ i. record { kept = done kept; up = up; there = (ap (λ (p : Power). there_by p s.there) (powered kept) ∙ same-there kept.power is.there) i }

        here : JobDone means (up_act_rules plan) heap (plain_job plan s (order [])) (up_state_in means (done kept) up w.device) w w (Ok tt)
        here = subst (λ (u : UpState). JobDone means (up_act_rules plan) heap (plain_job plan s (order [])) u w w (Ok tt)) now
            (once-done means (up_act_rules plan) heap (plain_job plan s (order [])) [] false then_by refl w w w w refl s (Ok tt) gone (settled (done kept) s) [] refl refl)

    -- these are sent, and answered as the rules say
    acts-switched : (xs : List Act) (kept' : Record) (v : World D) (result : Outcome) → kept.power ≡ powers.On → AreAnswered plan s xs → ((f : FwState) → StagedFirst xs f) → ActsAnswered means plan heap done xs kept kept' w v result →
        (f : FwState) → means.on w.device ≡ Some f → IsSwitched kept'.power (means.on v.device)
    acts-switched xs kept' v result on answered loose all f at =
        subst (λ (k : Record). IsSwitched k.power (means.on v.device)) (sym l.ends.0) (ended-switched result left l.sent v (all-power plan l.passed s ∙ on) left-there l.ends.1)
      where
        l : Split plan means heap done s xs kept' w v result
        l = split plan means heap done xs s kept' w v result all

        left : UpState
        left = after_all plan s l.passed

        h : HasSent plan means s xs l.passed w l.sent result
        h = sent-did plan means xs l.passed s w l.sent result f at (ap there_on (sym at)) (loose f) answered l.did

        left-there : EndsThere plan means result left l.sent
        left-there = subst (λ (x : Outcome × UpState). EndsThere plan means x.0 x.1 l.sent) (λ i. (sym h.came i, h.left i)) h.there

    -- an order that sends where the power is on
    pub order-done : (xs : List Act) (kept' : Record) (v : World D) (result : Outcome) → (kept.power ≡ powers.On → AreAnswered plan s xs) → ((f : FwState) → StagedFirst xs f) →
        OrderAnswered means plan heap (sends kept.power xs done answer) kept kept' w v result → IsDoneSo means plan heap up (sends kept.power xs done answer) kept kept' w v result
    order-done xs kept' v result answered loose all = record {
      job = sends-job plan means heap done kept up w powered (λ on. is-on kept.power (means.on w.device) on switched) (λ off. is-off kept.power (means.on w.device) off switched) xs answer loose answered kept' v result all;
      switched_then = by kept.power refl all;
    }
      where
        sent : kept.power ≡ powers.On → ActsAnswered means plan heap done xs kept kept' w v result → (o : Option FwState) → means.on w.device ≡ o → IsSwitched kept'.power (means.on v.device)
        sent on all None at = absurd (cc (sym (is-on kept.power (means.on w.device) on switched) ∙ ap is_some at))
        sent on all (Some f) at = acts-switched xs kept' v result on (answered on) loose all f at

        by : (power : Power) → kept.power ≡ power → OrderAnswered means plan heap (sends power xs done answer) kept kept' w v result → IsSwitched kept'.power (means.on v.device)
        by powers.On e all = sent e all (means.on w.device) refl
        by powers.Off e all = rest-switched kept' v all.0 all.1
        by powers.Unloaded e all = rest-switched kept' v all.0 all.1

    -- one that sends nothing, since what it is of is not up
    pub unsent-done : (power : Power) (xs : List Act) (kept' : Record) (v : World D) (result : Outcome) → kept' ≡ done kept → v ≡ w → result ≡ Ok tt → IsDoneSo means plan heap up (unsent (sends power xs done answer)) kept kept' w v result
    unsent-done powers.On xs kept' v result left stays ok = rest-done kept' v result left stays ok
    unsent-done power xs kept' v result left stays ok = rest-done kept' v result left stays ok
