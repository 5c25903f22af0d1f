-- Orders that make and unmake nothing: what their ends leave of a state in which what is up is there.
use Rattle.std.proofs.Common.{◌≡◌, refl, sym, ◌∙◌, List, [], false, Ok, Err}
use Rattle.mbox_link.specs.Meetings.{Meeting}
use Rattle.tplg_plan.specs.declared.plans.Plan.{Plan}
use Rattle.tplg_plan.specs.Sound.{IsSound}
use Rattle.host_widgets.specs.declared.answers.Answer.{Answer}
use Rattle.host_widgets.specs.declared.answers.HostFault.{HostFault}
use Rattle.host_widgets.specs.declared.answers.HostFault.TheVariants as faults
use Rattle.host_widgets.specs.declared.kept.Power.{Power}
use Rattle.host_widgets.specs.declared.kept.Power.TheVariants as powers
use Rattle.host_widgets.specs.declared.kept.Record.{Record}
use Rattle.host_widgets.specs.Host.{Outcome}
use Rattle.host_widgets.specs.HostActs.{Act}
use Rattle.host_widgets.specs.Orders.{plain_end, quiet, sends}
use Rattle.host_widgets.specs.Routines.{Finished, Sending}
use Rattle.host_widgets.specs.Walk.{walk}
use Rattle.host_dynamic.specs.Dynamic.{plain_job, unsent}
use Rattle.host_widgets.specs.UpState.{UpState, there_by, settled, up_act_rules}
use Rattle.host_dynamic.specs.UpStates.{IsThereBy, IsUpState}
use Rattle.host_dynamic.proofs.UpOpening.{down-state}
use Rattle.host_widgets.proofs.UpWalks.{Keeps, Steps, Came, walk-steps}

module _ (plan : Plan) (sound : IsSound plan) where
  -- what is there by the power of its record is there
  there-by : (power : Power) (u : UpState) → IsThereBy power plan u → IsThereBy power plan (record { kept = u.kept; up = u.up; there = there_by power u.there })
  there-by powers.On u is = is
  there-by powers.Off u is = (refl, is.1)
  there-by powers.Unloaded u is = (refl, is.1)

  pub settled-state : (u : UpState) → IsUpState plan u → IsUpState plan (settled u.kept u)
  settled-state u is = record { record_is = is.record_is; up = is.up; once = is.once; there = there-by u.kept.power u is.there }

  module _ {Q : Type 0} (next : Q → Meeting × Q) (done : Record → Record) where
    -- once all passed, what is kept is done
    abbrev pub IsDone : UpState → Type 0
    IsDone u = IsUpState plan (settled (done u.kept) u)

    -- a refusal leaves what is kept, and a failed link cuts the device
    failed : (now : UpState) → IsUpState plan now → (fault : HostFault) → IsUpState plan (settled (plain_end done now.kept (Err fault)).0 now)
    failed now is faults.LinkDown = down-state plan sound now (record { record_is = is.record_is; up_is = is.up; once = is.once })
    failed now is fault = settled-state now is

    ended : (now : UpState) (o : Outcome) → Came plan (IsUpState plan) IsDone o now → IsUpState plan (settled (plain_end done now.kept o).0 now)
    ended now (Ok passed) came = came
    ended now (Err fault) came = failed now came fault

    -- the acts of an order, and its end
    pub plain-keeps : (s : UpState) (q : Q) (acts : List Act) → Steps plan (IsUpState plan) s acts IsDone →
        Keeps plan next (IsUpState plan) s q (Sending acts false (λ now outcome. let e = plain_end done now.kept outcome in Finished (settled e.0 now) e.1))
    plain-keeps s q acts steps =
        let w = walk (up_act_rules plan) false next s q acts in
        ended w.kept w.outcome (walk-steps plan next (IsUpState plan) IsDone acts s q steps)

    -- acts are sent where the power is on
    pub sends-keeps : (s : UpState) (q : Q) (acts : List Act) (answer : Answer) → (s.kept.power ≡ powers.On → Steps plan (IsUpState plan) s acts IsDone) → ((s.kept.power ≡ powers.On → ⊥) → IsDone s) →
        Keeps plan next (IsUpState plan) s q (plain_job plan s (sends s.kept.power acts done answer)).routine
    sends-keeps s q acts answer on else_done = by s.kept.power refl
      where
        by : (power : Power) → s.kept.power ≡ power → Keeps plan next (IsUpState plan) s q (plain_job plan s (sends power acts done answer)).routine
        by powers.On e = plain-keeps s q acts (on e)
        by powers.Off e = plain-keeps s q [] (else_done (λ is. cc (sym e ∙ is)))
        by powers.Unloaded e = plain-keeps s q [] (else_done (λ is. cc (sym e ∙ is)))

    -- none are sent
    pub unsent-keeps : (s : UpState) (q : Q) (power : Power) (acts : List Act) (answer : Answer) → IsDone s → Keeps plan next (IsUpState plan) s q (plain_job plan s (unsent (sends power acts done answer))).routine
    unsent-keeps s q powers.On acts answer is = plain-keeps s q [] is
    unsent-keeps s q powers.Off acts answer is = plain-keeps s q [] is
    unsent-keeps s q powers.Unloaded acts answer is = plain-keeps s q [] is

  -- an order that changes nothing
  pub quiet-keeps : {Q : Type 0} (next : Q → Meeting × Q) (s : UpState) (q : Q) → IsUpState plan s → (answer : Answer) → Keeps plan next (IsUpState plan) s q (plain_job plan s (quiet answer)).routine
  quiet-keeps next s q is answer = plain-keeps next (λ kept. kept) s q [] (settled-state s is)
