-- What a call of a session leaves as it was, by its test and its job, by any rules.
use Rattle.std.proofs.Common.{◌≡◌, refl, ap, ℕ, Bool, List, [], Option, arith}
use Rattle.std.specs.Prelude.{is_some}
use Rattle.sof_base.specs.Ports.{Io}
use Rattle.mbox_link.specs.Calls.{World, Meaning, MovesBy}
use Rattle.mbox_link.specs.Link.{link}
use Rattle.mbox_link.specs.Wire.{Wire}
use Rattle.tplg_plan.specs.declared.plans.Plan.{Plan}
use Rattle.host_widgets.specs.declared.answers.HostFault.{HostFault}
use Rattle.host_widgets.specs.declared.kept.Record.{Record}
use Rattle.host_widgets.specs.ActRules.{ActRules}
use Rattle.host_widgets.specs.Host.{Outcome}
use Rattle.host_widgets.specs.OneAct.{act_rules}
use Rattle.host_widgets.specs.Orders.{Procedure}
use Rattle.host_widgets.specs.Routines.{Job, JobDone, JobTested, order_job}
use Rattle.host_widgets.specs.TestedOrders.{Tested}
use Rattle.host_widgets.proofs.OrderJobs.{order-done}
use Rattle.sof_session.specs.Agreement.{AreAgreed}
use Rattle.sof_session.specs.SessionView.{SessionView}
use Rattle.sof_session.specs.SessionCalls.{Stays}
use Rattle.sof_session.proofs.Agreement.{at, CallsKept, calls-kept, few-pending, seat_then}
use Rattle.sof_session.proofs.JobPorts.{IsStillJob, job-io, job-ends, job-led, job-moves, tested-by}
use Rattle.sof_session.proofs.Writings.{bound_ends}

-- an order by its test is a job by its test
abbrev pub order-tested : {D : Type 0} (means : Meaning D) (plan : Plan) (heap : ℕ) (test : Option HostFault) (o : Procedure) (kept kept' : Record) (w v : World D) (result : Outcome) → Tested means plan heap test o kept kept' w v result →
    JobTested means (act_rules plan heap) heap test (order_job plan kept o) kept kept' w v result
order-tested means plan heap test o kept kept' w v result tested = record { early = tested.early; late = λ passes. order-done means plan heap o kept kept' w v result (tested.late passes) }

module _ {P S A : Type 0} (means : Meaning P) (rules : ActRules S A) (old : SessionView P) (wire : Wire P) (io io' : Io) (agreed : AreAgreed means old) (test : Option HostFault) (job : Job S A) (s s' : S) (result : Outcome)
    (tested : JobTested (link means) rules old.heap test job s s' (at old.link io) (at wire io') result) where
  abbrev w : World (Wire P)
  w = at old.link io

  abbrev v : World (Wire P)
  v = at wire io'

  so-by : (X : World (Wire P) → Type 0) → X w → (JobDone (link means) rules old.heap job s' w v result → X v) → X v
  so-by X still did = tested-by (link means) rules old.heap test job s s' w v result tested X still did

  pub tested-calls : CallsKept means old.link wire io io'
  tested-calls = so-by (λ (x : World (Wire P)). CallsKept means old.link x.device io x.io) (calls-kept means old.link old.link io io agreed.fated [] refl)
      (λ j. let led = job-led means rules old.heap job s' w v result j in calls-kept means old.link wire io io' agreed.fated led.0 led.1)

  -- no tick is its own
  module _ (still : IsStillJob (link means) rules old.heap job) where
    ends : bound_ends io' ≡ bound_ends io
    ends = so-by (λ (x : World (Wire P)). bound_ends x.io ≡ bound_ends io) refl (λ j. job-ends (link means) rules old.heap job s' w v result still j)

    pub tested-moves : MovesBy 983040 io.inputs io'.inputs
    tested-moves = so-by (λ (x : World (Wire P)). MovesBy 983040 io.inputs x.io.inputs) (λ slot. omega arith) (λ j. job-moves (link means) rules old.heap job s' w v result still j (few-pending means old agreed))

    pub tested-stays : (kept : Record) (up : Option (List ℕ)) → is_some up ≡ is_some old.up → AreAgreed means (seat_then old wire kept up) → Stays means old (seat_then old wire kept up) io io'
    tested-stays kept up mode later = record {
      agreed = agreed;
      later = later;
      plan = refl;
      heap = refl;
      mode = mode;
      slots = ap (λ (x : List ℕ × List (ℕ × Bool)). x.0) ends;
      ends = ap (λ (x : List ℕ × List (ℕ × Bool)). x.1) ends;
      still = λ quiet. so-by (λ (x : World (Wire P)). x.io ≡ io) refl (λ j. job-io (link means) rules old.heap job s' w v result still j quiet);
    }
