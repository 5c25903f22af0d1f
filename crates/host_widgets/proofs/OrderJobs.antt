-- An order that is carried out is a job that is done.
use Rattle.std.proofs.Common.{ℕ, [], refl, sym}
use Rattle.std.proofs.lemmas.List.{append-nil}
use Rattle.mbox_link.specs.Calls.{World, Meaning}
use Rattle.tplg_plan.specs.declared.plans.Plan.{Plan}
use Rattle.host_widgets.specs.declared.kept.Record.{Record}
use Rattle.host_widgets.specs.Host.{Outcome}
use Rattle.host_widgets.specs.OneAct.{act_rules}
use Rattle.host_widgets.specs.Orders.{Procedure, Carried}
use Rattle.host_widgets.specs.Routines.{JobDone, order_job}

module _ {D : Type 0} (means : Meaning D) (plan : Plan) (heap : ℕ) (o : Procedure) (kept kept' : Record) (w v : World D) (result : Outcome) where
  abbrev pub order-done : Carried means plan heap o kept kept' w v result → JobDone means (act_rules plan heap) heap (order_job plan kept o) kept' w v result
  order-done c = record {
    meetings = c.meetings;
    begun = c.begun;
    first = c.first;
    did = (c.meetings, [], c.sent, sym (append-nil c.meetings), c.walked, (refl, c.ends.1));
    came = c.came;
    left = c.ends.0;
  }
