-- What a call does by its test, and the result of acts.
use Rattle.std.specs.Prelude.{◌≡◌, ℕ, List, Bool, Option, Some, None, Err}
use Rattle.mbox_link.specs.Calls.{World, Meaning}
use Rattle.tplg_plan.specs.declared.plans.Plan.{Plan}
use Rattle.host_widgets.specs.declared.answers.HostFault.{HostFault}
use Rattle.host_widgets.specs.Host.{Outcome}
use Rattle.mbox_link.specs.Meetings.{Meeting}
use Rattle.host_widgets.specs.declared.kept.Record.{Record}
use Rattle.host_widgets.specs.HostActs.{Act}
use Rattle.host_widgets.specs.OneAct.{act_rules}
use Rattle.host_widgets.specs.Walk.{walk}
use Rattle.host_widgets.specs.ActCalls.{ActsDid, next_of}
use Rattle.host_widgets.specs.Orders.{Procedure, Carried}

-- These acts were sent by one exchange each, up to the end of the walk, and no other call was made. By what the messages met there,
-- they had this result, and left this record.
pub record ActsCame {D : Type 0} (means : Meaning D) (plan : Plan) (heap : ℕ) (past_refusals : Bool) (acts : List Act) (kept kept' : Record) (w v : World D) (result : Outcome) : Type 0 where
  pub meetings : List Meeting
  pub did : ActsDid means (act_rules plan heap) past_refusals kept acts meetings w v
  pub came : result ≡ (walk (act_rules plan heap) past_refusals next_of kept meetings acts).outcome
  pub left : kept' ≡ (walk (act_rules plan heap) past_refusals next_of kept meetings acts).kept

-- where the test tells a fault, that is answered, with nothing changed and no call made; else the order is carried out
pub record Tested {D : Type 0} (means : Meaning D) (plan : Plan) (heap : ℕ) (test : Option HostFault) (o : Procedure) (kept kept' : Record) (w v : World D) (result : Outcome) : Type 0 where
  pub early : (fault : HostFault) → test ≡ Some fault → (result ≡ Err fault) × (v ≡ w) × (kept' ≡ kept)
  pub late : test ≡ None → Carried means plan heap o kept kept' w v result
