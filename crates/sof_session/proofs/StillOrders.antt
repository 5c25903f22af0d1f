-- Orders that leave the power as it is, and meet the device with messages alone.
use Rattle.std.proofs.Common.{◌≡◌, refl, ℕ, List, [], Option, Some, None}
use Rattle.tplg_plan.specs.declared.plans.Plan.{Plan}
use Rattle.tplg_plan.specs.declared.plans.ControlPlan.{ControlPlan}
use Rattle.host_widgets.specs.declared.answers.Answer.{Answer}
use Rattle.host_widgets.specs.declared.kept.ControlRec.{ControlRec}
use Rattle.host_widgets.specs.declared.kept.Found.{Found}
use Rattle.host_widgets.specs.declared.kept.Power.{Power}
use Rattle.host_widgets.specs.declared.kept.Power.TheVariants.{On}
use Rattle.host_widgets.specs.declared.kept.Record.{Record}
use Rattle.host_widgets.specs.HostActs.{Act}
use Rattle.host_widgets.specs.Orders.{Procedure, Plain, quiet, sends}
use Rattle.host_pcm.specs.declared.asking.Ask.{Ask}
use Rattle.host_pcm.specs.declared.asking.Ask.TheVariants.{Opening}
use Rattle.host_pcm.specs.StreamOrders.{asking_order}
use Rattle.host_ctl.specs.ControlAsks.{named_control}
use Rattle.host_ctl.specs.ControlOrders.{setting_order, set_order, installing_order, bytes_order, get_order, named_at, reading_order, read_order}
use Rattle.sof_session.specs.AskedOrders.{asked_order}

-- it has no first moments, ends alone, and what it leaves has the power
pub record IsStill (o : Procedure) : Type 0 where
  pub first : o.first ≡ []
  pub ending : o.ending ≡ Plain
  pub done : (kept : Record) → (o.done kept).power ≡ kept.power

sends-still : (power : Power) (acts : List Act) (done : Record → Record) (answer : Answer) → ((kept : Record) → (done kept).power ≡ kept.power) → IsStill (sends power acts done answer)
sends-still On acts done answer keeps = record { first = refl; ending = refl; done = keeps }
sends-still power acts done answer keeps = record { first = refl; ending = refl; done = keeps }

pub quiet-still : (answer : Answer) → IsStill (quiet answer)
quiet-still answer = record { first = refl; ending = refl; done = λ kept. refl }

setting-still : (plan : Plan) (kept : Record) (values : List ℕ) (o : Option ControlPlan) → IsStill (setting_order plan kept values o)
setting-still plan kept values None = quiet-still _
setting-still plan kept values (Some k) = sends-still kept.power _ _ _ (λ now. refl)

installing-still : (plan : Plan) (kept : Record) (blob : List ℕ) (o : Option ControlPlan) → IsStill (installing_order plan kept blob o)
installing-still plan kept blob None = quiet-still _
installing-still plan kept blob (Some k) = sends-still kept.power _ _ _ (λ now. refl)

reading-still : (kept : Record) (o : Option (ControlPlan × ControlRec)) → IsStill (reading_order kept o)
reading-still kept None = quiet-still _
reading-still kept (Some (k, c)) = sends-still kept.power _ _ _ (λ now. refl)

asking-still : (plan : Plan) (kept : Record) (host : ℕ) (found : Found) (ask : Ask) → IsStill (asking_order plan kept host found ask)
asking-still plan kept host found Opening = sends-still kept.power _ _ _ (λ now. refl)
asking-still plan kept host found ask = sends-still kept.power _ _ _ (λ now. refl)

-- those of calls on controls, and of what a command asks of a stream, if it asks anything
pub set-still : (plan : Plan) (kept : Record) (name values : List ℕ) → IsStill (set_order plan kept name values)
set-still plan kept name values = setting-still plan kept values (named_control plan name)

pub bytes-still : (plan : Plan) (kept : Record) (name blob : List ℕ) → IsStill (bytes_order plan kept name blob)
bytes-still plan kept name blob = installing-still plan kept blob (named_control plan name)

pub get-still : (plan : Plan) (kept : Record) (name : List ℕ) → IsStill (get_order plan kept name)
get-still plan kept name = quiet-still _

pub read-still : (plan : Plan) (kept : Record) (name : List ℕ) → IsStill (read_order plan kept name)
read-still plan kept name = reading-still kept (named_at plan kept name)

pub asked-still : (plan : Plan) (kept : Record) (asked : Option (List ℕ × Ask)) → IsStill (asked_order plan kept asked)
asked-still plan kept None = quiet-still _
asked-still plan kept (Some (name, ask)) = asking-still plan kept _ _ ask
