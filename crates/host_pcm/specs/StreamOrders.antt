-- What is done on a stream: an opening and a closing change the record also where they send nothing.
use Rattle.std.specs.Prelude.{ℕ, List, [], ◌∷◌, get_or, unwrap_or, None}
use Rattle.tplg_plan.specs.declared.plans.Plan.{Plan}
use Rattle.host_widgets.specs.declared.answers.Answer.TheVariants as answers
use Rattle.host_widgets.specs.declared.kept.Found.{Found}
use Rattle.host_widgets.specs.declared.kept.Found.TheVariants.{Open}
use Rattle.host_widgets.specs.declared.kept.Record.{Record}
use Rattle.host_widgets.specs.HostRecord.{closed, no_stream}
use Rattle.host_widgets.specs.Kept.{with_stream}
use Rattle.host_widgets.specs.HostActs.{Prepare, Trig}
use Rattle.host_widgets.specs.ActLists.{close_by}
use Rattle.host_widgets.specs.Orders.{Procedure, sends}
use Rattle.host_pcm.specs.declared.asking.Ask.{Ask}
use Rattle.host_pcm.specs.declared.asking.Ask.TheVariants.{Opening, Preparing, Triggering, Closing}
use Rattle.host_pcm.specs.Asks.{stream_place, stream_at}

-- by the stream's host and how far it is
abbrev pub asking_order : Plan → Record → ℕ → Found → Ask → Procedure
asking_order plan kept host found Opening = sends kept.power [] (with_stream plan host (λ r. record { found = Open; params = None })) answers.Done
asking_order plan kept host found (Preparing params) = sends kept.power (Prepare host params ∷ []) (λ now. now) answers.Done
asking_order plan kept host found (Triggering what) = sends kept.power (Trig host what ∷ []) (λ now. now) answers.Done
asking_order plan kept host found Closing = sends kept.power (close_by host found) (with_stream plan host (λ r. closed)) answers.Done

-- of the stream of this name
abbrev pub stream_order : Plan → Record → List ℕ → Ask → Procedure
stream_order plan kept name ask =
    let k = unwrap_or (stream_place plan name) 0 in
    asking_order plan kept (get_or plan.streams k no_stream).host (stream_at kept k).found ask
