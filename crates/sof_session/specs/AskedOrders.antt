-- What is done of what a command asks of a stream, if it asks anything.
use Rattle.std.specs.Prelude.{ℕ, List, Option}
use Rattle.std.specs.Option.{option_map_or}
use Rattle.tplg_plan.specs.declared.plans.Plan.{Plan}
use Rattle.host_widgets.specs.declared.answers.Answer.TheVariants as answers
use Rattle.host_widgets.specs.declared.kept.Record.{Record}
use Rattle.host_widgets.specs.Orders.{Procedure, quiet}
use Rattle.host_pcm.specs.declared.asking.Ask.{Ask}
use Rattle.host_pcm.specs.StreamOrders.{stream_order}

-- the order
abbrev pub asked_order : Plan → Record → Option (List ℕ × Ask) → Procedure
asked_order plan kept asked = option_map_or (λ (asked : List ℕ × Ask). stream_order plan kept asked.0 asked.1) asked (quiet answers.Done)
