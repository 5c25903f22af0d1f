-- Streams at rest.
use Rattle.std.specs.Prelude.{ℕ, None}
use Rattle.stream_law.specs.declared.stream.Phase.TheVariants.{Idle}
use Rattle.stream_law.specs.declared.stream.StreamView.{StreamView}
use Rattle.tplg_plan.specs.declared.plans.Plan.{Plan}
use Rattle.host_widgets.specs.declared.kept.Power.{Power}
use Rattle.host_widgets.specs.declared.kept.Record.{Record}
use Rattle.host_widgets.specs.Kept.{first_record, with_power}

-- a stream of a host, without parameters
abbrev pub idle_view : ℕ → StreamView
idle_view host = record { host = host; phase = Idle; params = None }

-- every stream is closed and every control is as it begins, at this power
abbrev pub all_closed : Power → Plan → Record
all_closed power plan = with_power power (first_record plan)
