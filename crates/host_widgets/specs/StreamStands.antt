-- What a stream takes that stands so.
use Rattle.std.specs.Prelude.{Bool, true, false}
use Rattle.host_widgets.specs.declared.kept.Found.{Found}
use Rattle.host_widgets.specs.declared.kept.Found.TheVariants.{Open, Prepared, Running, Paused}
use Rattle.host_widgets.specs.declared.trigger.Trigger.{Trigger}
use Rattle.host_widgets.specs.declared.trigger.Trigger.TheVariants.{Start, Stop, Pause, Release}

-- a stream that stands so may be triggered so
abbrev pub takes_trigger : Trigger → Found → Bool
takes_trigger Start Prepared = true
takes_trigger Stop Running = true
takes_trigger Stop Paused = true
takes_trigger Pause Running = true
takes_trigger Release Paused = true
takes_trigger what found = false

-- without parameters, or with some and at rest
abbrev pub takes_params : Found → Bool
takes_params Open = true
takes_params Prepared = true
takes_params found = false
