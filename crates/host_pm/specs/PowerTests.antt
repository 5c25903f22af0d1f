-- The tests of a suspend and a resume before any message, in their order.
use Rattle.std.specs.Prelude.{Option, Some, None}
use Rattle.std.specs.Option.{option_or}
use Rattle.host_widgets.specs.declared.answers.HostFault.{HostFault}
use Rattle.host_widgets.specs.declared.answers.HostFault.TheVariants as faults
use Rattle.host_widgets.specs.declared.kept.Found.TheVariants as founds
use Rattle.host_widgets.specs.declared.kept.Power.{Power}
use Rattle.host_widgets.specs.declared.kept.Power.TheVariants.{On}
use Rattle.host_widgets.specs.Named.{off_fault}
use Rattle.host_widgets.specs.Orders.{unload_fault}

-- a resume asks that the power is off
abbrev pub on_fault : Power → Option HostFault
on_fault On = Some (faults.State founds.On)
on_fault power = None

-- a suspend asks for the power, and both that something is loaded
abbrev pub suspend_fault : Power → Option HostFault
suspend_fault power = option_or (unload_fault power) (off_fault power)

abbrev pub resume_fault : Power → Option HostFault
resume_fault power = option_or (unload_fault power) (on_fault power)
