-- The tests of each command before any message, in their order.
use Rattle.std.specs.Prelude.{ℕ, List, Option, Some, None}
use Rattle.std.specs.Option.{option_and_then}
use Rattle.tplg_plan.specs.declared.plans.Plan.{Plan}
use Rattle.host_widgets.specs.declared.answers.HostFault.{HostFault}
use Rattle.host_widgets.specs.declared.kept.Record.{Record}
use Rattle.host_widgets.specs.declared.trigger.Trigger.TheVariants as triggers
use Rattle.host_widgets.specs.Orders.{fault_of_load, unload_fault}
use Rattle.host_pcm.specs.declared.asking.Ask.{Ask}
use Rattle.host_pcm.specs.declared.asking.Ask.TheVariants.{Opening, Preparing, Triggering, Closing}
use Rattle.host_pcm.specs.Asks.{early_fault}
use Rattle.host_pm.specs.PowerTests.{suspend_fault, resume_fault}
use Rattle.host_ctl.specs.ControlAsks.{set_fault, bytes_fault, get_fault, read_fault}
use Rattle.sof_script.specs.declared.script.Command.{Command}
use Rattle.sof_script.specs.declared.script.Command.TheVariants as commands

-- what a command asks of a stream, with the stream's name
abbrev pub asking : Command → Option (List ℕ × Ask)
asking (commands.Open name) = Some (name, Opening)
asking (commands.Params name params) = Some (name, Preparing params)
asking (commands.Start name) = Some (name, Triggering triggers.Start)
asking (commands.Stop name) = Some (name, Triggering triggers.Stop)
asking (commands.Pause name) = Some (name, Triggering triggers.Pause)
asking (commands.Release name) = Some (name, Triggering triggers.Release)
asking (commands.Close name) = Some (name, Closing)
asking command = None

-- the first test that fails
abbrev pub fault_of : Plan → Record → Command → Option HostFault
fault_of plan kept commands.Load = fault_of_load kept.power
fault_of plan kept commands.Unload = unload_fault kept.power
fault_of plan kept commands.Suspend = suspend_fault kept.power
fault_of plan kept commands.Resume = resume_fault kept.power
fault_of plan kept (commands.Set name values) = set_fault plan kept name values
fault_of plan kept (commands.Bytes name blob) = bytes_fault plan kept name blob
fault_of plan kept (commands.Get name) = get_fault plan kept name
fault_of plan kept (commands.Read name) = read_fault plan kept name
fault_of plan kept command = option_and_then (λ (asked : List ℕ × Ask). early_fault plan kept asked.0 asked.1) (asking command)
