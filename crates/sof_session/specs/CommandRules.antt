-- What commands of a host rest on, whatever it keeps of a device.
use Rattle.std.specs.Prelude.{ℕ, List, Option}
use Rattle.host_widgets.specs.declared.answers.HostFault.{HostFault}
use Rattle.host_widgets.specs.ActRules.{ActRules}
use Rattle.host_widgets.specs.Routines.{Job}
use Rattle.sof_script.specs.declared.script.Command.{Command}

-- The rules of commands, by what the host keeps.
pub record CommandRules (S A : Type 0) : Type 0 where
  -- the rules of their acts
  pub acts : ActRules S A
  -- what is kept before the first command
  pub first : S
  -- the first test that fails, before any message
  pub fault : S → Command → Option HostFault
  -- what is done where none fails
  pub job : S → Command → Job S A
  -- the lines that follow where it shows
  pub shown : S → Command → List (List ℕ)
