-- What acts of a host rest on, whatever it keeps of a device.
use Rattle.std.specs.Prelude.{ℕ, Option}
use Rattle.sof_base.specs.declared.errno.Errno.{Errno}
use Rattle.stream_law.specs.State.{View}
use Rattle.ipc3_model.specs.declared.message.Message.{Message}

-- The rules of acts, each of which is one message, by what the host keeps.
pub record ActRules (S A : Type 0) : Type 0 where
  -- what the firmware itself refuses
  pub own : S → A → Option Errno
  -- what is kept after an act that passed
  pub after : A → S → S
  -- what the firmware shows by what is kept
  pub view : S → View
  -- the equaliser whose blob comes in force, or the volume whose gains do
  pub fresh : A → Option ℕ
  -- what the host writes
  pub message : A → Message
