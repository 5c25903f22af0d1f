-- Which messages leave a schedule as it is.
use Rattle.std.specs.Prelude.{Bool, true, false, Result, Ok, Err}
use Rattle.sof_base.specs.declared.errno.Errno.{Errno}
use Rattle.ipc3_model.specs.declared.reply.Body.{Body}
use Rattle.ipc3_model.specs.declared.reply.Body.TheVariants.{Nothing, Values, Part}
use Rattle.ipc3_model.specs.declared.message.Message.{Message}
use Rattle.ipc3_model.specs.declared.message.Message.TheVariants.{SetValue, SetData, CtxSave}
use Rattle.ipc3_model.specs.declared.fault.CodecFault.{CodecFault}

-- whether a body tells something
abbrev pub tells : Body → Bool
tells Nothing = false
tells (Values values) = true
tells (Part part) = true

-- whether a message with this answer changed nothing: it was refused, or it only asked for something
abbrev pub changes_nothing : Result Body Errno → Bool
changes_nothing (Ok body) = tells body
changes_nothing (Err error) = true

-- whether a message leaves what the steps of a schedule are made of: it changes at most what is set at a component
abbrev pub keeps_steps : Result Message CodecFault → Bool
keeps_steps (Ok (SetValue id command values)) = true
keeps_steps (Ok (SetData id part)) = true
keeps_steps (Ok CtxSave) = true
keeps_steps message = false
