-- The faults of a blob by their names.
use Rattle.std.specs.Prelude.{Option, Some, None, Result, Ok, Err}
use Rattle.sof_base.specs.BlobFaults.{BlobFault}
use Rattle.sof_base.specs.BlobFaults as form
use Rattle.eq_blob.specs.declared.fault.EqFault.{EqFault}
use Rattle.eq_blob.specs.declared.fault.EqFault.TheVariants.{Size, Magic, HeaderSize, Channels, Responses, Assignment, Sections, Shift, Length}

-- what a fault says of a blob
abbrev pub said : EqFault → BlobFault
said Size = form.Size
said Magic = form.Magic
said HeaderSize = form.HeaderSize
said Channels = form.Channels
said Responses = form.Responses
said (Assignment channel) = form.Assignment channel
said (Sections response) = form.Sections response
said (Shift response section) = form.Shift response section
said Length = form.Length

-- the fault of an answer
abbrev pub told : {A : Type 0} → Result A EqFault → Option BlobFault
told (Ok x) = None
told (Err fault) = Some (said fault)
