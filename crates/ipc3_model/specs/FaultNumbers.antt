-- The numbers of faults.
use Rattle.std.specs.Prelude.{ℕ}
use Rattle.ipc3_model.specs.declared.fault.CodecFault.{CodecFault}
use Rattle.ipc3_model.specs.declared.fault.CodecFault.TheVariants.{Short, SizeWord, Command, Field}

-- a fault's number
abbrev pub codec_fault_number : CodecFault → ℕ
codec_fault_number Short = 1
codec_fault_number SizeWord = 2
codec_fault_number (Command word) = 3
codec_fault_number (Field at) = 4
