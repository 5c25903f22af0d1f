use Rattle.std.proofs.Common.{◌≡◌, drop}
use Rattle.tplg_compile.specs.ProgramValues.{viewed}
use Rattle.tplg_compile.specs.Entries.{bits_with}
use Rattle.tplg_compile.proofs.pcms.formats.Given as goal

abbrev pub invariant-loop-value : goal.invariant-loop-value
invariant-loop-value l = bits_with l.bits (viewed (drop l.value-index l.value-items)) ≡ bits_with 0 (viewed l.value-items)
