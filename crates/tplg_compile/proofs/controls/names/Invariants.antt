use Rattle.std.proofs.Common.{◌≡◌, drop}
use Rattle.tplg_compile.specs.ValueForm.{each, name_of}
use Rattle.tplg_compile.specs.ProgramValues.{viewed}
use Rattle.tplg_compile.proofs.LoopLaws.{behind}
use Rattle.tplg_compile.proofs.controls.names.Given as goal

abbrev pub invariant-loop-value : goal.invariant-loop-value
invariant-loop-value l = behind l.names.items (each name_of (viewed (drop l.value-index l.values))) ≡ each name_of (viewed l.values)
