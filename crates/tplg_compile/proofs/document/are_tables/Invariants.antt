use Rattle.std.proofs.Common.{◌≡◌, drop}
use Rattle.tplg_compile.specs.ProgramValues.{viewed}
use Rattle.tplg_compile.specs.DocumentLists.{are_tables}
use Rattle.tplg_compile.proofs.document.are_tables.Given as goal

abbrev pub invariant-loop-value : goal.invariant-loop-value
invariant-loop-value l = are_tables (viewed (drop l.value-index l.values)) ≡ are_tables (viewed l.values)
