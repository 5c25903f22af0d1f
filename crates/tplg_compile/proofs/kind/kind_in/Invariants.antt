use Rattle.std.proofs.Common.{◌≡◌, drop}
use Rattle.tplg_compile.specs.KeyTables.{kind_listed}
use Rattle.tplg_compile.specs.ProgramValues.{listed_kinds}
use Rattle.tplg_compile.proofs.kind.kind_in.Given as goal

abbrev pub invariant-loop-name : goal.invariant-loop-name
invariant-loop-name l = kind_listed l.text (listed_kinds (drop l.name-index l.kinds)) ≡ kind_listed l.text (listed_kinds l.kinds)
